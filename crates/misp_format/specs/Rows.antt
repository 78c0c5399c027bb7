-- What a row of a table reads, and how rows follow each other: the first fault counts.
use Rattle.std.specs.Prelude.{◌≡◌, ℕ, ◌+◌, List, Result, Ok, Err, if◌then◌else◌, is_some}
use Rattle.std.specs.Option.{option_map_or}
use Rattle.serde_json.specs.Data.{Data, Items, no_items, item}
use Rattle.serde_json.specs.Find.{as_object}
pub use Rattle.misp_lists.specs.Reading.{◌>>=◌}
use Rattle.misp_fields.specs.declared.need.Need.{Need}
use Rattle.misp_fields.specs.Fields.{member_of}
use Rattle.misp_format.specs.declared.fault.FormatFault.{FormatFault}
use Rattle.misp_format.specs.Body.{Body}
use Rattle.misp_format.specs.Path.{member_path}

-- a value, or the first fault
abbrev pub Reading : Type 0 → Type 0
Reading A = Result A FormatFault

-- the fault is the one that reading gives, unless memory ran out
abbrev pub Fails : {A : Type 0} → FormatFault → Reading A → Type 0
Fails FormatFault.NoJson read = read ≡ Err FormatFault.NoJson
Fails FormatFault.NoMemory read = Unit {0}
Fails (FormatFault.BadField path need) read = read ≡ Err (FormatFault.BadField path need)
Fails (FormatFault.BinaryType path) read = read ≡ Err (FormatFault.BinaryType path)

-- What a function returned is what reading gives, unless memory ran out.
abbrev pub Gives : {A : Type 0} → Reading A → Reading A → Type 0
Gives (Ok x) read = read ≡ Ok x
Gives (Err fault) read = Fails fault read

-- the same of what it returned as view shows it
abbrev pub Shows : {X A : Type 0} → (X → A) → Reading X → Reading A → Type 0
Shows view (Ok x) read = read ≡ Ok (view x)
Shows view (Err fault) read = Fails fault read

-- what was read of the member of this name, or its fault
abbrev pub at : {A : Type 0} → Body → List ℕ → Result A Need → Reading A
at it name (Ok x) = Ok x
at it name (Err need) = Err (FormatFault.BadField (member_path it.path name) need)

-- ROW: the member of this name by its reader, and what counts where it is absent
abbrev pub row : {A : Type 0} → Body → List ℕ → (Data → Result A Need) → Result A Need → Reading A
row it name reader absent = at it name (option_map_or reader (member_of name it.value) absent)

-- what counts where a member must not be absent
abbrev pub must_be : {A : Type 0} → Result A Need
must_be = Err Need.Present

-- the value at a path, which must be an object
abbrev pub body_at : List ℕ → Data → Reading Body
body_at path d =
    if is_some (as_object d) then Ok (record { path = path; value = d })
    else Err (FormatFault.BadField path Need.Object)

-- EACH: the items in order, each with its place in the list, onto what was read before
abbrev pub each : {S : Type 0} → (ℕ → S → Data → Reading S) → ℕ → S → Items → Reading S
each reads n so_far no_items = Ok so_far
each reads n so_far (item d ds) = reads n so_far d >>= λ more. each reads (n + 1) more ds
