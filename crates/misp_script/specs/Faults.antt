-- The first fault of a description.
use Rattle.std.specs.Prelude.{◌≡◌, ℕ, Bool, List, codes, Option, Some, None, Result, Ok, Err, ⊤, if◌then◌else◌}
pub use Rattle.misp_lists.specs.Reading.{◌>>=◌}
use Rattle.misp_script.specs.declared.fault.DescNeed.{DescNeed}
use Rattle.misp_script.specs.declared.fault.DescFault.{DescFault}

-- the word for a need
unfoldable pub need_name : DescNeed → List ℕ
need_name DescNeed.Toml = codes "toml"
need_name DescNeed.Member = codes "member"
need_name DescNeed.Limit = codes "limit"
need_name DescNeed.Present = codes "present"
need_name DescNeed.Text = codes "text"
need_name DescNeed.Flag = codes "flag"
need_name DescNeed.Name = codes "name"
need_name DescNeed.Uuid = codes "uuid"
need_name DescNeed.Key = codes "key"
need_name DescNeed.Role = codes "role"
need_name DescNeed.Known = codes "known"
need_name DescNeed.Distinct = codes "distinct"
need_name DescNeed.Host = codes "host"

-- a value, or the first fault
abbrev pub Reading : Type 0 → Type 0
Reading A = Result A DescFault

-- the fault is the one that reading gives, unless memory ran out
abbrev pub Fails : {A : Type 0} → DescFault → Reading A → Type 0
Fails DescFault.NoMemory read = Unit {0}
Fails (DescFault.Bad path need) read = read ≡ Err (DescFault.Bad path need)

-- What a function returned is what reading gives, unless memory ran out.
abbrev pub Gives : {A : Type 0} → Reading A → Reading A → Type 0
Gives (Ok x) read = read ≡ Ok x
Gives (Err fault) read = Fails fault read

-- a need at a path
abbrev pub bad : {A : Type 0} → List ℕ → DescNeed → Reading A
bad path need = Err (DescFault.Bad path need)

-- what there is, or a need at the path
abbrev pub or_bad : {A : Type 0} → List ℕ → DescNeed → Option A → Reading A
or_bad path need None = bad path need
or_bad path need (Some x) = Ok x

-- a need at the path where the test holds
abbrev pub bad_if : Bool → List ℕ → DescNeed → Reading ⊤
bad_if test path need = if test then bad path need else Ok tt
