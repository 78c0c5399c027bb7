-- The entries of a list of tables, and their members.
use Rattle.std.specs.Prelude.{ℕ, ◌+◌, Bool, List, [], ◌∷◌, ◌++◌, codes, decimal, bytes_eq, Option, is_some, None, Ok, ⊤, if◌then◌else◌}
use Rattle.toml.specs.Data.{Data, Members, no_members, member, get, as_str, as_bool, as_table}
use Rattle.misp_lists.specs.Prelude.{list_any, option_map_or}
use Rattle.misp_script.specs.declared.fault.DescNeed.{DescNeed}
use Rattle.misp_script.specs.Faults.{Reading, ◌>>=◌, bad, or_bad, bad_if}

-- ---- paths

-- an entry of a list
abbrev pub entry_path : List ℕ → ℕ → List ℕ
entry_path list n = list ++ codes "[" ++ decimal n ++ codes "]"

-- a member of what stands at a path
abbrev pub member_path : List ℕ → List ℕ → List ℕ
member_path path name = path ++ codes "." ++ name

-- ---- members

-- an entry that is read, and its path
pub record Body : Type 0 where
  pub path : List ℕ
  pub value : Data

abbrev pub entry_of : List ℕ → ℕ → Data → Body
entry_of list n d = record { path = entry_path list n; value = d }

-- there is a member of this name
abbrev pub has : Body → List ℕ → Bool
has it name = is_some (get name it.value)

-- a text at a member's path
abbrev pub text_of : List ℕ → Data → Reading (List ℕ)
text_of path d = or_bad path DescNeed.Text (as_str d)

-- the text that a member must have
abbrev pub text_at : Body → List ℕ → Reading (List ℕ)
text_at it name =
    option_map_or (text_of (member_path it.path name)) (get name it.value)
    (bad (member_path it.path name) DescNeed.Present)

-- the text of a member, which is empty where there is none
abbrev pub text_or_none_at : Body → List ℕ → Reading (List ℕ)
text_or_none_at it name =
    option_map_or (text_of (member_path it.path name)) (get name it.value) (Ok [])

-- the text of a member, if it has one
abbrev pub text_in : Body → List ℕ → Option (List ℕ)
text_in it name = option_map_or as_str (get name it.value) None

-- a flag at a member's path
abbrev pub flag_of : List ℕ → Data → Reading Bool
flag_of path d = or_bad path DescNeed.Flag (as_bool d)

-- the flag of a member, or what it is where there is none
abbrev pub flag_or_at : Body → List ℕ → Bool → Reading Bool
flag_or_at it name other =
    option_map_or (flag_of (member_path it.path name)) (get name it.value) (Ok other)

-- what a member says, or its need
abbrev pub said : {A : Type 0} → Body → List ℕ → DescNeed → Option A → Reading A
said it name need x = or_bad (member_path it.path name) need x

-- a need of a member where the test holds
abbrev pub refused_if : Bool → Body → List ℕ → DescNeed → Reading ⊤
refused_if test it name need = bad_if test (member_path it.path name) need

-- no member has another name; the first that has, in byte order, is a fault
abbrev pub named_among : List (List ℕ) → List ℕ → Bool
named_among names name = list_any (λ known. bytes_eq known name) names

abbrev pub none_beside : List ℕ → List (List ℕ) → Members → Reading ⊤
none_beside path names no_members = Ok tt
none_beside path names (member name d ms) =
    if named_among names name then none_beside path names ms
    else bad (member_path path name) DescNeed.Member

abbrev pub no_other : Body → List (List ℕ) → Reading ⊤
no_other it names = option_map_or (none_beside it.path names) (as_table it.value) (Ok tt)

-- ---- lists

-- the entries in order, each with its place in the list, onto what was read before
abbrev pub each : {S : Type 0} → (ℕ → S → Data → Reading S) → ℕ → S → List Data → Reading S
each reads n so_far [] = Ok so_far
each reads n so_far (d ∷ ds) = reads n so_far d >>= λ more. each reads (n + 1) more ds
