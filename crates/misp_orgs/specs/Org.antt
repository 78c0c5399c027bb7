-- Organisations, as contracts see them.
use Rattle.std.specs.Prelude.{ℕ, ◌≤◌, ◌==◌, ◌&&◌, Bool, not, nat_le, nat_lt, List, length, bytes_eq, Option, option_map, find, is_some, chars}
use Rattle.std.specs.Char.{is_control}
use Rattle.misp_lists.specs.Prelude.{list_any}
use Rattle.misp_ids.specs.declared.uid.OrgId.{OrgId}

-- the most bytes that an organisation's name has
abbrev pub name_limit : ℕ
name_limit = 64

-- 1 to 64 bytes, and no control character
abbrev pub is_org_name : List ℕ → Bool
is_org_name text =
    nat_lt 0 (length text) && nat_le (length text) name_limit
    && not (list_any is_control (chars text))

-- its identifier and its name
pub record OrgFields : Type 0 where
  pub uuid : OrgId
  pub name : List ℕ

-- its name is short
abbrev pub IsOrg : OrgFields → Type 0
IsOrg o = length o.name ≤ name_limit

-- the organisation of this uuid
abbrev pub org_of : List OrgFields → OrgId → Option OrgFields
org_of orgs uuid = find (λ o. o.uuid.0.0 == uuid.0.0) orgs

-- its name
abbrev pub name_of : List OrgFields → OrgId → Option (List ℕ)
name_of orgs uuid = option_map (λ o. o.name) (org_of orgs uuid)

-- there is one
abbrev pub has_org : List OrgFields → OrgId → Bool
has_org orgs uuid = is_some (org_of orgs uuid)

-- one has this name
abbrev pub has_org_name : List OrgFields → List ℕ → Bool
has_org_name orgs name = list_any (λ o. bytes_eq o.name name) orgs
