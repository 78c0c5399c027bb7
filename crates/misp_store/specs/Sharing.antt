-- Sharing groups as a keeper holds them, among the rows of its administration.
use Rattle.std.specs.Prelude.{◌≡◌, ℕ, ◌^◌, Bool, true, false, ltb, ◌==◌, ◌&&◌, cond, List, [], ◌∷◌, ◌++◌, Result, Ok, Err, bytes_eq, option_map, not, is_ok, Option, None, Some, IfSome}
use Rattle.std.specs.Result.{result_ok}
use Rattle.misp_lists.specs.Order.{ascend}
use Rattle.misp_lists.specs.Prelude.{list_all, list_any, option_map_or}
use Rattle.misp_outside.specs.Held.{admin_before, same_admin}
use Rattle.misp_admin_rows.specs.Rows.{other_rows}
use Rattle.misp_format.specs.Prelude.{AllByRecursion, GroupId, IsGroup, group_in_text}
use Rattle.misp_effects.specs.Prelude.{AdminRow, Group, Held, KeeperState, uid}
use Rattle.misp_format.specs.WholeGroup.{group_text}
use Rattle.misp_effects.specs.KeeperStates.{WhereTold, told}
use Rattle.misp_store.specs.Raw.{onto, rows_in}

-- ---- writing

-- the kind of the rows of groups
abbrev pub group_kind : ℕ
group_kind = 1

-- the sixteen bytes of the creator, and the sixteen of the group's own identifier
unfoldable pub group_name : GroupId → List ℕ
group_name id = uid id.creator.0 ++ uid id.uuid

-- 1 for a group that was carried here, and 0 for another
abbrev pub carried_flag : Bool → ℕ
carried_flag true = 1
carried_flag false = 0

-- a group as a keeper holds it: whether it was carried here, and its text, under its name
unfoldable pub group_row : Group → AdminRow
group_row g = record {
  kind = group_kind;
  name = group_name g.id;
  bytes = carried_flag g.carried ∷ group_text g;
}

-- ---- reading

-- the group, carried here where the flag is 1
abbrev pub flagged : ℕ → Group → Group
flagged flag g = record g { carried = flag == 1 }

-- the group that a flag and a text tell
unfoldable pub group_told : List ℕ → Option Group
group_told [] = None
group_told (flag ∷ text) = option_map (flagged flag) (result_ok (group_in_text text))

-- both identifiers have sixteen bytes
abbrev pub is_id : GroupId → Bool
is_id id = ltb id.creator.0.0 (2 ^ 128) && ltb id.uuid.0 (2 ^ 128)

-- the row is just that of this group
unfoldable pub is_row_of : AdminRow → Group → Bool
is_row_of row g =
    is_id g.id && (same_admin row (group_row g) && bytes_eq row.bytes (group_row g).bytes)

-- the group, where the row is just its row
abbrev pub group_where : AdminRow → Option Group → Option Group
group_where row None = None
group_where row (Some g) = cond (is_row_of row g) (Some g) None

-- the group that the bytes of a row tell, where it is just that group's row
unfoldable pub group_in : AdminRow → Option Group
group_in row = group_where row (group_told row.bytes)

-- all these rows are groups: they, or the name of the first row that is none
unfoldable pub all_groups_in : List AdminRow → Result (List Group) (List ℕ)
all_groups_in [] = Ok []
all_groups_in (row ∷ rows) = onto row.name (group_in row) (all_groups_in rows)

-- all the groups, or the name of the first row that is neither a group nor an item
unfoldable pub groups_in : List AdminRow → Result (List Group) (List ℕ)
groups_in rows = all_groups_in (other_rows rows)

-- it is a group, and its row is read as it
pub record IsStorable (g : Group) : Type 0 where
  pub is_group : IsGroup g
  pub read : group_in (group_row g) ≡ Some g

-- the same of each of these
abbrev pub AreStorable : List Group → Type 0
AreStorable groups = AllByRecursion IsStorable groups

-- these groups, or none where they are not read
abbrev pub or_none : Result (List Group) (List ℕ) → List Group
or_none (Ok groups) = groups
or_none (Err name) = []

-- the groups that are held, or none where a row of the administration does not decode
abbrev pub groups_of : Held → List Group
groups_of held = or_none (groups_in held.admin)

-- ---- keeping

-- its rows of the administration ascend, and these are its groups
pub record HasGroups (held : Held) (groups : List Group) : Type 0 where
  pub order : ascend admin_before held.admin ≡ true
  pub are : groups_in held.admin ≡ Ok groups

-- where the keeper reports what it holds, it holds these groups
abbrev pub HoldsGroups : Option Held → List Group → Type 0
HoldsGroups held groups = IfSome held (λ h. HasGroups h groups)

-- ---- what keepers report

-- every row of the administration is a group or an item
abbrev pub has_sound_admin : Held → Bool
has_sound_admin held = is_ok (groups_in held.admin)

-- the same, and the rows of the administration ascend
pub record HasSoundAdmin (held : Held) : Type 0 where
  pub order : ascend admin_before held.admin ≡ true
  pub read : has_sound_admin held ≡ true

-- every row of the administration is a group or an item, and every row is read
abbrev pub is_sound : Held → Bool
is_sound held = has_sound_admin held && is_ok (rows_in held.rows)

-- the same of all keepers, where they report what they hold in the end
abbrev pub WereSound : List KeeperState → List KeeperState → Type 0
WereSound old new = WhereTold old new (λ before after. list_all is_sound before ≡ true)

-- as far as the keepers report, a row does not decode
abbrev pub may_be_unsound : List KeeperState → Bool
may_be_unsound old = list_any (λ held. option_map_or (λ h. not (is_sound h)) held true) (told old)
