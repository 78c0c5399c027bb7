-- Groups beside items, among the rows of the administration.
use Rattle.std.proofs.Common.{◌≡◌, Bool, true, false, not, List, [], ◌∷◌, map, refl, ap, ◌∙◌, Some, Ok, is_some}
use Rattle.misp_lists.proofs.Lists.{all-map, filter_all}
use Rattle.misp_lists.proofs.Prelude.{AllByRecursion, list_all}
use Rattle.misp_outside.specs.declared.row.AdminRow.{AdminRow}
use Rattle.misp_outside.specs.Held.{put_admin}
use Rattle.misp_groups.specs.Changes.{put_group}
use Rattle.misp_admin_rows.specs.Rows.{are_apart, is_item, is_item_kind, item_in, other_rows}
use Rattle.misp_model.proofs.Prelude.{Group}
use Rattle.misp_format.specs.Prelude.{IsGroup}
use Rattle.misp_store.specs.Sharing.{all_groups_in, group_row, groups_in}
use Rattle.misp_store.proofs.GroupRows.{AreReadBack, IsRead, group_put, groups_again, only_rows}

-- ---- kinds

-- the row of a group has the kind of no item, and is none
pub other_kind : (g : Group) → is_item_kind (group_row g).kind ≡ false
unfolding group_row
other_kind g = refl

pub group_is_none : (g : Group) → is_item (group_row g) ≡ false
unfolding item_in group_row
group_is_none g = refl

others_are : (groups : List Group) → other_rows (map group_row groups) ≡ map group_row groups
unfolding other_rows
others_are groups = filter_all (λ row. not (is_item row)) (map group_row groups) (all-map (λ row. not (is_item row)) group_row (λ g. ap not (group_is_none g)) groups)

-- ---- reading

-- what is held of groups is read as those groups
pub groups_are_read : AreReadBack → (groups : List Group) → AllByRecursion IsGroup groups → groups_in (map group_row groups) ≡ Ok groups
unfolding groups_in
groups_are_read back groups are = ap all_groups_in (others_are groups) ∙ groups_again back groups are

-- of the rows that are no items nothing else is
pub only_groups : (rows : List AdminRow) (groups : List Group) → groups_in rows ≡ Ok groups → other_rows rows ≡ map group_row groups
unfolding groups_in
only_groups rows groups e = only_rows (other_rows rows) groups e

-- so they have no kind of items
pub other_kinds : (rows : List AdminRow) (groups : List Group) → groups_in rows ≡ Ok groups → are_apart rows ≡ true
other_kinds rows groups e =
    ap (list_all (λ row. not (is_item_kind row.kind))) (only_groups rows groups e)
    ∙ all-map (λ row. not (is_item_kind row.kind)) group_row (λ g. ap not (other_kind g)) groups

-- ---- putting

-- the row of a group is put among the others, where the group is put
pub group_put_among : (g : Group) (rows : List AdminRow) (groups : List Group) → IsRead g → other_rows (put_admin (group_row g) rows) ≡ put_admin (group_row g) (other_rows rows) → groups_in rows ≡ Ok groups
    → groups_in (put_admin (group_row g) rows) ≡ Ok (put_group g groups)
unfolding groups_in
group_put_among g rows groups is among e = ap all_groups_in among ∙ group_put g is (other_rows rows) groups e

-- where the others stay, so do the groups
pub groups_stay : (row : AdminRow) (rows : List AdminRow) (groups : List Group) → other_rows (put_admin row rows) ≡ other_rows rows → groups_in rows ≡ Ok groups → groups_in (put_admin row rows) ≡ Ok groups
unfolding groups_in
groups_stay row rows groups stay e = ap all_groups_in stay ∙ e
