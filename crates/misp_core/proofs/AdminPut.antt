-- What is held of the administration where groups or an item are put.
use Rattle.std.proofs.Common.{◌≡◌, List, [], ◌∷◌, ◌++◌, true, refl, ap, ◌∙◌, map, Ok}
use Rattle.std.proofs.lemmas.List.{map-append}
use Rattle.misp_lists.specs.Order.{ascend}
use Rattle.misp_outside.specs.declared.row.AdminRow.{AdminRow}
use Rattle.misp_outside.specs.Held.{admin_before, put_admin, put_admins}
use Rattle.misp_admins.specs.Made.{IsItem}
use Rattle.misp_admins.specs.declared.item.Item.{Item}
use Rattle.misp_admin_rows.specs.Rows.{item_row, item_rows}
use Rattle.misp_effects.specs.Prelude.{put_group, put_groups}
use Rattle.misp_store.specs.Sharing.{group_row}
use Rattle.misp_core.specs.Prelude.{AllByRecursion, Group, IsGroup, groups_in}

-- ---- what the laws of the store say

-- the row of a group is put where the group is, and the items stay
pub record PutsGroups : Type 0 where
  pub put : (g : Group) (rows : List AdminRow) (groups : List Group) → IsGroup g → ascend admin_before rows ≡ true → groups_in rows ≡ Ok groups → groups_in (put_admin (group_row g) rows) ≡ Ok (put_group g groups)
  pub items : (g : Group) (rows : List AdminRow) → IsGroup g → ascend admin_before rows ≡ true → item_rows (put_admin (group_row g) rows) ≡ item_rows rows
  pub order : (row : AdminRow) (rows : List AdminRow) → ascend admin_before rows ≡ true → ascend admin_before (put_admin row rows) ≡ true

-- the row of an item is put among those of items, and the groups stay
pub record PutsItems : Type 0 where
  pub groups : (item : Item) (rows : List AdminRow) (groups : List Group) → IsItem item → ascend admin_before rows ≡ true → groups_in rows ≡ Ok groups → groups_in (put_admin (item_row item) rows) ≡ Ok groups
  pub items : (item : Item) (rows : List AdminRow) → IsItem item → ascend admin_before rows ≡ true → item_rows (put_admin (item_row item) rows) ≡ put_admin (item_row item) (item_rows rows)
  pub order : (row : AdminRow) (rows : List AdminRow) → ascend admin_before rows ≡ true → ascend admin_before (put_admin row rows) ≡ true

-- ---- what is held

-- these rows ascend, and these are their groups and the rows of their items
pub record HasAdmin (rows : List AdminRow) (groups : List Group) (items : List AdminRow) : Type 0 where
  pub order : ascend admin_before rows ≡ true
  pub groups_are : groups_in rows ≡ Ok groups
  pub items_are : item_rows rows ≡ items

module _ (puts : PutsGroups) where
  group_put : (g : Group) → IsGroup g → (rows : List AdminRow) (groups : List Group) (items : List AdminRow) → HasAdmin rows groups items → HasAdmin (put_admin (group_row g) rows) (put_group g groups) items
  group_put g is rows groups items has = record {
    order = puts.order (group_row g) rows has.order;
    groups_are = puts.put g rows groups is has.order has.groups_are;
    items_are = puts.items g rows is has.order ∙ has.items_are;
  }

  -- groups are put one after another
  pub groups_put : (gs : List Group) → AllByRecursion IsGroup gs → (rows : List AdminRow) (groups : List Group) (items : List AdminRow) → HasAdmin rows groups items
      → HasAdmin (put_admins (map group_row gs) rows) (put_groups groups gs) items
  unfolding put_admins put_groups
  groups_put [] are rows groups items has = has
  groups_put (g ∷ gs) are rows groups items has = groups_put gs are.1 (put_admin (group_row g) rows) (put_group g groups) items (group_put g are.0 rows groups items has)

-- an item is put
pub item_put : PutsItems → (item : Item) → IsItem item → (rows : List AdminRow) (groups : List Group) (items : List AdminRow) → HasAdmin rows groups items
    → HasAdmin (put_admin (item_row item) rows) groups (put_admin (item_row item) items)
item_put puts item is rows groups items has = record {
  order = puts.order (item_row item) rows has.order;
  groups_are = puts.groups item rows groups is has.order has.groups_are;
  items_are = puts.items item rows is has.order ∙ ap (put_admin (item_row item)) has.items_are;
}

-- ---- what was made

put_last : (rows : List AdminRow) (row : AdminRow) (held : List AdminRow) → put_admins (rows ++ row ∷ []) held ≡ put_admin row (put_admins rows held)
unfolding put_admins
put_last [] row held = refl
put_last (first ∷ rows) row held = put_last rows row (put_admin first held)

-- the rows of what was made, with one item more
pub made_more : (made : List Item) (item : Item) → put_admins (map item_row (made ++ item ∷ [])) [] ≡ put_admin (item_row item) (put_admins (map item_row made) [])
made_more made item = ap (λ rows. put_admins rows []) (map-append item_row made (item ∷ [])) ∙ put_last (map item_row made) (item_row item) []
