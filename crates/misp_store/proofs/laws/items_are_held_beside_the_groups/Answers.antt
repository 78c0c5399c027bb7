-- The laws are those of misp_admin_rows, and lemmas of proofs/BesideItems.antt.
use Rattle.std.proofs.Common.{◌≡◌, true, ap, is_some}
use Rattle.misp_admins.specs.declared.item.Item.{Item}
use Rattle.misp_admins.specs.Made.{IsItem}
use Rattle.misp_admin_rows.specs.Rows.{is_item, item_row}
use Rattle.misp_store.proofs.BesideItems.{groups_stay, other_kinds}
use Rattle.misp_store.proofs.laws.items_are_held_beside_the_groups.Goals as goal

pub returns : goal.returns
returns c =
    let placed = c.rows_are_put_among_their_kind.ensures in
    let is_its : (item : Item) → IsItem item → is_item (item_row item) ≡ true = λ (item : Item) (is : IsItem item). ap is_some (c.items_are_held_as_their_rows.ensures.read item is) in
    record {
      groups = λ item rows groups is up e.
          groups_stay (item_row item) rows groups (placed.beside (item_row item) rows up (other_kinds rows groups e) (is_its item is)) e;
      items = λ item rows is up. placed.among (item_row item) rows up (is_its item is);
    }
