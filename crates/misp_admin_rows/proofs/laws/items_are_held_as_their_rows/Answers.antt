-- The laws are lemmas of proofs/ItemRows.antt.
use Rattle.misp_admin_rows.proofs.ItemRows.{item_again, item_takes}
use Rattle.misp_admin_rows.proofs.laws.items_are_held_as_their_rows.Goals as goal

pub returns : goal.returns
returns c = record {
  read = λ item is. item_again item is;
  only = λ row item name bytes e. (item_takes row item name bytes e).1;
  is = λ row item name bytes e. (item_takes row item name bytes e).0;
}
