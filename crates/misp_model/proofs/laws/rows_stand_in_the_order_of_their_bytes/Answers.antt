-- The laws are lemmas of proofs/NameOrder.antt.
use Rattle.misp_model.proofs.NameOrder.{keys_in_bytes, rows_in_bytes, same_in_bytes, before_is_less}
use Rattle.misp_model.proofs.laws.rows_stand_in_the_order_of_their_bytes.Goals as goal

pub returns : goal.returns
returns c = record {
  keys = λ a b h k. keys_in_bytes a b h k;
  rows = λ a b h k. rows_in_bytes a b h k;
  same = λ a b h k. same_in_bytes a b h k;
  compared = λ e f m n. before_is_less e f m n;
}
