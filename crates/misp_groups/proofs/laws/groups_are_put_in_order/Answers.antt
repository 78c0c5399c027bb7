-- The laws are lemmas of proofs/Putting.antt and proofs/Ids.antt.
use Rattle.misp_groups.proofs.Ids.{before_is}
use Rattle.misp_groups.proofs.Putting.{known_put, in_order_again}
use Rattle.misp_groups.proofs.laws.groups_are_put_in_order.Goals as goal

pub returns : goal.returns
returns c = record {
  known = λ g groups id. known_put g groups id;
  all = λ groups up. in_order_again groups up;
  order = λ a b. before_is a b;
}
