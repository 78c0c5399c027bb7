-- The laws are lemmas of proofs/Putting.antt.
use Rattle.misp_admin_rows.proofs.Putting.{admin_ascends, item_among, item_beside, other_among, other_beside}
use Rattle.misp_admin_rows.proofs.laws.rows_are_put_among_their_kind.Goals as goal

pub returns : goal.returns
returns c = record {
  order = λ row rows up. admin_ascends row rows up;
  among = λ row rows up is. item_among row rows up is;
  others = λ row rows up isnt. other_among row rows up isnt;
  beside = λ row rows up apart is. item_beside row rows up is apart;
  items = λ row rows up isnt. other_beside row rows up isnt;
}
