-- The laws are lemmas of proofs/Adding.antt and proofs/Putting.antt.
use Rattle.misp_model.proofs.Fresh.{not_handed_in}
use Rattle.misp_history.proofs.Adding.{row_of_fresh}
use Rattle.misp_history.proofs.Putting.{tables_more}
use Rattle.misp_history.proofs.laws.one_version_more.Goals as goal

pub returns : goal.returns
returns c = record { fresh = λ log v p k h. row_of_fresh log v p (not_handed_in v k) h; placed = λ log v i h. tables_more log v i h }
