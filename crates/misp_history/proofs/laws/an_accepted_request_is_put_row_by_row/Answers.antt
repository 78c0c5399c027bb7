-- The laws are lemmas of proofs/Puts.antt and proofs/Elsewhere.antt, in the surroundings of an act.
use Rattle.std.proofs.Common.{refl}
use Rattle.misp_model.specs.Answers.{brings}
use Rattle.misp_model.proofs.Owners.{brings_here}
use Rattle.misp_history.specs.Acts.{scene, known_at}
use Rattle.misp_history.proofs.Elsewhere.{tables_elsewhere}
use Rattle.misp_history.proofs.Puts.{put_ask}
use Rattle.misp_history.proofs.laws.an_accepted_request_is_put_row_by_row.Goals as goal

pub returns : goal.returns
unfolding scene known_at
returns c = record {
  here = λ n w act by a alone accepted older. put_ask (scene n w act by) w.log refl older a alone accepted;
  elsewhere = λ n w act by a j apart. tables_elsewhere act.at j (brings (scene n w act by) a) w.log apart (brings_here (scene n w act by) a);
}
