-- The laws are lemmas of proofs/HandedIn.antt, in the surroundings of an act.
use Rattle.std.proofs.Common.{ap}
use Rattle.misp_model.specs.Answers.{Taken, brings, taken_rows, newer, ok_answer}
use Rattle.misp_history.specs.Acts.{scene, known_at}
use Rattle.misp_history.proofs.HandedIn.{handed_merged, handed_elsewhere, handed_taken}
use Rattle.misp_history.proofs.synchronising.a_package_is_handed_in.Goals as goal

pub returns : goal.returns
unfolding scene known_at brings taken_rows newer ok_answer
returns c = record {
  here = λ n w act by p t. handed_merged n w.log act.at by.org (w.groups act.at) p.rows t;
  elsewhere = λ n w act by p j h. handed_elsewhere n w.log act.at j by.org (w.groups act.at) p.rows h;
  answer = λ n w act by p. ap Taken (handed_taken n w.log act.at by.org (w.groups act.at) p.rows);
}
