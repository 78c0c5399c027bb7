-- The law is a lemma of proofs/Steps.antt.
use Rattle.misp_levels.proofs.Steps.{add_up}
use Rattle.misp_levels.proofs.laws.steps_down_add_up.Goals as goal

pub returns : goal.returns
returns c = λ label first more. add_up label first more
