use Rattle.misp_effects.proofs.Showing.{does_behind}
use Rattle.misp_effects.proofs.laws.what_is_done_is_done_behind_a_batch.Goals as goal

pub returns : goal.returns
returns g c = does_behind
