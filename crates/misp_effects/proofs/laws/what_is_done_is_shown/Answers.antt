use Rattle.misp_effects.proofs.Showing.{does_shown}
use Rattle.misp_effects.proofs.laws.what_is_done_is_shown.Goals as goal

pub returns : goal.returns
returns g c = does_shown
