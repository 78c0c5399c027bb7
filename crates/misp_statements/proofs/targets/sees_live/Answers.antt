use Rattle.std.proofs.Common.{◌∙◌}
use Rattle.misp_model.specs.Scene.{sees_live}
use Rattle.misp_statements.proofs.TargetLemmas.{seen_live_is}
use Rattle.misp_statements.proofs.targets.sees_live.Goals as goal

pub returns : goal.returns
unfolding sees_live
returns c = λ act name today now. c.are_seen_live.ensures ∙ seen_live_is c.args.rows.now c.args.rows.now c.args.who.now.groups.now c.args.who.now.here c.args.who.now.org c.args.event.now c.args.place.now
