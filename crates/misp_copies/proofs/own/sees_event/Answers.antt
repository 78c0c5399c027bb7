use Rattle.std.proofs.Common.{◌∙◌}
use Rattle.misp_model.specs.View.{granted_somewhere}
use Rattle.misp_copies.proofs.Seeing.{seen_is}
use Rattle.misp_copies.proofs.own.sees_event.Goals as goal

pub returns : goal.returns
unfolding granted_somewhere
returns c = c.are_seen.ensures ∙ seen_is c.args.rows.now c.args.rows.now c.args.who.now.groups.now c.args.who.now.here c.args.who.now.org c.args.event.now
