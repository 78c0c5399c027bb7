use Rattle.std.proofs.Common.{◌∙◌, subst}
use Rattle.misp_core.specs.Callers.{IsOwned}
use Rattle.misp_core.proofs.Owners.{keys_more}
use Rattle.misp_core.proofs.callers.keys_are_owned.Goals as goal

pub loop-held-preserved : goal.loop-held-preserved
loop-held-preserved c = keys_more c.args.keys.now c.loop-held.held-index c.held-item.result c.loop-held-test.true c.held-item.is c.loop-held.invariant (subst IsOwned (c.behind-held.view_is ∙ c.record.ensures) c.is_identifier.ensures)
