use Rattle.std.proofs.Common.{inr}
use Rattle.misp_core.proofs.KeptLandings.{landed_same}
use Rattle.misp_core.proofs.handing_in.plan_package.Goals as goal

pub returns-clause-plan : goal.returns-clause-plan
returns-clause-plan c =
    c.plan_landed-plan.ensures.plans c.args.rows.items
    (landed_same c.in_ok-landing.landing c.args.site.now.here.now _ _ _ _ _ _ c.asker-owner.ensures c.get.ensures.value c.deref.ensures.value c.in_ok-landing.ensures).is

pub returns-clause-kept : goal.returns-clause-kept
returns-clause-kept c = inr (landed_same c.in_ok-landing.landing c.args.site.now.here.now _ _ _ _ _ _ c.asker-owner.ensures c.get.ensures.value c.deref.ensures.value c.in_ok-landing.ensures)
