use Rattle.misp_core.proofs.Carried.{asks_none}
use Rattle.misp_core.proofs.HandedGroups.{handed_barred}
use Rattle.misp_core.proofs.instance.Instance.plan_handed_groups.Goals as goal

pub returns-clause-no_fault : goal.returns-clause-no_fault
returns-clause-no_fault g c = asks_none c.plan_groups.result _ c.plan_groups.ensures.plans

pub returns-clause-forbidden : goal.returns-clause-forbidden
returns-clause-forbidden g c = λ not_. handed_barred _ c.args.caller.now c.args.coming.items _ c.plan_groups.result not_ c.plan_groups.ensures.plans
