use Rattle.misp_core.proofs.Carried.{asks_none}
use Rattle.misp_core.proofs.instance.Instance.plan_group.Goals as goal

pub returns-clause-no_fault : goal.returns-clause-no_fault
returns-clause-no_fault g c = asks_none c.plan_group.result _ c.plan_group.ensures
