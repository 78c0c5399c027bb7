use Rattle.std.proofs.Common.{[]}
use Rattle.misp_core.proofs.Carried.{asks_none}
use Rattle.misp_core.proofs.decide.plan_unchanged.Goals as goal

pub returns-in-SyncGroups-clause-no_fault : goal.returns-in-SyncGroups-clause-no_fault
returns-in-SyncGroups-clause-no_fault c = asks_none c.plan_pulled_groups.result _ (c.plan_pulled_groups.ensures.plan [])

pub returns-in-TakePart-clause-no_fault : goal.returns-in-TakePart-clause-no_fault
returns-in-TakePart-clause-no_fault c = asks_none c.plan_package.result _ c.plan_package.ensures.plan
