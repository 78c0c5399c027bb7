use Rattle.std.proofs.Common.{[]}
use Rattle.misp_core.proofs.Carried.{asks_none}
use Rattle.misp_core.proofs.decide.plan_own.Goals as goal

pub returns-in-View-clause-no_fault : goal.returns-in-View-clause-no_fault
returns-in-View-clause-no_fault c = asks_none c.view.result _ c.view.ensures.all

pub returns-in-Groups-clause-no_fault : goal.returns-in-Groups-clause-no_fault
returns-in-Groups-clause-no_fault c = asks_none c.list.result _ (c.list.ensures [])

pub returns-in-Propose-clause-no_fault : goal.returns-in-Propose-clause-no_fault
returns-in-Propose-clause-no_fault c = asks_none c.plan_proposal.result _ c.plan_proposal.ensures

pub returns-in-Judge-clause-no_fault : goal.returns-in-Judge-clause-no_fault
returns-in-Judge-clause-no_fault c = asks_none c.plan_judgement.result _ c.plan_judgement.ensures

pub returns-in-Sight-clause-no_fault : goal.returns-in-Sight-clause-no_fault
returns-in-Sight-clause-no_fault c = asks_none c.plan_sighting.result _ c.plan_sighting.ensures
