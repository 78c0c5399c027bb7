use Rattle.misp_core.proofs.Carried.{asks_none}
use Rattle.misp_core.proofs.decide.plan_request.Goals as goal

pub returns-in-Change-clause-no_fault : goal.returns-in-Change-clause-no_fault
returns-in-Change-clause-no_fault c = asks_none c.change_known.result _ c.change_known.ensures
