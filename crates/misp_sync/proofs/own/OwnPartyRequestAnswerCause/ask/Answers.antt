use Rattle.misp_sync.proofs.OwnAsked.{came_so}
use Rattle.misp_sync.proofs.own.OwnPartyRequestAnswerCause.ask.Goals as goal

pub returns-in-TakeGroups-clause-exchanged : goal.returns-in-TakeGroups-clause-exchanged
returns-in-TakeGroups-clause-exchanged g c = came_so _ _ _ _ _ _ c.in-TakeGroups.is c.take_groups.ensures

pub returns-in-TakePart-clause-exchanged : goal.returns-in-TakePart-clause-exchanged
returns-in-TakePart-clause-exchanged g c = came_so _ _ _ _ _ _ c.in-TakePart.is c.take_part.ensures
