use Rattle.misp_core.proofs.Decisions.{listed}
use Rattle.misp_core.proofs.decide.list.Goals as goal

pub returns : goal.returns
returns c = λ rows. rw (c.told.ensures, ← c.asker-org.ensures, c.of.ensures) (listed _ _ _ c.in_ok-groups.ensures)
