-- The law is a lemma of proofs/SharedGroups.antt.
use Rattle.misp_core.proofs.SharedGroups.{shared_step}
use Rattle.misp_core.proofs.sharing.groups_are_shared_by_the_history.Goals as goal

pub returns : goal.returns
returns c = record { same = λ net n w host now caller add g. shared_step net n w host now caller add g }
