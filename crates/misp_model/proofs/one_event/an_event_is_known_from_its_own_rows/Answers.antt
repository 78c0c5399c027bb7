-- The law is a lemma of proofs/OneEvent.antt.
use Rattle.misp_model.proofs.OneEvent.{known_here}
use Rattle.misp_model.proofs.one_event.an_event_is_known_from_its_own_rows.Goals as goal

pub returns : goal.returns
returns c = record { known = λ e rows groups i o. known_here e rows groups i o }
