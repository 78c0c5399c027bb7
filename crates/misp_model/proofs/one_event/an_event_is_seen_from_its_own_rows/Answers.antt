-- The law is a lemma of proofs/OneEvent.antt.
use Rattle.misp_model.proofs.OneEvent.{shown_of_event}
use Rattle.misp_model.proofs.one_event.an_event_is_seen_from_its_own_rows.Goals as goal

pub returns : goal.returns
returns c = record { shown = λ e rows s owner. shown_of_event e rows s owner }
