-- The laws are lemmas of proofs/OneEventChanges.antt.
use Rattle.misp_model.proofs.OneEventChanges.{ask_of_event}
use Rattle.misp_model.proofs.one_event.an_event_is_asked_from_its_own_rows.Goals as goal

pub returns : goal.returns
returns c = record {
  rules = λ e rows s a h. (ask_of_event e rows s a h).rules;
  accepted = λ e rows s a h. (ask_of_event e rows s a h).accepted;
  answer = λ e rows s a h. (ask_of_event e rows s a h).answers;
  brings = λ e rows s a h. (ask_of_event e rows s a h).brought;
}
