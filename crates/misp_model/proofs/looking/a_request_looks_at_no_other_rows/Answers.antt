-- The laws are lemmas of proofs/Looked.antt.
use Rattle.misp_model.proofs.Looked.{looked_same}
use Rattle.misp_model.proofs.looking.a_request_looks_at_no_other_rows.Goals as goal

pub returns : goal.returns
returns c = record {
  rules = λ l rows s a t h. (looked_same l rows s a t h).rules;
  accepted = λ l rows s a t h. (looked_same l rows s a t h).accepted;
  answer = λ l rows s a t h. (looked_same l rows s a t h).answers;
  brings = λ l rows s a t h. (looked_same l rows s a t h).brought;
}
