-- The laws are lemmas of proofs/Steps.antt.
use Rattle.misp_model.proofs.Steps.{accepted_where, refused_where, answer_where, refusal_where}
use Rattle.misp_model.proofs.laws.the_first_rule_decides.Goals as goal

pub returns : goal.returns
returns c = record {
  accepted = λ s a h. accepted_where s a h;
  refused = λ s a r h. refused_where s a r h;
  answer = λ s a h. answer_where s a h;
  refusal = λ s a r h. refusal_where s a r h;
}
