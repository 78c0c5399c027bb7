-- The laws are lemmas of proofs/Numbers.antt and proofs/NumberedWrites.antt.
use Rattle.std.proofs.Common.{◌∙◌, sym}
use Rattle.misp_model.proofs.Numbers.{accepted_alike, rules_alike}
use Rattle.misp_history.proofs.NumberedWrites.{answer_alike, answer_as, brings_alike, brings_as}
use Rattle.misp_history.proofs.laws.a_partner_counts_for_pulls_alone.Goals as goal

pub returns : goal.returns
returns c = record {
  rules = λ p s a h. rules_alike s.act p s a h;
  accepted = λ p s a h. accepted_alike s.act p s a h;
  answer = λ p s a h. answer_alike s.act p s a h ∙ sym (answer_as s.act s a);
  versions = λ p s a. brings_alike s.act p s a ∙ sym (brings_as s.act s a);
}
