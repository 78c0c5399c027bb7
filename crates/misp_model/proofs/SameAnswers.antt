-- When a request is refused, answered and written alike in two surroundings.
use Rattle.std.proofs.Common.{◌≡◌, ap, ◌∙◌, Bool, true, false, Some, None}
use Rattle.misp_model.specs.Prelude.{Ask, Change, Refused, Reply, Saved, Scene, answer, ask_rules, brings, change_rules, change_writes, first_rule, is_accepted, ok_answer}

-- one answer, one set of rules, one set of versions
pub record IsSame (s t : Scene) (a : Ask) : Type 0 where
  pub rules : ask_rules s a ≡ ask_rules t a
  pub accepted : is_accepted s a ≡ is_accepted t a
  pub answers : answer s a ≡ answer t a
  pub brought : brings s a ≡ brings t a

pub from_rules : (s t : Scene) (a : Ask) → ask_rules s a ≡ ask_rules t a → ok_answer s a ≡ ok_answer t a → answer s a ≡ answer t a
unfolding answer
from_rules s t a h k = λ i. elim (first_rule (h i)) as (λ x. Reply) [ None ↦ k i | Some r ↦ Refused r ]

pub accepted_from : (s t : Scene) (a : Ask) → ask_rules s a ≡ ask_rules t a → is_accepted s a ≡ is_accepted t a
unfolding is_accepted
accepted_from s t a h = λ i. elim (first_rule (h i)) as (λ x. Bool) [ None ↦ true | Some r ↦ false ]

-- a change of which the rules and the versions are the same
pub same_change : (s t : Scene) (c : Change) → change_rules s c ≡ change_rules t c → change_writes s c ≡ change_writes t c → IsSame s t (Ask.Change c)
unfolding ask_rules brings ok_answer
same_change s t c rules writes = record {
  rules = rules;
  accepted = accepted_from s t (Ask.Change c) rules;
  answers = from_rules s t (Ask.Change c) rules (λ i. Saved (writes i));
  brought = writes;
}

pub same_from : (s t u : Scene) (a : Ask) → s ≡ t → IsSame t u a → IsSame s u a
same_from s t u a h k = record {
  rules = ap (λ x. ask_rules x a) h ∙ k.rules;
  accepted = ap (λ x. is_accepted x a) h ∙ k.accepted;
  answers = ap (λ x. answer x a) h ∙ k.answers;
  brought = ap (λ x. brings x a) h ∙ k.brought;
}
