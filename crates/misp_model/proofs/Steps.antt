-- What an act does to the state: an accepted request adds what it brings, and a refused one, a view and an act without effect leave it.
use Rattle.std.proofs.Common.{◌≡◌, Bool, true, false, ap, Option, Some, None}
use Rattle.misp_model.specs.Prelude.{Ask, Refused, Reply, Rule, Scene, answer, ask_rules, first_rule, is_accepted, ok_answer}

pub accepted_where : (s : Scene) (a : Ask) → first_rule (ask_rules s a) ≡ None → is_accepted s a ≡ true
unfolding is_accepted
accepted_where s a h = ap (λ (o : Option Rule). elim o as (λ x. Bool) [ None ↦ true | Some r ↦ false ]) h

pub refused_where : (s : Scene) (a : Ask) (r : Rule) → first_rule (ask_rules s a) ≡ Some r → is_accepted s a ≡ false
unfolding is_accepted
refused_where s a r h = ap (λ (o : Option Rule). elim o as (λ x. Bool) [ None ↦ true | Some r ↦ false ]) h

pub answer_where : (s : Scene) (a : Ask) → first_rule (ask_rules s a) ≡ None → answer s a ≡ ok_answer s a
unfolding answer
answer_where s a h = ap (λ (o : Option Rule). elim o as (λ x. Reply) [ None ↦ ok_answer s a | Some r ↦ Refused r ]) h

pub refusal_where : (s : Scene) (a : Ask) (r : Rule) → first_rule (ask_rules s a) ≡ Some r → answer s a ≡ Refused r
unfolding answer
refusal_where s a r h = ap (λ (o : Option Rule). elim o as (λ x. Reply) [ None ↦ ok_answer s a | Some r ↦ Refused r ]) h
