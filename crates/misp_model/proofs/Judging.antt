-- What is left of a judging is accepted over the kept rows, and brings there what is kept.
use Rattle.std.proofs.Common.{◌≡◌, List, [], ◌∷◌, ◌++◌, Bool, false, arith, true, cond, sym, ◌∙◌, ap, refl, filter, Some, None, not, ◌&&◌, Option}
use Rattle.misp_elem.proofs.Same.{target_kept}
use Rattle.misp_model.specs.Prelude.{Content, Element, EventId, IsClosed, Judge, Key, Label, Proposal, ProposalBody, ProposalName, Rule, Scene, Verdict, Version, acceptance, ask_rules, bars, body_seen, brings, cut, cut_rows, event_key}
use Rattle.misp_model.specs.Prelude.{event_of, first_rule, is_accepted, is_for_new, is_proposal_of, is_taken, judge_rules, judge_writes, judged_place, made, parents, uuid_at, written}
use Rattle.misp_model.proofs.Plain_requests.{refuses, accepted_is, Follows, same_rules}
use Rattle.misp_model.proofs.Prelude.{cut_scene, event_kept, not-true}
use Rattle.misp_model.specs.Statements.{can_judge}
use Rattle.misp_model.specs.Closed.{where_kept, HasPair}
use Rattle.misp_model.proofs.Knowing.{by_key}
use Rattle.misp_model.proofs.LookedRows.{looked_rows}
use Rattle.misp_model.proofs.LookedScenes.{looked_scene}
use Rattle.misp_model.proofs.LookedJudging.{body_seen_looked, can_judge_looked, change, change_looked, too_long, too_long_looked}
use Rattle.misp_model.proofs.Scenes.{bars_cut, changed_row_kept, is_at_limit_cut, is_taken_cut, own_any_cut}

-- a rule that refuses less
pub refuses_less : (pre : List (Bool × Rule)) (x y : Bool) (rule : Rule) (post : List (Bool × Rule)) → (x ≡ false → y ≡ false) →
    refuses (pre ++ (x, rule) ∷ post) ≡ false → refuses (pre ++ (y, rule) ∷ post) ≡ false
unfolding refuses
refuses_less [] x y rule post f h = grind (arith, f)
refuses_less (r ∷ pre) x y rule post f h = grind (arith, refuses_less pre x y rule post f)

-- nothing or all is kept of a choice, where it is so of both sides
choice_kept : {X : Type 0} (q : X → Bool) (b t : Bool) (xs ys : List X) → filter q xs ≡ cond b xs [] → filter q ys ≡ cond b ys [] → filter q (cond t xs ys) ≡ cond b (cond t xs ys) []
choice_kept q b true xs ys h k = h
choice_kept q b false xs ys h k = k

-- a request that no rule refuses
pub none_refuses : (rs : List (Bool × Rule)) → (elim (first_rule rs) [ None ↦ true | Some r ↦ false ]) ≡ true → refuses rs ≡ false
none_refuses rs h = not-true (refuses rs) (sym (accepted_is rs) ∙ h)

pub is_accepted_where : (rs : List (Bool × Rule)) → refuses rs ≡ false → (elim (first_rule rs) [ None ↦ true | Some r ↦ false ]) ≡ true
is_accepted_where rs h = accepted_is rs ∙ ap not h

module _ (keep : Key → Bool) (c : IsClosed keep) (s : Scene) (e : EventId) (n : ProposalName) where
  -- the caller's verdict, and what it changes or makes
  abbrev verdict : Key
  verdict = Verdict e n s.at s.by

  abbrev judged : Key
  judged = Element e (judged_place n)

  proposal_kept : keep verdict ≡ true → keep (Proposal e n) ≡ true
  unfolding is_proposal_of
  proposal_kept h = c.proposals verdict (Proposal e n) h refl

  verdict_target_kept : keep verdict ≡ true → keep (Element e n.target) ≡ true
  unfolding parents
  verdict_target_kept h = target_kept keep e n.target (c.above _ h)

  verdict_event_kept : keep verdict ≡ true → keep (event_key e) ≡ true
  unfolding event_of
  verdict_event_kept h = event_kept keep c verdict h

  pub can_judge_cut : keep verdict ≡ true → can_judge (cut_scene keep s) e n ≡ can_judge s e n
  unfolding cut_scene cut_rows looked_scene looked_rows
  can_judge_cut h = can_judge_looked (λ w. keep) s (by_key keep c s.by) e n (λ w. proposal_kept h) (verdict_target_kept h)

  pub body_seen_cut : keep verdict ≡ true → body_seen (cut_scene keep s) e n ≡ body_seen s e n
  unfolding cut_scene cut_rows looked_scene looked_rows
  body_seen_cut h = body_seen_looked (λ w. keep) s (by_key keep c s.by) e n (λ w. proposal_kept h)

  acceptance_kept : (p : ProposalBody) (b : Bool) → keep judged ≡ b → cut keep (acceptance s e n p) ≡ cond b (acceptance s e n p) []
  unfolding acceptance written cut
  acceptance_kept p b h =
      choice_kept (λ (v : Version). keep v.key) b (is_for_new n) _ _ (ap (λ t. cond t (written s judged s.now Label.Inherit (Content.Attribute (made p)) ∷ []) []) h) (changed_row_kept keep c s judged _ _ b h)

  change_kept : (o : Option ProposalBody) (b : Bool) → keep judged ≡ b → cut keep (change e n s o) ≡ cond b (change e n s o) []
  unfolding cut
  change_kept None true h = refl
  change_kept None false h = refl
  change_kept (Some p) b h = acceptance_kept p b h

  pub change_cut : (o : Option ProposalBody) → keep judged ≡ true → change e n (cut_scene keep s) o ≡ change e n s o
  unfolding cut_scene cut_rows looked_scene looked_rows
  change_cut o h = change_looked (λ w. keep) s (by_key keep c s.by) e n o h

  pub too_long_cut : (o : Option ProposalBody) → keep judged ≡ true → too_long e n (cut_scene keep s) o ≡ too_long e n s o
  unfolding cut_scene cut_rows looked_scene looked_rows
  too_long_cut o h = too_long_looked (λ w. keep) s (by_key keep c s.by) e n o h

  taken_less : (b : Bool) → (b && is_taken s e (uuid_at e (judged_place n))) ≡ false → (b && is_taken (cut_scene keep s) e (uuid_at e (judged_place n))) ≡ false
  taken_less true h = is_taken_cut keep c s e _ h
  taken_less false h = refl

  rules_less : keep verdict ≡ true → keep judged ≡ true → refuses (judge_rules s e n true) ≡ false → refuses (judge_rules (cut_scene keep s) e n true) ≡ false
  unfolding judge_rules cut_scene
  rules_less k j h =
      rw (bars_cut keep c s e _ _ (verdict_event_kept k) (can_judge_cut k), own_any_cut keep c s verdict k, is_at_limit_cut keep c s judged j, body_seen_cut k, too_long_cut (body_seen s e n) j)
      (refuses_less (bars s e (can_judge s e n)) _ _ _ _ (taken_less (is_for_new n)) h)

  rules_same : keep verdict ≡ true → judge_rules (cut_scene keep s) e n false ≡ judge_rules s e n false
  unfolding judge_rules cut_scene
  rules_same k = rw (bars_cut keep c s e _ _ (verdict_event_kept k) (can_judge_cut k), own_any_cut keep c s verdict k) refl

  pub judge_follows : (accept : Bool) (b : Bool) → keep verdict ≡ b → HasPair keep s (Judge e n accept) →
      is_accepted s (Judge e n accept) ≡ true → Follows keep s (Judge e n accept) (where_kept b (Judge e n accept))
  unfolding where_kept brings ask_rules judge_writes written cut cut_scene HasPair is_accepted
  judge_follows false false k pair h = rw k refl
  judge_follows false true k pair h =
      record {
        accepted = same_rules keep c s (Judge e n false) (Judge e n false)
            (rules_same k) h;
        brought = rw k refl;
      }
  judge_follows true false k pair h = rw k (change_kept (body_seen s e n) false (sym (pair h) ∙ k))
  judge_follows true true k pair h =
      let j : keep judged ≡ true = sym (pair h) ∙ k in
      record {
        accepted = is_accepted_where _ (rules_less k j (none_refuses _ h));
        brought =
            ap (λ vs. written s verdict s.now Label.Inherit (Content.Verdict true) ∷ vs) (ap (change e n (cut_scene keep s)) (body_seen_cut k) ∙ change_cut (body_seen s e n) j ∙ sym (change_kept (body_seen s e n) true j))
            ∙ sym (rw k refl);
      }
