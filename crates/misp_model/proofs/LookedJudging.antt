-- A judging is refused, answered and written alike over the rows that are looked at, where these have the proposal and its target.
use Rattle.std.proofs.Common.{◌≡◌, List, [], ◌∷◌, ◌++◌, Bool, true, false, refl, ap, ◌∙◌, cond, ◌&&◌, Option, Some, None}
use Rattle.std.proofs.lemmas.Bool.{and_parts}
use Rattle.misp_lists.proofs.Lists.{and_where, any_within, find_within}
use Rattle.misp_model.specs.Prelude.{Content, Element, ElementExists, ElementFull, EventId, Judge, Key, Label, OrgId, Proposal, ProposalBody, ProposalName, Row, Saved, Scene, TimeLimit, Verdict, Version, acceptance, accepted, ask_rules}
use Rattle.misp_model.specs.Prelude.{at_attribute, bars, body_seen, brings, event_key, granted, is_for_new, is_least, is_too_long, judge_rules, judge_writes, judged_place, made, ok_answer, own_row_is, same_key, takes_uuid, uuid_at, written}
use Rattle.misp_model.specs.Scene.{ProposalClosed}
use Rattle.misp_model.specs.Statements.{can_judge, proposal_body, proposal_row}
use Rattle.misp_model.proofs.LookedRows.{IsClosedFor, IsLooked, element_looked, event_of_place_looked, granted_looked, is_least_looked, is_reference, key_looked, looked_rows, no_reference_looked}
use Rattle.misp_model.proofs.LookedScenes.{bars_looked, changed_row_looked, is_at_limit_looked, looked_scene, own_any_looked, own_live_looked, own_row_is_looked}
use Rattle.misp_model.proofs.LookedCopy.{HasThose, is_taken_looked}
use Rattle.misp_model.proofs.SameAnswers.{IsSame, accepted_from, from_rules}

module _ (e : EventId) (n : ProposalName) where
  -- what an acceptance changes or makes
  abbrev pub judged : Key
  judged = Element e (judged_place n)

  -- the change that goes with the verdict
  abbrev pub change : Scene → Option ProposalBody → List Version
  change t o = elim o as (λ x. List Version) [ None ↦ [] | Some p ↦ acceptance t e n p ]

  -- the texts that an acceptance makes too long
  abbrev pub too_long : Scene → Option ProposalBody → Bool
  too_long t o = elim o as (λ x. Bool) [ None ↦ false | Some p ↦ own_row_is t judged (λ row. is_too_long (at_attribute (accepted p) row.content)) ]

module _ (keep : OrgId → Key → Bool) (s : Scene) (c : IsClosedFor s.by keep) (e : EventId) (n : ProposalName) where
  abbrev near : Scene
  near = looked_scene keep s

  abbrev proposal : Key
  proposal = Proposal e n

  -- the rows of the proposal are looked at with their parents
  proposal_looked : ((w : OrgId) → keep w proposal ≡ true) → (w : OrgId) (k : Key) → same_key k proposal ≡ true → IsLooked keep w k
  unfolding is_reference
  proposal_looked h w k same = key_looked keep w k proposal same (no_reference_looked s.by keep c w proposal refl (h w))

  pub can_judge_looked : ((w : OrgId) → keep w proposal ≡ true) → keep s.by (Element e n.target) ≡ true → can_judge near e n ≡ can_judge s e n
  unfolding can_judge looked_scene looked_rows
  can_judge_looked h k =
      rw (
        own_live_looked keep s c (Element e n.target) (element_looked s.by keep c s.by e n.target k),
        any_within (λ row. same_key row.key proposal && granted (looked_rows keep s.rows) s.groups s.at s.by row)
            (λ row. same_key row.key proposal && granted s.rows s.groups s.at s.by row) (λ row. keep row.owner row.key)
            (λ row g. and_where (same_key row.key proposal) _ _ (λ same. granted_looked s.by keep c s.rows s.groups s.at row (proposal_looked h row.owner row.key same)))
            (λ row g. (proposal_looked h row.owner row.key (and_parts _ _ g).0).0) s.rows,
      ) refl

  proposal_row_looked : ((w : OrgId) → keep w proposal ≡ true) → proposal_row near e n ≡ proposal_row s e n
  unfolding proposal_row looked_scene looked_rows
  proposal_row_looked h =
      find_within (λ row. same_key row.key proposal && is_least (looked_rows keep s.rows) s.groups s.at s.by row)
      (λ row. same_key row.key proposal && is_least s.rows s.groups s.at s.by row) (λ row. keep row.owner row.key)
      (λ row g. and_where (same_key row.key proposal) _ _
      (λ same. is_least_looked s.by keep c s.rows s.groups s.at row (λ w. proposal_looked h w row.key same)))
      (λ row g. (proposal_looked h row.owner row.key (and_parts _ _ g).0).0) s.rows

  pub body_seen_looked : ((w : OrgId) → keep w proposal ≡ true) → body_seen near e n ≡ body_seen s e n
  unfolding body_seen
  body_seen_looked h = ap (λ (o : Option Row). elim o as (λ x. Option ProposalBody) [ None ↦ None | Some row ↦ proposal_body row.content ]) (proposal_row_looked h)

  acceptance_looked : (p : ProposalBody) → keep s.by (judged e n) ≡ true → acceptance near e n p ≡ acceptance s e n p
  unfolding acceptance written looked_scene
  acceptance_looked p h = ap (cond (is_for_new n) (written s (judged e n) s.now Label.Inherit (Content.Attribute (made p)) ∷ [])) (changed_row_looked keep s c (judged e n) _ _ h)

  pub change_looked : (o : Option ProposalBody) → keep s.by (judged e n) ≡ true → change e n near o ≡ change e n s o
  change_looked None h = refl
  change_looked (Some p) h = acceptance_looked p h

  pub too_long_looked : (o : Option ProposalBody) → keep s.by (judged e n) ≡ true → too_long e n near o ≡ too_long e n s o
  too_long_looked None h = refl
  too_long_looked (Some p) h = own_row_is_looked keep s c (judged e n) _ h

  -- ---- the rules and what is written

  module _ (asked : (w : OrgId) → keep w proposal ≡ true) (target : (w : OrgId) → keep w (Element e n.target) ≡ true) (own : keep s.by (Verdict e n s.at s.by) ≡ true) where
    event : (w : OrgId) → keep w (event_key e) ≡ true
    event w = event_of_place_looked s.by keep c w e n.target (target w)

    barred : bars near e (can_judge near e n) ≡ bars s e (can_judge s e n)
    barred = bars_looked keep s c e _ _ (record { own = event s.by; others = λ copy w. event w }) (can_judge_looked asked (target s.by))

    judge_rules_looked : (accept : Bool) → (accept ≡ true → keep s.by (judged e n) ≡ true) → ((accept && is_for_new n) ≡ true → HasThose keep s.by e (takes_uuid (uuid_at e (judged_place n)))) →
        judge_rules near e n accept ≡ judge_rules s e n accept
    unfolding judge_rules looked_scene
    judge_rules_looked false j m = λ i.
        barred i ++ (false, ElementExists) ∷ (false, TimeLimit) ∷ (own_any_looked keep s c (Verdict e n s.at s.by) own i, ProposalClosed) ∷ (false, ElementFull) ∷ []
    judge_rules_looked true j m = λ i.
        barred i
        ++ (and_where (is_for_new n) _ _ (λ new. is_taken_looked keep s c e (uuid_at e (judged_place n)) (m new)) i, ElementExists)
        ∷ (is_at_limit_looked keep s c (judged e n) (j refl) i, TimeLimit)
        ∷ (own_any_looked keep s c (Verdict e n s.at s.by) own i, ProposalClosed)
        ∷ ((ap (too_long e n near) (body_seen_looked asked) ∙ too_long_looked (body_seen s e n) (j refl)) i, ElementFull) ∷ []

    judge_writes_looked : (accept : Bool) → (accept ≡ true → keep s.by (judged e n) ≡ true) → judge_writes near e n accept ≡ judge_writes s e n accept
    unfolding judge_writes written looked_scene
    judge_writes_looked false j = refl
    judge_writes_looked true j = λ i.
        written s (Verdict e n s.at s.by) s.now Label.Inherit (Content.Verdict true)
        ∷ (ap (change e n near) (body_seen_looked asked) ∙ change_looked (body_seen s e n) (j refl)) i

    pub judge_looked : (accept : Bool) → (accept ≡ true → keep s.by (judged e n) ≡ true) → ((accept && is_for_new n) ≡ true → HasThose keep s.by e (takes_uuid (uuid_at e (judged_place n)))) → IsSame near s (Judge e n accept)
    unfolding ask_rules brings ok_answer
    judge_looked accept j m = record {
      rules = judge_rules_looked accept j m;
      accepted = accepted_from near s (Judge e n accept) (judge_rules_looked accept j m);
      answers = from_rules near s (Judge e n accept) (judge_rules_looked accept j m) (λ i. Saved (judge_writes_looked accept j i));
      brought = judge_writes_looked accept j;
    }
