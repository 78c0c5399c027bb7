-- Which rule refuses a verdict, and what it writes.
use Rattle.std.proofs.Common.{◌≡◌, List, [], ◌∷◌, ◌++◌, Bool, true, false, refl, ap, sym, ◌∙◌, map, cond, eqb, ◌&&◌, ◌||◌, not, max, ◌+◌, Option, Some, None, is_some, option_to_list, find, eq-eqb}
use Rattle.misp_lists.proofs.Lists.{any_found}
use Rattle.misp_ids.proofs.Same.{same_event-refl}
use Rattle.misp_model.specs.Prelude.{ElemId, ProposalBody, ProposalName, first_rule, granted_somewhere, has_home, is_for_new, is_too_long, judge_rules, judge_writes, judged_place, own_live, row_passes, accepted, acceptance}
use Rattle.misp_model.specs.Prelude.{at_attribute, body_seen, made, takes_uuid}
use Rattle.misp_model.specs.Statements.{can_judge, proposal_body, proposal_row}
use Rattle.misp_model.proofs.Prelude.{any_implies}
use Rattle.misp_history.proofs.Prelude.{Content, Element, EventId, Inst, Judge, Key, Label, OrgId, Proposal, Row, Rule, Scene, Verdict, Version, and_from, and_parts, ask_rules, bars, brings, changed, changed_row, event_key}
use Rattle.misp_history.proofs.Prelude.{event_of, false≢true, find_passes, fresh_row}
use Rattle.misp_history.proofs.Prelude.{has_copy, is_at_limit, is_gone, is_published, is_row_of, is_statement, is_taken, last_stamp, list_any, next_stamp, own_row, own_row_is, same_event, same_key-sound, same_org, same_org-sound}
use Rattle.misp_history.proofs.Prelude.{uuid_at, written}
use Rattle.misp_copies.proofs.Barred.{first_of, bars_are, or_assoc, refuses_first}
use Rattle.misp_copies.specs.Barring.{rule_of, NamesUuid, Refuses, barring, or_else}
use Rattle.misp_copies.specs.OwnRows.{has_live}
use Rattle.misp_copies.specs.Renewing.{renewed}
use Rattle.misp_copies.specs.Uuids.{has_uuid, is_used}
use Rattle.misp_copies.specs.declared.change_fault.ChangeFault.{ChangeFault}
use Rattle.misp_copies.specs.declared.change_fault.ChangeFault.TheVariants.{ElementExists, ElementFull, GroupNotUsable, NoMemory}
use Rattle.misp_statements.specs.Judging.{IsFullBy, accepted_rows, body_accepted, body_in, changed_rows, has_verdict, held_row, if_accepted, is_full, is_granted_of, is_seen, is_there, late_rules, made_row, may_judge, own_accepted}
use Rattle.misp_statements.specs.Judging.{ruling, verdict_row}
use Rattle.misp_statements.specs.Saving.{Saves}
use Rattle.misp_model.specs.Scene as rule

-- ---- tests of what is accepted

own_test : (accept : Bool) (test : Row → Bool) (own : Option Row) → (accept && (elim own as (λ x. Bool) [ None ↦ false | Some row ↦ test row ])) ≡ row_passes test (if_accepted accept own)
unfolding row_passes if_accepted
own_test true test None = refl
own_test true test (Some row) = refl
own_test false test own = refl

full_test : (accept : Bool) (body : Option ProposalBody) (own : Option Row) →
    (accept && (elim body as (λ x. Bool) [ None ↦ false | Some p ↦ (elim own as (λ x. Bool) [ None ↦ false | Some row ↦ is_too_long (at_attribute (accepted p) row.content) ]) ])) ≡ is_full (if_accepted accept body) (if_accepted accept own)
unfolding is_full if_accepted row_passes
full_test true None own = refl
full_test true (Some p) None = refl
full_test true (Some p) (Some row) = refl
full_test false body own = refl

in_body : (o : Option Row) → (elim o as (λ x. Option ProposalBody) [ None ↦ None | Some row ↦ proposal_body row.content ]) ≡ body_in o
in_body None = refl
in_body (Some row) = refl

or_none : (a b : Option Rule) → None ≡ or_else a b → None ≡ b
unfolding or_else
or_none None b h = h
or_none (Some r) b h = absurd (false≢true (ap is_some h))

-- the first of the later rules, by their tests
pub late_is : (rows : List Row) (here : Inst) (o : OrgId) (e : EventId) (n : ProposalName) (accept a b c : Bool) → is_there rows o e n accept ≡ a →
    row_passes (λ row. eqb row.stamp last_stamp) (own_accepted rows o e n accept) ≡ b → has_verdict rows here o e n ≡ c →
    cond a (Some rule.ElementExists) (cond b (Some rule.TimeLimit) (cond c (Some rule.ProposalClosed) None)) ≡ first_rule (late_rules rows here o e n accept)
unfolding late_rules first_rule
late_is rows here o e n accept a b c f g h = by a b c ∙ (λ i. first_rule ((sym f i, rule.ElementExists) ∷ (sym g i, rule.TimeLimit) ∷ (sym h i, rule.ProposalClosed) ∷ []))
  where
    by : (x y z : Bool) → cond x (Some rule.ElementExists) (cond y (Some rule.TimeLimit) (cond z (Some rule.ProposalClosed) None)) ≡ first_rule ((x, rule.ElementExists) ∷ (y, rule.TimeLimit) ∷ (z, rule.ProposalClosed) ∷ [])
    by true y z = refl
    by false true z = refl
    by false false true = refl
    by false false false = refl

-- ---- rules

module _ (s : Scene) (e : EventId) (n : ProposalName) (accept : Bool) where
  abbrev pub own_taken : Option Row
  own_taken = own_accepted s.rows s.by e n accept

  abbrev pub body_taken : Option ProposalBody
  body_taken = body_accepted s.rows s.groups s.at s.by e n accept

  abbrev pub ruled : Option Rule
  ruled = ruling s.rows s.groups s.at s.by e n accept

  abbrev full : List (Bool × Rule)
  full = (is_full body_taken own_taken, rule.ElementFull) ∷ []

  body_is : body_seen s e n ≡ body_in (find (is_seen s.rows s.groups s.at s.by (Proposal e n)) s.rows)
  unfolding body_seen proposal_row is_seen
  body_is = in_body (find (λ row. is_seen s.rows s.groups s.at s.by (Proposal e n) row) s.rows)

  fits_is : can_judge s e n ≡ may_judge s.rows s.groups s.at s.by e n
  unfolding can_judge may_judge is_granted_of own_live has_live
  fits_is = refl

  there_is : (accept && (is_for_new n && is_taken s e (uuid_at e (judged_place n)))) ≡ is_there s.rows s.by e n accept
  unfolding is_there is_taken is_used has_uuid
  there_is = refl

  limit_is : (accept && is_at_limit s (Element e (judged_place n))) ≡ row_passes (λ row. eqb row.stamp last_stamp) own_taken
  unfolding is_at_limit own_row_is own_accepted own_row
  limit_is = own_test accept (λ row. eqb row.stamp last_stamp) (find (is_row_of s.by (Element e (judged_place n))) s.rows)

  closed_is : list_any (is_row_of s.by (Verdict e n s.at s.by)) s.rows ≡ has_verdict s.rows s.at s.by e n
  unfolding has_verdict
  closed_is = refl

  full_is : (accept && (elim (body_seen s e n) as (λ x. Bool) [ None ↦ false | Some p ↦ own_row_is s (Element e (judged_place n)) (λ row. is_too_long (at_attribute (accepted p) row.content)) ])) ≡ is_full body_taken own_taken
  unfolding own_row_is own_accepted body_accepted own_row
  full_is =
      let k : Key = Element e (judged_place n) in
      (λ i. accept && (elim (body_is i) as (λ x. Bool) [ None ↦ false | Some p ↦ own_row_is s k (λ row. is_too_long (at_attribute (accepted p) row.content)) ]))
      ∙ full_test accept (body_in (find (is_seen s.rows s.groups s.at s.by (Proposal e n)) s.rows)) (find (is_row_of s.by k) s.rows)

  judged : first_rule (judge_rules s e n accept) ≡ or_else ruled (first_rule full)
  unfolding judge_rules ruling late_rules
  judged =
      (λ i. first_rule (bars s e (fits_is i) ++ (there_is i, rule.ElementExists) ∷ (limit_is i, rule.TimeLimit) ∷ (closed_is i, rule.ProposalClosed) ∷ (full_is i, rule.ElementFull) ∷ []))
      ∙ first_of (bars s e (may_judge s.rows s.groups s.at s.by e n)) (late_rules s.rows s.at s.by e n accept ++ full)
      ∙ (λ i. or_else (bars_are s e (may_judge s.rows s.groups s.at s.by e n) i) (first_of (late_rules s.rows s.at s.by e n accept) full i))
      ∙ or_assoc (barring (has_home s.rows s.by e) (has_copy s.rows s.by e) (granted_somewhere s.rows s.groups s.at s.by (event_key e)) (may_judge s.rows s.groups s.at s.by e n))
      (first_rule (late_rules s.rows s.at s.by e n accept)) (first_rule full)

  pub judge_refused : (fault : ChangeFault) → rule_of fault ≡ ruled → Refuses (ask_rules s (Judge e n accept)) fault
  unfolding ask_rules
  judge_refused fault h = refuses_first fault ruled (first_rule full) (judge_rules s e n accept) judged h

  left : None ≡ ruled → first_rule (judge_rules s e n accept) ≡ first_rule full
  unfolding or_else
  left h = judged ∙ ap (λ r. or_else r (first_rule full)) (sym h)

  pub judge_full : None ≡ ruled → (body : Option ProposalBody) (own : Option Row) → body ≡ body_taken → own ≡ own_taken → (fault : ChangeFault) → IsFullBy body own fault → Refuses (ask_rules s (Judge e n accept)) fault
  unfolding ask_rules first_rule rule_of
  judge_full h body own b o ElementFull g = left h ∙ ap (λ t. first_rule ((t, rule.ElementFull) ∷ [])) ((λ i. is_full (sym b i) (sym o i)) ∙ g)
  judge_full h body own b o NoMemory g = tt
  judge_full h body own b o _ g = absurd g

  -- ---- what the later rules leave

  late_none : None ≡ ruled → None ≡ first_rule (late_rules s.rows s.at s.by e n accept)
  unfolding ruling
  late_none h = or_none (barring (has_home s.rows s.by e) (has_copy s.rows s.by e) (granted_somewhere s.rows s.groups s.at s.by (event_key e)) (may_judge s.rows s.groups s.at s.by e n))
      (first_rule (late_rules s.rows s.at s.by e n accept)) h

  two_pass : (a b c : Bool) → None ≡ first_rule ((a, rule.ElementExists) ∷ (b, rule.TimeLimit) ∷ (c, rule.ProposalClosed) ∷ []) → (a ≡ false) × (b ≡ false)
  unfolding first_rule
  two_pass true b c h = absurd (false≢true (ap is_some h))
  two_pass false true c h = absurd (false≢true (ap is_some h))
  two_pass false false c h = (refl, refl)

  passed : None ≡ ruled → (is_there s.rows s.by e n accept ≡ false) × (row_passes (λ row. eqb row.stamp last_stamp) own_taken ≡ false)
  unfolding late_rules
  passed h = two_pass (is_there s.rows s.by e n accept) (row_passes (λ row. eqb row.stamp last_stamp) own_taken) (has_verdict s.rows s.at s.by e n) (late_none h)

  -- the row has not the last stamp
  pub judge_stamp : None ≡ ruled → row_passes (λ row. eqb row.stamp last_stamp) own_taken ≡ false
  judge_stamp h = (passed h).1

  -- a row at a place has the uuid there
  row_has : (row : Row) → is_row_of s.by (Element e (judged_place n)) row ≡ true → has_uuid s.by e (uuid_at e (judged_place n)) row ≡ true
  unfolding is_row_of has_uuid takes_uuid event_of
  row_has row h =
      let parts = and_parts (same_org row.owner s.by) _ h in
      and_from _ _ parts.0
      (ap (λ k. same_event (event_of k) e && takes_uuid (uuid_at e (judged_place n)) k) (same_key-sound row.key (Element e (judged_place n)) parts.1)
      ∙ and_from _ _ (same_event-refl e) (eq-eqb (uuid_at e (judged_place n)) (uuid_at e (judged_place n)) refl))

  -- of a new attribute there is no row
  none_there : (a new : Bool) → is_for_new n ≡ new → new ≡ true → (a && (new && is_used s.rows s.by e (uuid_at e (judged_place n)))) ≡ false → if_accepted a (find (is_row_of s.by (Element e (judged_place n))) s.rows) ≡ None
  unfolding if_accepted is_used
  none_there false new k f h = refl
  none_there true false k f h = absurd (false≢true f)
  none_there true true k f h = by (find (is_row_of s.by (Element e (judged_place n))) s.rows) refl
    where
      by : (o : Option Row) → find (is_row_of s.by (Element e (judged_place n))) s.rows ≡ o → o ≡ None
      by None g = refl
      by (Some row) g =
          absurd (false≢true (sym (or_false (eqb e.0.0 (uuid_at e (judged_place n))) _ h)
          ∙ any_implies (is_row_of s.by (Element e (judged_place n))) (has_uuid s.by e (uuid_at e (judged_place n))) row_has s.rows (any_found (is_row_of s.by (Element e (judged_place n))) s.rows ∙ ap is_some g)))
        where
          or_false : (x y : Bool) → (x || y) ≡ false → y ≡ false
          or_false true y q = absurd (false≢true (sym q))
          or_false false y q = q

  pub judge_new : None ≡ ruled → is_for_new n ≡ true → own_taken ≡ None
  unfolding own_accepted is_there
  judge_new h new = none_there accept (is_for_new n) refl new (passed h).0

  -- ---- what is written

  changed_is : (row : Row) (c : Content) → row.owner ≡ s.by → fresh_row (changed s row row.label c) ≡ renewed s.now row row.label c
  unfolding fresh_row changed written renewed next_stamp is_published
  changed_is row c h = λ i. record {
    owner = sym h i;
    key = row.key;
    stamp = max s.now (row.stamp + 1);
    label = row.label;
    held = no_more (is_statement row.key || is_gone c) i;
    carried = false;
    content = c;
  }
    where
      no_more : (b : Bool) → not (b || false) ≡ not b
      no_more true = refl
      no_more false = refl

  changed_list : (p : ProposalBody) (o : Option Row) → own_row s (Element e (judged_place n)) ≡ o →
      map fresh_row (map (λ row. changed s row row.label (at_attribute (accepted p) row.content)) (option_to_list o)) ≡ changed_rows s.now p o
  unfolding changed_rows own_row is_row_of
  changed_list p None h = refl
  changed_list p (Some row) h =
      λ i. changed_is row (at_attribute (accepted p) row.content) (same_org-sound row.owner s.by (and_parts _ _ (find_passes (is_row_of s.by (Element e (judged_place n))) s.rows row h)).0) i ∷ []

  made_is : (p : ProposalBody) → fresh_row (written s (Element e (judged_place n)) s.now Label.Inherit (Content.Attribute (made p))) ≡ made_row s.by e n s.now p
  unfolding fresh_row written made_row held_row is_statement is_gone is_published
  made_is p = refl

  acceptance_is : (p : ProposalBody) (new : Bool) →
      map fresh_row (cond new (written s (Element e (judged_place n)) s.now Label.Inherit (Content.Attribute (made p)) ∷ []) (changed_row s (Element e (judged_place n)) (λ row. row.label) (at_attribute (accepted p))))
      ≡ cond new (made_row s.by e n s.now p ∷ []) (changed_rows s.now p (own_row s (Element e (judged_place n))))
  unfolding changed_row
  acceptance_is p true = λ i. made_is p i ∷ []
  acceptance_is p false = changed_list p (own_row s (Element e (judged_place n))) refl

  taken_is : (a : Bool) (body : Option ProposalBody) →
      map fresh_row (cond a (elim body as (λ x. List Version) [ None ↦ [] | Some p ↦ acceptance s e n p ]) [])
      ≡ accepted_rows s.by e n s.now (if_accepted a body) (if_accepted a (own_row s (Element e (judged_place n))))
  unfolding acceptance accepted_rows if_accepted
  taken_is false body = refl
  taken_is true None = refl
  taken_is true (Some p) = acceptance_is p (is_for_new n)

  verdict_is : fresh_row (written s (Verdict e n s.at s.by) s.now Label.Inherit (Content.Verdict accept)) ≡ verdict_row s.by s.at e n accept s.now
  unfolding fresh_row written verdict_row is_statement is_gone is_published
  verdict_is = refl

  writes_are : map fresh_row (judge_writes s e n accept) ≡ verdict_row s.by s.at e n accept s.now ∷ accepted_rows s.by e n s.now body_taken own_taken
  unfolding judge_writes body_accepted own_accepted own_row
  writes_are =
      (λ i. verdict_is i ∷ map fresh_row (cond accept (elim (body_is i) as (λ x. List Version) [ None ↦ [] | Some p ↦ acceptance s e n p ]) []))
      ∙ (λ i. verdict_row s.by s.at e n accept s.now ∷ taken_is accept (body_in (find (is_seen s.rows s.groups s.at s.by (Proposal e n)) s.rows)) i)

  pub judge_saves : None ≡ ruled → (body : Option ProposalBody) (own : Option Row) → body ≡ body_taken → own ≡ own_taken → is_full body own ≡ false → (rest : List Row) → rest ≡ accepted_rows s.by e n s.now body own →
      (rows : List Row) → rows ≡ verdict_row s.by s.at e n accept s.now ∷ rest → Saves s (Judge e n accept) rows
  unfolding ask_rules brings first_rule
  judge_saves h body own b o f rest r rows all = (
    left h ∙ ap (λ t. first_rule ((t, rule.ElementFull) ∷ [])) ((λ i. is_full (sym b i) (sym o i)) ∙ f),
    all ∙ ap (λ xs. verdict_row s.by s.at e n accept s.now ∷ xs) (r ∙ (λ i. accepted_rows s.by e n s.now (b i) (o i))) ∙ sym writes_are,
  )

-- ---- the uuid of a fault

-- whoever has no room is told of no uuid
pub full_uuid : (u : ElemId) (body : Option ProposalBody) (own : Option Row) (fault : ChangeFault) → IsFullBy body own fault → NamesUuid u fault
full_uuid u body own (ElementExists v) h = absurd h
full_uuid u body own (GroupNotUsable g) h = absurd h
full_uuid u body own _ h = tt
