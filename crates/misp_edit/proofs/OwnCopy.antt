-- An addition is refused, answered and written from what its caller has of the event as from all rows.
use Rattle.std.proofs.Common.{◌≡◌, ℕ, List, [], ◌∷◌, ◌++◌, Bool, true, false, nat_eq, refl, sym, ap, subst, ◌∙◌, map, eqb, arith, ◌&&◌, ◌||◌, not, Option, Some, None, option_map, option_to_list, is_some, filter}
use Rattle.std.proofs.Common.{filter_map, find}
use Rattle.std.specs.List.{starts_with}
use Rattle.misp_elem.specs.Spelling.{key}
use Rattle.misp_model.proofs.Prelude.{Content, ElementExists, ElemId, EventExists, EventGone, EventId, Group, GroupNotUsable, Inst, Key, Label, OrgId, Place, Reference, ReferenceDraft, Row, Rule, Saved, Scene, Submission, all_same}
use Rattle.misp_model.proofs.Prelude.{and_from, and_parts, answer, any_cut, ask_rules, brings, change_rules, change_writes, event_is_closed, event_kept, event_key, event_of, event_written, filter_within, find_within}
use Rattle.misp_model.proofs.Prelude.{granted, has_copy, has_gone, has_target, holds_copy, in_order, is_accepted, is_deleted, is_known, is_live, is_place_of, is_row_of, is_taken, is_target_key, is_tombstone, known, list_any, name_bytes}
use Rattle.misp_model.proofs.Prelude.{nat_tests, new_event, of_event, ok_answer, or_left, parents, part_version, parts_written, place_in, reference_key, reference_version, same_event, same_key-keeps, same_org, same_org-refl}
use Rattle.misp_model.proofs.Prelude.{same_org-sound, seeing, takes_uuid, target_in_copy, target_of, uid, uuid_at, written}
use Rattle.misp_model.proofs.Spelled.{begins_with_itself}
use Rattle.misp_model.specs.Scene.{holds_tombstone}
use Rattle.misp_model.specs.Machine.{is_of_copy}
use Rattle.misp_model.proofs.ShownHere.{key_here}
use Rattle.misp_model.proofs.OneEvent.{IsSame, from_rules, accepted_from}
use Rattle.misp_history.proofs.Prelude.{AddEvent, Ask}
use Rattle.misp_edit.specs.Adding.{numbered_uuids, is_read_before, read_uuids, with_those_before, is_clash, first_clash, labels_of, first_unusable}
use Rattle.misp_edit.specs.Refusals.{named, added_place, refusal_of}
use Rattle.misp_edit.proofs.LateRules.{usable_is}
use Rattle.misp_edit.proofs.RuleLemmas.{clash_known, unusable_known}

-- ---- a copy among other rows

-- an owner that is the same as the owner is the same as the organisation
same_owner : (a b o : OrgId) → same_org a b ≡ true → same_org b o ≡ true → same_org a o ≡ true
unfolding same_org
same_owner a b o h k = grind (arith, nat_tests, h, k)

-- the rows of an owner of an event are of its copy
of_copy : (o : OrgId) (e : EventId) (row : Row) → same_org row.owner o ≡ true → same_event (event_of row.key) e ≡ true → is_of_copy o e row ≡ true
unfolding is_of_copy
of_copy o e row h g = and_from (same_org row.owner o) (same_event (event_of row.key) e) h g

module _ (o : OrgId) (e : EventId) (rows : List Row) where
  -- what the organisation has of the event
  abbrev copy : List Row
  copy = filter (is_of_copy o e) rows

  -- what a test finds at a key of the event, of an owner that is the organisation
  copy_any : (w : OrgId) (k : Key) (test : Row → Bool) → same_org w o ≡ true → of_event e k ≡ true →
      list_any (λ row. is_row_of w k row && test row) copy ≡ list_any (λ row. is_row_of w k row && test row) rows
  unfolding is_row_of of_event
  copy_any w k test h g =
      any_cut _ (is_of_copy o e)
      (λ row f. of_copy o e row (same_owner row.owner w o (and_parts _ _ (and_parts _ _ f).0).0 h) (same_key-keeps (of_event e) row.key k (and_parts _ _ (and_parts _ _ f).0).1 g)) rows

  copy_has : (w : OrgId) (f : EventId) → same_org w o ≡ true → of_event e (event_key f) ≡ true → has_copy copy w f ≡ has_copy rows w f
  unfolding has_copy
  copy_has w f h g = copy_any w (event_key f) (λ row. not (is_tombstone row)) h g

  copy_gone : (w : OrgId) (f : EventId) → same_org w o ≡ true → of_event e (event_key f) ≡ true → has_gone copy w f ≡ has_gone rows w f
  unfolding has_gone
  copy_gone w f h g = copy_any w (event_key f) is_tombstone h g

  copy_live : (row : Row) → is_of_copy o e row ≡ true → is_live copy row ≡ is_live rows row
  unfolding is_live is_of_copy of_event
  copy_live row h =
      let own : same_org row.owner o ≡ true = (and_parts _ _ h).0 in
      let here : of_event e row.key ≡ true = (and_parts _ _ h).1 in
      rw (
        copy_gone row.owner (event_of row.key) own (event_kept (of_event e) (event_is_closed e) row.key here),
        all_same _ _ (of_event e) (λ k g. ap not (copy_any row.owner k is_deleted own g)) (parents row.key) ((event_is_closed e).above row.key here),
      ) refl

-- ---- an addition from the copy alone

abbrev add : Submission → Ask
add b = Ask.Change (AddEvent b)

module _ (b : Submission) (s : Scene) where
  -- the same surroundings with what the caller has of the event alone
  abbrev pub mine : Scene
  mine = record s { rows = filter (is_of_copy s.by b.event) s.rows }

  taken_mine : (u : ℕ) → is_taken mine b.event u ≡ is_taken s b.event u
  unfolding is_taken
  taken_mine u =
      ap (λ found. eqb b.event.0.0 u || found)
      (any_cut (λ (row : Row). same_org row.owner s.by && (same_event (event_of row.key) b.event && takes_uuid u row.key)) (is_of_copy s.by b.event)
      (λ row g. of_copy s.by b.event row (and_parts _ _ g).0 (and_parts _ _ (and_parts _ _ g).1).0) s.rows)

  target_in_mine : (u : ElemId) → target_in_copy mine b.event u ≡ target_in_copy s b.event u
  unfolding target_in_copy
  target_in_mine u =
      ap (option_map (λ row. place_in row.key))
      (find_within
      (λ row. same_org row.owner s.by && (same_event (event_of row.key) b.event && (is_target_key u row.key && is_live (copy s.by b.event s.rows) row)))
      (λ row. same_org row.owner s.by && (same_event (event_of row.key) b.event && (is_target_key u row.key && is_live s.rows row)))
      (is_of_copy s.by b.event)
      (λ row g i. same_org row.owner s.by && (same_event (event_of row.key) b.event && (is_target_key u row.key && copy_live s.by b.event s.rows row g i)))
      (λ row g. of_copy s.by b.event row (and_parts _ _ g).0 (and_parts _ _ (and_parts _ _ g).1).0) s.rows)

  target_mine : (u : ElemId) → target_of mine b.event b.parts u ≡ target_of s b.event b.parts u
  unfolding target_of
  target_mine u = λ i. elim (find (λ d. is_place_of u d.place) b.parts) as (λ x. Option Place) [ Some d ↦ Some d.place | None ↦ target_in_mine u i ]

  has_target_mine : (r : ReferenceDraft) → has_target mine b r ≡ has_target s b r
  unfolding has_target
  has_target_mine r = λ i. elim (target_mine r.referenced i) as (λ x. Bool) [ Some t ↦ true | None ↦ false ]

  -- the first clash is the same
  pub clash_mine : first_clash mine b ≡ first_clash s b
  unfolding first_clash is_clash read_uuids numbered_uuids
  clash_mine = λ i. option_map (λ p. p.1) (find (λ p. taken_mine p.1 i || list_any (eqb p.1) p.0) (with_those_before [] (map (λ p. p.1) (in_order is_read_before (map (λ d. (d.number, uuid_at b.event d.place)) b.parts
      ++ map (λ r. (r.number, r.uuid.0.0)) (filter (λ r. has_target_mine r i) b.references))))))

  -- and so is the first unusable label
  pub unusable_mine : first_unusable mine b ≡ first_unusable s b
  unfolding first_unusable
  unusable_mine = λ i. find (λ l. (sym (usable_is mine l) ∙ usable_is s l) i) (labels_of b)

  rules_mine : change_rules mine (AddEvent b) ≡ change_rules s (AddEvent b)
  unfolding change_rules holds_copy holds_tombstone
  rules_mine = λ i.
      (copy_has s.by b.event s.rows s.by b.event (same_org-refl s.by) (key_here b.event) i, EventExists)
      ∷ (copy_gone s.by b.event s.rows s.by b.event (same_org-refl s.by) (key_here b.event) i, EventGone)
      ∷ ((sym (clash_known mine b) ∙ ap is_some clash_mine ∙ clash_known s b) i, ElementExists)
      ∷ ((sym (unusable_known mine b) ∙ ap is_some unusable_mine ∙ unusable_known s b) i, GroupNotUsable) ∷ []

  reference_mine : (r : ReferenceDraft) → reference_version mine b.event b.parts r ≡ reference_version s b.event b.parts r
  unfolding reference_version reference_key written
  reference_mine r = λ i.
      option_map (λ k. written s k s.now Label.Inherit (Content.Reference r.body)) (option_map (λ t. Reference b.event r.object t r.uuid) (target_mine r.referenced i))

  writes_mine : change_writes mine (AddEvent b) ≡ change_writes s (AddEvent b)
  unfolding change_writes event_written parts_written part_version new_event written
  writes_mine = λ i.
      map (λ d. written s (event_key b.event) s.now b.label (Content.Event (new_event s d))) (option_to_list b.body)
      ++ (map (part_version s b.event) b.parts ++ filter_map (λ r. reference_mine r i) b.references)

  add_mine : IsSame mine s (add b)
  unfolding ask_rules brings ok_answer
  add_mine = record {
    rules = rules_mine;
    accepted = accepted_from mine s (add b) rules_mine;
    answers = from_rules mine s (add b) rules_mine (λ i. Saved (writes_mine i));
    brought = writes_mine;
  }

  refusal_mine : (rule : Rule) → refusal_of mine (add b) rule ≡ refusal_of s (add b) rule
  refusal_mine rule = λ i. record { name = named rule; place = added_place (clash_mine i) (unusable_mine i) rule }

-- ---- from the rows that the caller's bytes name

-- the rows of an event whose names begin with the bytes of an organisation
abbrev pub named_rows : OrgId → EventId → List Row → List Row
named_rows o e rows = filter (λ r. same_event (event_of r.key) e && starts_with nat_eq (name_bytes r) (uid o.0)) rows

module _ (o : OrgId) (e : EventId) where
  -- what the organisation has of the event is so named
  own_is_named : (r : Row) → is_of_copy o e r ≡ true → same_event (event_of r.key) e && starts_with nat_eq (name_bytes r) (uid o.0) ≡ true
  unfolding is_of_copy name_bytes
  own_is_named r own =
      let begins : starts_with nat_eq (name_bytes r) (uid r.owner.0) ≡ true = begins_with_itself (uid r.owner.0) (key r.key) in
      and_from _ _ (and_parts _ _ own).1
      (subst (λ (w : OrgId). starts_with nat_eq (name_bytes r) (uid w.0) ≡ true) (same_org-sound r.owner o (and_parts _ _ own).0) begins)

  -- and all of it is known
  pub own_is_known : (rows : List Row) (groups : List Group) (i : Inst) → copy o e (known rows groups i o) ≡ copy o e rows
  unfolding known is_known is_of_copy
  own_is_known rows groups i =
      filter_within (is_of_copy o e) (is_of_copy o e) (is_known rows groups i o) (λ row h. refl)
      (λ row h. or_left (same_org row.owner o) (granted rows groups i o row) (and_parts (same_org row.owner o) (same_event (event_of row.key) e) h).0) rows

-- two scenes in which an ask is answered, written and refused the same
pub record IsAlike (s t : Scene) (a : Ask) : Type 0 where
  pub same : IsSame s t a
  pub refusals : (rule : Rule) → refusal_of s a rule ≡ refusal_of t a rule

module _ (b : Submission) (rows : List Row) (s : Scene) where
  abbrev here : Scene
  here = seeing s (named_rows s.by b.event rows)

  abbrev there : Scene
  there = seeing s rows

  one_copy : mine b here ≡ mine b there
  one_copy = λ i. record s {
    rows = (
        own_is_known s.by b.event (named_rows s.by b.event rows) s.groups s.at
        ∙ filter_within (is_of_copy s.by b.event) (is_of_copy s.by b.event) _ (λ row h. refl) (own_is_named s.by b.event) rows
        ∙ sym (own_is_known s.by b.event rows s.groups s.at)
        ) i;
  }

  -- what is the same from the copy alone is the same from what is so named
  by_copy : {A : Type 0} (f : Scene → A) → ((t : Scene) → f (mine b t) ≡ f t) → f here ≡ f there
  by_copy f same = sym (same here) ∙ ap f one_copy ∙ same there

  pub add_named : IsAlike here there (add b)
  add_named = record {
    same = record {
      rules = by_copy (λ t. ask_rules t (add b)) (λ t. (add_mine b t).rules);
      accepted = by_copy (λ t. is_accepted t (add b)) (λ t. (add_mine b t).accepted);
      answers = by_copy (λ t. answer t (add b)) (λ t. (add_mine b t).answers);
      brought = by_copy (λ t. brings t (add b)) (λ t. (add_mine b t).brought);
    };
    refusals = λ rule. by_copy (λ t. refusal_of t (add b) rule) (λ t. refusal_mine b t rule);
  }
