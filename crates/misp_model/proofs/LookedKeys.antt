-- What a request looks at has the parents of its keys: each of the looks is closed for the organisation that asks.
use Rattle.std.proofs.Common.{◌≡◌, List, [], ◌∷◌, ◌++◌, Bool, true, false, refl, ap, sym, ◌∙◌, cond, inl, inr, ◌&&◌, ◌||◌}
use Rattle.std.proofs.lemmas.Bool.{and_from, and_parts, false_from_ne_true, false≢true, or_cases, or_left, or_right}
use Rattle.std.proofs.lemmas.List.Folds.{list_all-append}
use Rattle.misp_lists.proofs.Lists.{all_both, all_implies}
use Rattle.misp_ids.proofs.Same.{same_event-refl, same_org-refl, same_org-sound}
use Rattle.misp_elem.proofs.Same.{of_event, same_key-keeps, same_key-refl, target_kept}
use Rattle.misp_model.specs.Prelude.{ElemId, Element, EventId, Inst, Key, OrgId, Place, Proposal, ProposalName, Reference, Sighting, Verdict, above, event_key, event_of, is_for_new, list_all, list_any, parents, same_event, same_key, same_org, up_to}
use Rattle.misp_model.specs.Looking.{at_proposal, at_target, beside, is_in_look, is_needed_for, is_place_needed_for, looks_at, own_alone, proposal_keys}
use Rattle.misp_model.specs.declared.looks.Look.{Look}
use Rattle.misp_model.specs.declared.looks.Looks.{Looks}
use Rattle.misp_model.proofs.EventParents.{parents_of}
use Rattle.misp_model.proofs.LookedRows.{IsClosedFor, event_first, is_reference}

-- ---- lists of keys

abbrev pub among : List Key → Key → Bool
among keys k = list_any (same_key k) keys

-- what holds of all of a list holds of each key in it
among_all : (test : Key → Bool) (keys : List Key) → list_all test keys ≡ true → (k : Key) → among keys k ≡ true → test k ≡ true
among_all test [] a k h = absurd (false≢true h)
among_all test (x ∷ xs) a k h = elim (or_cases _ _ h) [ inl e ↦ same_key-keeps test k x e (and_parts _ _ a).0 | inr e ↦ among_all test xs (and_parts _ _ a).1 k e ]

all_from : (test : Key → Bool) (keys : List Key) → ((k : Key) → among keys k ≡ true → test k ≡ true) → list_all test keys ≡ true
all_from test [] h = refl
all_from test (x ∷ xs) h = and_from _ _ (h x (or_left _ _ (same_key-refl x))) (all_from test xs (λ k g. h k (or_right _ _ g)))

pub all_among : (keys : List Key) → list_all (among keys) keys ≡ true
all_among keys = all_from (among keys) keys (λ k h. h)

-- the two parts of a list that is all kept
pub parts_kept : (keep : Key → Bool) (xs ys : List Key) → list_all keep (xs ++ ys) ≡ true → (list_all keep xs ≡ true) × (list_all keep ys ≡ true)
parts_kept keep xs ys h = and_parts _ _ (sym (list_all-append keep xs ys) ∙ h)

-- the parents of each of these keys are kept
abbrev pub AboveAll : (Key → Bool) → List Key → Type 0
AboveAll keep keys = list_all (λ k. list_all keep (parents k)) keys ≡ true

-- the first two of what is kept, each with what is above it
two_kept : (a b c : Bool) → (a && (b && c)) ≡ true → (a && true && (a && (b && true) && true)) ≡ true
two_kept true true c h = refl
two_kept true false c h = absurd (false≢true h)
two_kept false b c h = absurd (false≢true h)

-- of a place with what is above it
above_place : (keep : Key → Bool) (e : EventId) (p : Place) → list_all keep (up_to e p) ≡ true → AboveAll keep (up_to e p)
unfolding up_to above parents
above_place keep e Place.Event h = refl
above_place keep e (Place.Object x) h = and_from _ _ (and_from _ _ (and_parts _ _ h).0 refl) refl
above_place keep e (Place.Attribute x) h = and_from _ _ (and_from _ _ (and_parts _ _ h).0 refl) refl
above_place keep e (Place.ObjectAttribute x a) h = two_kept (keep (Element e Place.Event)) (keep (Element e (Place.Object x))) _ h

-- and with one key more, whose parents are kept
above_more : (keep : Key → Bool) (keys : List Key) (k : Key) → AboveAll keep keys → list_all keep (parents k) ≡ true → AboveAll keep (keys ++ k ∷ [])
above_more keep keys k h g = list_all-append (λ k. list_all keep (parents k)) keys (k ∷ []) ∙ and_from _ _ h (and_from _ _ g refl)

-- the last key of a list is in it
pub last_among : (keys : List Key) (k : Key) → among (keys ++ k ∷ []) k ≡ true
last_among keys k = (and_parts _ _ (parts_kept (among (keys ++ k ∷ [])) keys (k ∷ []) (all_among (keys ++ k ∷ []))).1).0

-- and so is what stands before it
first_among : (keys : List Key) (k : Key) → list_all (among (keys ++ k ∷ [])) keys ≡ true
first_among keys k = (parts_kept (among (keys ++ k ∷ [])) keys (k ∷ []) (all_among (keys ++ k ∷ []))).0

-- ---- looks that have the parents of their keys

-- each key that is looked at of others is of its own, and each with its parents, but for a reference of its own
pub record IsClosedLooks (l : Looks) : Type 0 where
  pub shared : (k : Key) → is_in_look l.others l.event k ≡ true → list_all (is_in_look l.others l.event) (parents k) ≡ true
  pub own : (k : Key) → is_reference k ≡ false → is_in_look l.own l.event k ≡ true → list_all (is_in_look l.own l.event) (parents k) ≡ true
  pub both : (k : Key) → is_in_look l.others l.event k ≡ true → is_in_look l.own l.event k ≡ true

-- an own key is looked at
pub own_looks : (l : Looks) (k : Key) → is_in_look l.own l.event k ≡ true → looks_at l l.of k ≡ true
unfolding looks_at
own_looks l k h = rw (same_org-refl l.of) h

-- a key of all owners is looked at of each
pub shared_looks : (l : Looks) → IsClosedLooks l → (w : OrgId) (k : Key) → is_in_look l.others l.event k ≡ true → looks_at l w k ≡ true
unfolding looks_at
shared_looks l c w k h = by_owner (same_org w l.of)
  where
    by_owner : (b : Bool) → cond b (is_in_look l.own l.event k) (is_in_look l.others l.event k) ≡ true
    by_owner true = c.both k h
    by_owner false = h

org_apart : (o w : OrgId) → same_org o w ≡ false → (b : Bool) → same_org w o ≡ b → b ≡ false
org_apart o w h false e = refl
org_apart o w h true e = absurd (false≢true (sym h ∙ ap (same_org o) (same_org-sound w o e) ∙ same_org-refl o))

-- looks that have the parents of their keys are closed for the organisation that asks
pub closed_for : (l : Looks) → IsClosedLooks l → IsClosedFor l.of (looks_at l)
unfolding looks_at
closed_for l c = record {
  above = λ w k n h. by_owner w k n (same_org w l.of) refl h;
  targets = λ w v k other said h. for_all w v k (org_apart l.of w other _ refl) h;
}
  where
    by_owner : (w : OrgId) (k : Key) → (is_reference k ≡ true → same_org w l.of ≡ false) → (b : Bool) → same_org w l.of ≡ b → cond b (is_in_look l.own l.event k) (is_in_look l.others l.event k) ≡ true →
        list_all (λ k. cond (same_org w l.of) (is_in_look l.own l.event k) (is_in_look l.others l.event k)) (parents k) ≡ true
    by_owner w k n true e h = rw e (c.own k (false_from_ne_true (is_reference k) (λ r. false≢true (sym (n r) ∙ e))) h)
    by_owner w k n false e h = rw e (c.shared k h)

    for_all : (w v : OrgId) (k : Key) → same_org w l.of ≡ false → looks_at l w k ≡ true → list_all (looks_at l v) (parents k) ≡ true
    for_all w v k other h =
        all_implies (is_in_look l.others l.event) (looks_at l v) (λ j g. shared_looks l c v j g) (parents k)
        (c.shared k (sym (ap (λ b. cond b (is_in_look l.own l.event k) (is_in_look l.others l.event k)) other) ∙ h))

-- ---- lists of keys that have their parents

own_keys : (keys : List Key) → AboveAll (among keys) keys → (k : Key) → among keys k ≡ true → list_all (among keys) (parents k) ≡ true
own_keys keys h k g = among_all (λ k. list_all (among keys) (parents k)) keys h k g

pub event_among : (e : EventId) → among (event_key e ∷ []) (event_key e) ≡ true
event_among e = or_left _ _ (same_key-refl (event_key e))

pub target_among : (e : EventId) (p : Place) → among (up_to e p) (Element e p) ≡ true
target_among e p = target_kept (among (up_to e p)) e p (all_among (up_to e p))

-- ---- what has one of some uuids

-- of a key that has one, but for a reference, the parents have one
uuid_above : (us : List ElemId) (e : EventId) (k : Key) → is_reference k ≡ false → same_event (event_of k) e && is_needed_for us k ≡ true →
    list_all (λ j. same_event (event_of j) e && is_needed_for us j) (parents k) ≡ true
unfolding event_of parents above is_needed_for is_place_needed_for is_reference
uuid_above us e (Element f Place.Event) n h = refl
uuid_above us e (Element f (Place.Object x)) n h = and_from _ _ h refl
uuid_above us e (Element f (Place.Attribute a)) n h = and_from _ _ (and_from _ _ (and_parts _ _ h).0 refl) refl
uuid_above us e (Element f (Place.ObjectAttribute x a)) n h =
    let there : same_event f e && true ≡ true = and_from _ _ (and_parts _ _ h).0 refl in
    and_from _ _ there (and_from _ _ there refl)
uuid_above us e (Reference f x t u) n h = absurd (false≢true (sym n))
uuid_above us e (Proposal f m) n h = absurd (false≢true (and_parts _ _ h).1)
uuid_above us e (Verdict f m i o) n h = absurd (false≢true (and_parts _ _ h).1)
uuid_above us e (Sighting f t i o u) n h = absurd (false≢true (and_parts _ _ h).1)

-- ---- own rows alone, and the event's row in each copy besides

pub record IsClosedOwn (e : EventId) (look : Look) : Type 0 where
  pub above : (k : Key) → is_reference k ≡ false → is_in_look look e k ≡ true → list_all (is_in_look look e) (parents k) ≡ true
  pub event : is_in_look look e (event_key e) ≡ true

module _ (o : OrgId) (e : EventId) (look : Look) (c : IsClosedOwn e look) where
  pub alone_closed : IsClosedLooks (own_alone o e look)
  unfolding is_in_look
  alone_closed = record { shared = λ k h. absurd (false≢true h); own = c.above; both = λ k h. absurd (false≢true h) }

  pub beside_closed : IsClosedLooks (beside (own_alone o e look))
  unfolding is_in_look event_key parents above
  beside_closed = record {
    shared = own_keys (event_key e ∷ []) refl;
    own = c.above;
    both = λ k h. among_all (is_in_look look e) (event_key e ∷ []) (and_from _ _ c.event refl) k h;
  }

-- a place with what is above it
pub place_own : (e : EventId) (p : Place) → IsClosedOwn e (Look.Keys (up_to e p))
unfolding is_in_look
place_own e p = record {
  above = λ k n h. own_keys (up_to e p) (above_place (among (up_to e p)) e p (all_among (up_to e p))) k h;
  event = event_first (among (up_to e p)) e p (all_among (up_to e p));
}

-- the copy
pub copy_own : (e : EventId) → IsClosedOwn e Look.All
unfolding is_in_look event_key event_of of_event
copy_own e = record { above = λ k n h. parents_of e k h; event = same_event-refl e }

-- what has one of some uuids
pub uuids_own : (e : EventId) (us : List ElemId) → IsClosedOwn e (Look.Uuids us [])
unfolding is_in_look event_key event_of is_needed_for is_place_needed_for
uuids_own e us = record {
  above = λ k n h. all_implies (λ j. same_event (event_of j) e && is_needed_for us j) (is_in_look (Look.Uuids us []) e) (λ j g. or_left _ _ g) (parents k) (uuid_above us e k n (only k h));
  event = or_left _ _ (and_from _ _ (same_event-refl e) refl);
}
  where
    only : (k : Key) → (same_event (event_of k) e && is_needed_for us k || false) ≡ true → same_event (event_of k) e && is_needed_for us k ≡ true
    only k h = elim (or_cases _ _ h) [ inl g ↦ g | inr g ↦ absurd (false≢true g) ]

-- ---- a statement on a place

pub target_closed : (o : OrgId) (e : EventId) (p : Place) (k : Key) → parents k ≡ up_to e p → IsClosedLooks (at_target o e p k)
unfolding is_in_look
target_closed o e p k h = record {
  shared = own_keys (up_to e p) (above_place (among (up_to e p)) e p (all_among (up_to e p)));
  own = λ j n g. own_keys (up_to e p ++ k ∷ []) (above_more keep (up_to e p) k (above_place keep e p first) (ap (list_all keep) h ∙ first)) j g;
  both = λ j g. among_all keep (up_to e p) first j g;
}
  where
    keep : Key → Bool
    keep = among (up_to e p ++ k ∷ [])

    first : list_all (among (up_to e p ++ k ∷ [])) (up_to e p) ≡ true
    first = first_among (up_to e p) k

-- ---- a proposal and a verdict on it

module _ (e : EventId) (n : ProposalName) where
  pub proposal_among : among (proposal_keys e n) (Proposal e n) ≡ true
  proposal_among = last_among (up_to e n.target) (Proposal e n)

  pub proposal_target_among : among (proposal_keys e n) (Element e n.target) ≡ true
  proposal_target_among = target_kept (among (proposal_keys e n)) e n.target (first_among (up_to e n.target) (Proposal e n))

  -- where all of a proposal's keys are kept, their parents are
  proposal_above : (keep : Key → Bool) → list_all keep (proposal_keys e n) ≡ true → (AboveAll keep (proposal_keys e n)) × (list_all keep (up_to e n.target) ≡ true)
  unfolding parents
  proposal_above keep h =
      let g : list_all keep (up_to e n.target) ≡ true = (parts_kept keep (up_to e n.target) (Proposal e n ∷ []) h).0 in
      (above_more keep (up_to e n.target) (Proposal e n) (above_place keep e n.target g) g, g)

  proposal_shared : (k : Key) → among (proposal_keys e n) k ≡ true → list_all (among (proposal_keys e n)) (parents k) ≡ true
  proposal_shared = own_keys (proposal_keys e n) (proposal_above (among (proposal_keys e n)) (all_among (proposal_keys e n))).0

  module _ (o : OrgId) (i : Inst) (v : OrgId) where
    abbrev verdict : Key
    verdict = Verdict e n i v

    abbrev making : Look
    making = Look.Uuids (n.uuid ∷ []) (Proposal e n ∷ verdict ∷ [])

    -- what stands above a proposal for a new attribute is the event
    event_in_making : is_for_new n ≡ true → list_all (is_in_look making e) (up_to e n.target) ≡ true
    unfolding is_for_new is_in_look event_of up_to above is_needed_for is_place_needed_for
    event_in_making h = by_target n.target h
      where
        by_target : (t : Place) → (elim t [ Place.Event ↦ true | Place.Object x ↦ false | Place.Attribute a ↦ false | Place.ObjectAttribute x a ↦ false ]) ≡ true →
            list_all (is_in_look making e) (up_to e t) ≡ true
        by_target Place.Event g = and_from _ _ (or_left _ _ (and_from _ _ (same_event-refl e) refl)) refl
        by_target (Place.Object x) g = absurd (false≢true g)
        by_target (Place.Attribute x) g = absurd (false≢true g)
        by_target (Place.ObjectAttribute x a) g = absurd (false≢true g)

    -- the keys of the proposal and the verdict, with their parents
    making_keys : is_for_new n ≡ true → list_all (λ k. list_all (is_in_look making e) (parents k)) (Proposal e n ∷ verdict ∷ []) ≡ true
    unfolding parents
    making_keys h = and_from _ _ (event_in_making h) (and_from _ _ (event_in_making h) refl)

    making_above : is_for_new n ≡ true → (k : Key) → is_reference k ≡ false → is_in_look making e k ≡ true → list_all (is_in_look making e) (parents k) ≡ true
    unfolding is_in_look
    making_above h k none g = elim (or_cases _ _ g) [
      | inl has ↦ all_implies (λ j. same_event (event_of j) e && is_needed_for (n.uuid ∷ []) j) (is_in_look making e) (λ j g. or_left _ _ g) (parents k) (uuid_above (n.uuid ∷ []) e k none has)
      | inr is ↦ among_all (λ k. list_all (is_in_look making e) (parents k)) (Proposal e n ∷ verdict ∷ []) (making_keys h) k is
    ]

    proposal_in_making : is_for_new n ≡ true → list_all (is_in_look making e) (proposal_keys e n) ≡ true
    unfolding is_in_look
    proposal_in_making h = all_both (is_in_look making e) (up_to e n.target) (Proposal e n ∷ []) (event_in_making h) (and_from _ _ (or_right _ _ (or_left _ _ (same_key-refl (Proposal e n)))) refl)

    -- where the judgement makes a new attribute, the proposal is for one
    pub judging_closed : (makes : Bool) → (makes ≡ true → is_for_new n ≡ true) → IsClosedLooks (at_proposal o e n makes verdict)
    unfolding is_in_look parents
    judging_closed true new = record { shared = proposal_shared; own = making_above (new refl); both = λ k h. among_all (is_in_look making e) (proposal_keys e n) (proposal_in_making (new refl)) k h }
    judging_closed false new = record {
      shared = proposal_shared;
      own = λ k none h. own_keys (proposal_keys e n ++ verdict ∷ []) (above_more keep (proposal_keys e n) verdict (proposal_above keep first).0 (proposal_above keep first).1) k h;
      both = λ k h. among_all keep (proposal_keys e n) first k h;
    }
      where
        keep : Key → Bool
        keep = among (proposal_keys e n ++ verdict ∷ [])

        first : list_all (among (proposal_keys e n ++ verdict ∷ [])) (proposal_keys e n) ≡ true
        first = first_among (proposal_keys e n) verdict
