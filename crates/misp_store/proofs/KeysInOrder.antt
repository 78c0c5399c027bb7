-- The keys of what a request looks at are in the order of their bytes.
use Rattle.std.proofs.Common.{◌≡◌, List, [], ◌∷◌, ◌++◌, Bool, true, false, refl, ap, ◌∙◌, IfSome, is_lt}
use Rattle.misp_lists.specs.Order.{ascend}
use Rattle.misp_lists.proofs.Orders.{front_cmp, in_bytes, itself}
use Rattle.misp_lists.proofs.Prelude.{and_from, and_parts, list_all, ordering_then}
use Rattle.misp_ids.specs.Same.{Inst}
use Rattle.misp_elem.specs.Parents.{above, event_key, up_to}
use Rattle.misp_elem.specs.KeyFacts.{is_statement}
use Rattle.misp_elem.specs.Prelude.{Submission}
use Rattle.misp_elem.specs.Spelling.{place, uid}
use Rattle.misp_model.proofs.Prelude.{Element, EventId, Key, OrgId, Place, Proposal, ProposalName, Sighting, Verdict}
use Rattle.misp_model.specs.Looking.{at_copy, at_event, at_parts, at_place, at_proposal, at_target, beside, change_looks, looks_of, proposal_by, proposal_keys}
use Rattle.misp_model.specs.declared.ask.Ask.{Ask}
use Rattle.misp_model.specs.declared.change.Change.{Change}
use Rattle.misp_model.specs.declared.looks.Looks.{Looks}
use Rattle.misp_store.specs.Seeking.{HasKeysInOrder, are_in_order, key_before}

-- elements of an event are in the order of their places
pub by_place : (e : EventId) (p q : Place) → is_lt (in_bytes (place p) (place q)) ≡ true → key_before (Element e p) (Element e q) ≡ true
by_place e p q h = ap is_lt (front_cmp (uid e.0) (uid e.0) (place p) (place q) refl ∙ ap (λ t. ordering_then t (in_bytes (place p) (place q))) (itself (uid e.0))) ∙ h

places_in_order : (e : EventId) (p : Place) → are_in_order (up_to e p) ≡ true
unfolding are_in_order ascend up_to above
places_in_order e Place.Event = refl
places_in_order e (Place.Object x) = and_from _ _ (and_from _ _ (by_place e Place.Event (Place.Object x) refl) refl) refl
places_in_order e (Place.Attribute a) = and_from _ _ (and_from _ _ (by_place e Place.Event (Place.Attribute a) refl) refl) refl
places_in_order e (Place.ObjectAttribute x a) =
    and_from _ _
    (and_from _ _ (by_place e Place.Event (Place.Object x) refl) (and_from _ _ (by_place e Place.Event (Place.ObjectAttribute x a) refl) refl))
    (and_from _ _ (and_from _ _ (by_place e (Place.Object x) (Place.ObjectAttribute x a) refl) refl) refl)

-- one more that is behind all
one_more : (keys : List Key) (k : Key) → are_in_order keys ≡ true → list_all (λ j. key_before j k) keys ≡ true → are_in_order (keys ++ k ∷ []) ≡ true
unfolding are_in_order ascend
one_more [] k up all = refl
one_more (j ∷ keys) k up all = and_from _ _ (more keys (and_parts _ _ up).0 (and_parts _ _ all).0) (one_more keys k (and_parts _ _ up).1 (and_parts _ _ all).1)
  where
    more : (js : List Key) → list_all (key_before j) js ≡ true → key_before j k ≡ true → list_all (key_before j) (js ++ k ∷ []) ≡ true
    more [] h last = and_from _ _ last refl
    more (i ∷ js) h last = and_from _ _ (and_parts _ _ h).0 (more js (and_parts _ _ h).1 last)

-- statements are behind elements
module _ (k : Key) (later : (e : EventId) (p : Place) → key_before (Element e p) k ≡ true) where
  behind_places : (e : EventId) (p : Place) → list_all (λ j. key_before j k) (up_to e p) ≡ true
  unfolding up_to above
  behind_places e Place.Event = and_from _ _ (later e Place.Event) refl
  behind_places e (Place.Object x) = and_from _ _ (later e Place.Event) (and_from _ _ (later e (Place.Object x)) refl)
  behind_places e (Place.Attribute a) = and_from _ _ (later e Place.Event) (and_from _ _ (later e (Place.Attribute a)) refl)
  behind_places e (Place.ObjectAttribute x a) =
      and_from _ _ (later e Place.Event) (and_from _ _ (later e (Place.Object x)) (and_from _ _ (later e (Place.ObjectAttribute x a)) refl))

  statement_last : (e : EventId) (p : Place) → are_in_order (up_to e p ++ k ∷ []) ≡ true
  statement_last e p = one_more (up_to e p) k (places_in_order e p) (behind_places e p)

-- ---- what requests look at

event_first : (e : EventId) → are_in_order (event_key e ∷ []) ≡ true
unfolding are_in_order ascend
event_first e = refl

none_in_order : are_in_order [] ≡ true
unfolding are_in_order ascend
none_in_order = refl

place_sorted : (by : OrgId) (e : EventId) (p : Place) → HasKeysInOrder (at_place by e p)
place_sorted by e p = record { own = places_in_order e p; others = none_in_order }

copy_sorted : (by : OrgId) (e : EventId) → HasKeysInOrder (at_copy by e)
copy_sorted by e = record { own = tt; others = none_in_order }

parts_sorted : (by : OrgId) (b : Submission) → HasKeysInOrder (at_parts by b)
parts_sorted by b = record { own = (none_in_order, refl); others = none_in_order }

event_sorted : (by : OrgId) (e : EventId) → HasKeysInOrder (at_event by e)
event_sorted by e = record { own = event_first e; others = event_first e }

target_sorted : (by : OrgId) (e : EventId) (p : Place) (k : Key) → ((e : EventId) (p : Place) → key_before (Element e p) k ≡ true) → HasKeysInOrder (at_target by e p k)
target_sorted by e p k later = record { own = statement_last k later e p; others = places_in_order e p }

verdict_last : (e : EventId) (n : ProposalName) (i : Inst) (o : OrgId) → are_in_order (proposal_keys e n ++ Verdict e n i o ∷ []) ≡ true
verdict_last e n i o =
    one_more (proposal_keys e n) (Verdict e n i o) (statement_last (Proposal e n) (λ f p. refl) e n.target)
    (list_all_last (λ j. key_before j (Verdict e n i o)) (up_to e n.target) (Proposal e n) (behind_places (Verdict e n i o) (λ f p. refl) e n.target) refl)
  where
    list_all_last : (p : Key → Bool) (js : List Key) (k : Key) → list_all p js ≡ true → p k ≡ true → list_all p (js ++ k ∷ []) ≡ true
    list_all_last p [] k h last = and_from _ _ last refl
    list_all_last p (j ∷ js) k h last = and_from _ _ (and_parts _ _ h).0 (list_all_last p js k (and_parts _ _ h).1 last)

two_in_order : (e : EventId) (n : ProposalName) (i : Inst) (o : OrgId) → are_in_order (Proposal e n ∷ Verdict e n i o ∷ []) ≡ true
unfolding are_in_order ascend
two_in_order e n i o = refl

two_statements : (e : EventId) (n : ProposalName) (i : Inst) (o : OrgId) → list_all is_statement (Proposal e n ∷ Verdict e n i o ∷ []) ≡ true
unfolding is_statement
two_statements e n i o = refl

proposal_sorted : (by : OrgId) (e : EventId) (n : ProposalName) (makes : Bool) (i : Inst) (o : OrgId) → HasKeysInOrder (at_proposal by e n makes (Verdict e n i o))
proposal_sorted by e n true i o = record { own = (two_in_order e n i o, two_statements e n i o); others = statement_last (Proposal e n) (λ f p. refl) e n.target }
proposal_sorted by e n false i o = record { own = verdict_last e n i o; others = statement_last (Proposal e n) (λ f p. refl) e n.target }

change_sorted : (by : OrgId) (c : Change) → IfSome (change_looks by c) HasKeysInOrder
change_sorted by (Change.AddEvent b) = tt
change_sorted by (Change.AddParts e b) = parts_sorted by b
change_sorted by (Change.EditEvent e edit) = place_sorted by e Place.Event
change_sorted by (Change.EditAttribute e p edit) = place_sorted by e p
change_sorted by (Change.EditObject e x edit) = place_sorted by e (Place.Object x)
change_sorted by (Change.Delete e p) = place_sorted by e p
change_sorted by (Change.DeleteReference e x u) = copy_sorted by e
change_sorted by (Change.Tag e p tag) = place_sorted by e p
change_sorted by (Change.Untag e p name) = place_sorted by e p
change_sorted by (Change.DeleteEvent e) = place_sorted by e Place.Event
change_sorted by (Change.Publish e) = copy_sorted by e

pub looks_sorted : (i : Inst) (o : OrgId) (ask : Ask) → IfSome (looks_of i o ask) HasKeysInOrder
looks_sorted i o (Ask.Change c) = change_sorted o c
looks_sorted i o (Ask.Propose d) = target_sorted o d.event d.target (proposal_by i o d) (λ e p. refl)
looks_sorted i o (Ask.Sight e t d) = target_sorted o e t (Sighting e t i o d.uuid) (λ f p. refl)
looks_sorted i o (Ask.Judge e n accept) = proposal_sorted o e n _ i o
looks_sorted i o (Ask.View e owner) = event_sorted o e
looks_sorted i o (Ask.Index page) = tt
looks_sorted i o (Ask.Search filter whole) = tt
looks_sorted i o Ask.Groups = tt
looks_sorted i o Ask.SyncGroups = tt
looks_sorted i o Ask.SyncEvents = tt
looks_sorted i o (Ask.SyncPart e n) = tt
looks_sorted i o Ask.SyncManifest = tt
looks_sorted i o (Ask.SyncRows w) = tt
looks_sorted i o (Ask.TakePart p) = tt

-- ---- what they look at then

pub beside_sorted : (l : Looks) → HasKeysInOrder l → HasKeysInOrder (beside l)
beside_sorted l sorted = record { own = sorted.own; others = event_first l.event }
