-- What a change or a statement looks at is closed for the organisation that asks, and enough for it.
use Rattle.std.proofs.Common.{◌≡◌, [], ◌∷◌, Bool, true, false, refl, cond, sym, ◌∙◌, ◌&&◌, Option, Some, None}
use Rattle.std.proofs.lemmas.Bool.{and_from, and_parts, false≢true, or_left, or_right}
use Rattle.misp_ids.proofs.Same.{same_elem-refl, same_event-refl}
use Rattle.misp_elem.proofs.Same.{same_key-refl}
use Rattle.misp_model.specs.Prelude.{AddEvent, AddParts, Ask, Change, Delete, DeleteEvent, DeleteReference, EditAttribute, EditEvent, EditObject, Element, EventId, Judge, Key, OrgId, Place, Proposal, ProposalDraft, ProposalName, Propose, Publish, Scene}
use Rattle.misp_model.specs.Prelude.{Sight, Sighting, SightingDraft, Verdict, event_key, event_of, holds_copy, is_for_new, judged_place, parents, proposal_key, sighting_key, takes_uuid, up_to, uuid_at}
use Rattle.misp_model.specs.Statements.{judged_at}
use Rattle.misp_model.specs.Looking.{at_proposal, at_target, beside, change_looks, is_in_look, is_needed_for, is_place_needed_for, last_looks, looks_at, more_for_change, own_alone, proposal_by, proposal_keys, uuids_in}
use Rattle.misp_model.specs.declared.looks.Look.{Look}
use Rattle.misp_model.specs.declared.looks.Looks.{Looks}
use Rattle.misp_model.proofs.LookedRows.{IsClosedFor}
use Rattle.misp_model.proofs.LookedScenes.{HasEvent, looked_scene}
use Rattle.misp_model.proofs.LookedCopy.{HasCopy, HasThose}
use Rattle.misp_model.proofs.LookedBodies.{parts_looked}
use Rattle.misp_model.proofs.LookedUuids.{taken_has}
use Rattle.misp_model.proofs.LookedJudging.{judge_looked}
use Rattle.misp_model.proofs.LookedAsks.{delete_event_looked, delete_looked, delete_reference_looked, edit_attribute_looked, edit_event_looked, edit_object_looked, propose_looked, publish_looked, sight_looked, tag_looked, untag_looked}
use Rattle.misp_model.proofs.LookedKeys.{IsClosedLooks, IsClosedOwn, alone_closed, beside_closed, closed_for, copy_own, event_among, judging_closed, last_among, own_looks, place_own, proposal_among, proposal_target_among, shared_looks, target_among, target_closed, uuids_own}
use Rattle.misp_model.proofs.SameAnswers.{IsSame}

-- the looks are closed, and what they leave is enough
pub record IsEnough (s : Scene) (a : Ask) (l : Looks) : Type 0 where
  pub closed : IsClosedFor s.by (looks_at l)
  pub same : IsSame (looked_scene (looks_at l) s) s a

module _ (s : Scene) (e : EventId) where
  -- ---- a change

  -- own rows, and where the caller has no copy, the event's row in each copy besides
  abbrev those : Look → Looks
  those look = last_looks (own_alone s.by e look) (more_for_change s (Some (own_alone s.by e look)))

  -- a request is the same where closed rows have the event's and those of the look
  abbrev IsSameBy : Look → Ask → Type 0
  IsSameBy look a = (keep : OrgId → Key → Bool) → IsClosedFor s.by keep → HasEvent keep s e → ((k : Key) → is_in_look look e k ≡ true → keep s.by k ≡ true) → IsSame (looked_scene keep s) s a

  enough_own : (look : Look) (a : Ask) → IsClosedOwn e look → IsSameBy look a → IsEnough s a (those look)
  unfolding is_in_look
  enough_own look a c h = by_copy (holds_copy s e) refl
    where
      alone : Looks
      alone = own_alone s.by e look

      more : Looks
      more = beside (own_alone s.by e look)

      by_copy : (b : Bool) → holds_copy s e ≡ b → IsEnough s a (last_looks alone (cond b None (Some more)))
      by_copy true is = record {
        closed = closed_for alone (alone_closed s.by e look c);
        same = h (looks_at alone) (closed_for alone (alone_closed s.by e look c))
            (record { own = own_looks alone (event_key e) c.event; others = λ none w. absurd (false≢true (sym none ∙ is)) }) (own_looks alone);
      }
      by_copy false is = record {
        closed = closed_for more (beside_closed s.by e look c);
        same = h (looks_at more) (closed_for more (beside_closed s.by e look c))
            (record {
              own = own_looks more (event_key e) c.event;
              others = λ none w. shared_looks more (beside_closed s.by e look c) w (event_key e) (event_among e);
            }) (own_looks more);
      }

  -- a place, with what is above it
  enough_there : (p : Place) (a : Ask) →
      ((keep : OrgId → Key → Bool) → IsClosedFor s.by keep → HasEvent keep s e → keep s.by (Element e p) ≡ true → IsSame (looked_scene keep s) s a) →
      IsEnough s a (those (Look.Keys (up_to e p)))
  unfolding is_in_look
  enough_there p a h = enough_own (Look.Keys (up_to e p)) a (place_own e p) (λ keep c event own. h keep c event (own (Element e p) (target_among e p)))

  -- the copy
  enough_in_copy : (a : Ask) → ((keep : OrgId → Key → Bool) → IsClosedFor s.by keep → HasEvent keep s e → HasCopy keep s.by e → IsSame (looked_scene keep s) s a) → IsEnough s a (those Look.All)
  unfolding is_in_look
  enough_in_copy a h = enough_own Look.All a (copy_own e) h

  -- ---- a statement on a place
  enough_on : (p : Place) (k : Key) (a : Ask) → parents k ≡ up_to e p →
      ((c : IsClosedFor s.by (looks_at (at_target s.by e p k))) → ((w : OrgId) → looks_at (at_target s.by e p k) w (Element e p) ≡ true) → looks_at (at_target s.by e p k) s.by k ≡ true →
      IsSame (looked_scene (looks_at (at_target s.by e p k)) s) s a) →
      IsEnough s a (at_target s.by e p k)
  unfolding is_in_look
  enough_on p k a q h = record {
    closed = closed_for on closed;
    same = h (closed_for on closed) (λ w. shared_looks on closed w (Element e p) (target_among e p)) (own_looks on k (last_among (up_to e p) k));
  }
    where
      on : Looks
      on = at_target s.by e p k

      closed : IsClosedLooks (at_target s.by e p k)
      closed = target_closed s.by e p k q

  -- ---- a judging
  module _ (n : ProposalName) where
    abbrev verdict : Key
    verdict = Verdict e n s.at s.by

    abbrev judging : Bool → Looks
    judging makes = at_proposal s.by e n makes verdict

    -- what takes the uuid of a new attribute
    uuid_there : (makes : Bool) → makes ≡ true → is_for_new n ≡ true → HasThose (looks_at (judging makes)) s.by e (takes_uuid (uuid_at e (judged_place n)))
    unfolding is_in_look is_for_new judged_place judged_at uuid_at
    uuid_there true h new k here g = own_looks (judging true) k (or_left _ _ (and_from _ _ here (by_target n.target new g)))
      where
        by_target : (t : Place) → (elim t [ Place.Event ↦ true | Place.Object x ↦ false | Place.Attribute a ↦ false | Place.ObjectAttribute x a ↦ false ]) ≡ true →
            takes_uuid (uuid_at e (judged_at t n.uuid)) k ≡ true → is_needed_for (n.uuid ∷ []) k ≡ true
        by_target Place.Event i g = taken_has (n.uuid ∷ []) n.uuid.0.0 (or_left _ _ (same_elem-refl n.uuid)) k g
        by_target (Place.Object x) i g = absurd (false≢true i)
        by_target (Place.Attribute x) i g = absurd (false≢true i)
        by_target (Place.ObjectAttribute x a) i g = absurd (false≢true i)
    uuid_there false h new k here g = absurd (false≢true h)

    verdict_there : (makes : Bool) → looks_at (judging makes) s.by verdict ≡ true
    unfolding is_in_look
    verdict_there true = own_looks (judging true) verdict (or_right _ _ (or_right _ _ (or_left _ _ (same_key-refl verdict))))
    verdict_there false = own_looks (judging false) verdict (last_among (proposal_keys e n) verdict)

    module _ (makes : Bool) (new : makes ≡ true → is_for_new n ≡ true) where
      closed : IsClosedLooks (judging makes)
      closed = judging_closed e n s.by s.at s.by makes new

      proposal_there : (w : OrgId) → looks_at (judging makes) w (Proposal e n) ≡ true
      unfolding is_in_look
      proposal_there w = shared_looks (judging makes) closed w (Proposal e n) (proposal_among e n)

      target_there : (w : OrgId) → looks_at (judging makes) w (Element e n.target) ≡ true
      unfolding is_in_look
      target_there w = shared_looks (judging makes) closed w (Element e n.target) (proposal_target_among e n)

    attribute_there : (makes : Bool) → makes ≡ true → looks_at (judging makes) s.by (Element e (Place.Attribute n.uuid)) ≡ true
    unfolding is_in_look event_of is_needed_for is_place_needed_for
    attribute_there true h = own_looks (judging true) (Element e (Place.Attribute n.uuid)) (or_left _ _ (and_from _ _ (same_event-refl e) (or_left _ _ (same_elem-refl n.uuid))))
    attribute_there false h = absurd (false≢true h)

    -- what is judged is the target, but where a new attribute is made
    judged_there : (makes : Bool) (new : makes ≡ true → is_for_new n ≡ true) → (is_for_new n ≡ true → makes ≡ true) → looks_at (judging makes) s.by (Element e (judged_place n)) ≡ true
    unfolding is_for_new judged_place judged_at
    judged_there makes new made = by_target n.target (target_there makes new s.by) made
      where
        by_target : (t : Place) → looks_at (judging makes) s.by (Element e t) ≡ true →
            ((elim t [ Place.Event ↦ true | Place.Object x ↦ false | Place.Attribute a ↦ false | Place.ObjectAttribute x a ↦ false ]) ≡ true → makes ≡ true) →
            looks_at (judging makes) s.by (Element e (judged_at t n.uuid)) ≡ true
        by_target Place.Event h i = attribute_there makes (i refl)
        by_target (Place.Object x) h i = h
        by_target (Place.Attribute x) h i = h
        by_target (Place.ObjectAttribute x a) h i = h

    enough_to_judge : (accept : Bool) → IsEnough s (Judge e n accept) (judging (accept && is_for_new n))
    enough_to_judge accept = record {
      closed = kept;
      same = judge_looked (looks_at (judging makes)) s kept e n (proposal_there makes new) (target_there makes new) (verdict_there makes) accept
          (λ h. judged_there makes new (λ i. and_from _ _ h i)) (λ h. uuid_there makes h (new h));
    }
      where
        makes : Bool
        makes = accept && is_for_new n

        new : accept && is_for_new n ≡ true → is_for_new n ≡ true
        new h = (and_parts accept (is_for_new n) h).1

        kept : IsClosedFor s.by (looks_at (judging (accept && is_for_new n)))
        kept = closed_for (judging makes) (closed makes new)

-- ---- any change

-- what is said of what a change looks at at last, where it has any
abbrev pub AreEnough : Scene → Change → Option Looks → Type 0
AreEnough s c None = Unit {0}
AreEnough s c (Some l) = IsEnough s (Ask.Change c) (last_looks l (more_for_change s (Some l)))

pub change_enough : (s : Scene) (c : Change) → AreEnough s c (change_looks s.by c)
unfolding is_in_look
change_enough s (AddEvent b) = tt
change_enough s (AddParts e b) =
    enough_own s b.event (Look.Uuids (uuids_in b) []) _ (uuids_own b.event (uuids_in b))
    (λ keep c event own. parts_looked keep s c b (λ k here h. own k (or_left _ _ (and_from _ _ here h))) e event)
change_enough s (EditEvent e edit) = enough_there s e Place.Event _ (λ keep c event place. edit_event_looked keep s c e event edit)
change_enough s (EditAttribute e p edit) = enough_there s e p _ (λ keep c event place. edit_attribute_looked keep s c e event p edit place)
change_enough s (EditObject e x edit) = enough_there s e (Place.Object x) _ (λ keep c event place. edit_object_looked keep s c e event x edit place)
change_enough s (Delete e p) = enough_there s e p _ (λ keep c event place. delete_looked keep s c e event p place)
change_enough s (DeleteReference e x u) = enough_in_copy s e _ (λ keep c event whole. delete_reference_looked keep s c e event whole x u)
change_enough s (Change.Tag e p tag) = enough_there s e p _ (λ keep c event place. tag_looked keep s c e event p tag place)
change_enough s (Change.Untag e p name) = enough_there s e p _ (λ keep c event place. untag_looked keep s c e event p name place)
change_enough s (DeleteEvent e) = enough_there s e Place.Event _ (λ keep c event place. delete_event_looked keep s c e event)
change_enough s (Publish e) = enough_in_copy s e _ (λ keep c event whole. publish_looked keep s c e event whole)

-- ---- any statement

pub propose_enough : (s : Scene) (d : ProposalDraft) → IsEnough s (Propose d) (at_target s.by d.event d.target (proposal_by s.at s.by d))
unfolding proposal_key parents
propose_enough s d = enough_on s d.event d.target _ _ refl (λ c target own. propose_looked _ s c d target own)

pub sight_enough : (s : Scene) (e : EventId) (t : Place) (d : SightingDraft) → IsEnough s (Sight e t d) (at_target s.by e t (Sighting e t s.at s.by d.uuid))
unfolding sighting_key parents
sight_enough s e t d = enough_on s e t _ _ refl (λ c target own. sight_looked _ s c e t d target own)

pub judge_enough : (s : Scene) (e : EventId) (n : ProposalName) (accept : Bool) → IsEnough s (Judge e n accept) (at_proposal s.by e n (accept && is_for_new n) (Verdict e n s.at s.by))
judge_enough s e n accept = enough_to_judge s e n accept
