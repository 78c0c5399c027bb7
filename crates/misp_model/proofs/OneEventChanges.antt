-- A change of one event, and a statement on one, are refused, answered and written from the event's own rows as from all.
use Rattle.std.proofs.Common.{◌≡◌, true, ap, ◌∙◌, List, Bool, refl, false, subst, Option, None, Some}
use Rattle.misp_model.specs.Prelude.{AddEvent, AddParts, Ask, Change, Delete, DeleteEvent, DeleteReference, EditAttribute, EditEvent, EditObject, Element, EventId, Groups, Index, Search, Judge, Key, OrgId, Place, Proposal, ProposalDraft}
use Rattle.misp_model.specs.Prelude.{ProposalName, Propose, Publish, Row, Scene, Sight, SightingDraft, SyncEvents, SyncGroups, SyncManifest, SyncPart, SyncRows, TakePart, Verdict, View, cut_rows, event_of, judged_place, proposal_key, same_event}
use Rattle.misp_model.specs.Prelude.{sighting_key}
use Rattle.misp_model.proofs.Prelude.{cut_scene, event_rows, false≢true, of_event, same_event-refl, seeing}
use Rattle.misp_model.specs.Machine.{event_changed, event_asked}
use Rattle.misp_model.proofs.LookedRows.{IsClosedFor, looked_rows}
use Rattle.misp_model.proofs.LookedScenes.{HasEvent, looked_scene}
use Rattle.misp_model.proofs.LookedBodies.{add_looked, parts_looked}
use Rattle.misp_model.proofs.LookedCopy.{HasCopy}
use Rattle.misp_model.proofs.LookedJudging.{judge_looked}
use Rattle.misp_model.proofs.LookedAsks.{delete_event_looked, delete_looked, delete_reference_looked, edit_attribute_looked, edit_event_looked, edit_object_looked, propose_looked, publish_looked, sight_looked, tag_looked, untag_looked}
use Rattle.misp_model.proofs.ShownHere.{key_here}
use Rattle.misp_model.proofs.SameAnswers.{IsSame, same_from}
use Rattle.misp_model.proofs.OneEvent.{closed_here, copy_here, seeing_here, sync_part_here, sync_rows_here, view_here}

of_same : (e : EventId) (k : Key) → event_of k ≡ e → of_event e k ≡ true
unfolding of_event
of_same e k h = ap (λ x. same_event x e) h ∙ same_event-refl e

module _ (e : EventId) (s : Scene) where
  abbrev keep : OrgId → Key → Bool
  keep w = of_event e

  -- the rows of the event are looked at, with those of the event itself in each copy
  closed : IsClosedFor s.by (λ w. of_event e)
  closed = closed_here e s.by

  event : HasEvent (λ w. of_event e) s e
  event = record { own = key_here e; others = λ copy w. key_here e }

  whole : HasCopy (λ w. of_event e) s.by e
  whole = copy_here e s.by

  -- the keys of the event
  place_here : (p : Place) → of_event e (Element e p) ≡ true
  unfolding event_of
  place_here p = of_same e (Element e p) refl

  propose_here : (d : ProposalDraft) → d.event ≡ e → IsSame (cut_scene (of_event e) s) s (Propose d)
  unfolding cut_scene cut_rows looked_scene looked_rows event_of proposal_key
  propose_here d h = propose_looked keep s closed d (λ w. of_same e (Element d.event d.target) h) (of_same e (proposal_key s d) h)

  sight_here : (t : Place) (d : SightingDraft) → IsSame (cut_scene (of_event e) s) s (Sight e t d)
  unfolding cut_scene cut_rows looked_scene looked_rows event_of sighting_key
  sight_here t d = sight_looked keep s closed e t d (λ w. place_here t) (of_same e (sighting_key s e t d) refl)

  judge_here : (n : ProposalName) (accept : Bool) → IsSame (cut_scene (of_event e) s) s (Judge e n accept)
  unfolding cut_scene cut_rows looked_scene looked_rows event_of
  judge_here n accept =
      judge_looked keep s closed e n (λ w. of_same e (Proposal e n) refl) (λ w. place_here n.target) (of_same e (Verdict e n s.at s.by) refl) accept (λ h. place_here (judged_place n)) (λ h k here g. whole k here)

-- ---- any of them
change_here : (s : Scene) (c : Change) → IsSame (cut_scene (of_event (event_changed c)) s) s (Ask.Change c)
unfolding event_changed cut_scene cut_rows looked_scene looked_rows
change_here s (AddEvent b) = add_looked (keep b.event s) s (closed b.event s) b (λ k h g. whole b.event s k h) (key_here b.event)
change_here s (AddParts e b) = parts_looked (keep b.event s) s (closed b.event s) b (λ k h g. whole b.event s k h) e (event b.event s)
change_here s (EditEvent e edit) = edit_event_looked (keep e s) s (closed e s) e (event e s) edit
change_here s (EditAttribute e p edit) = edit_attribute_looked (keep e s) s (closed e s) e (event e s) p edit (place_here e s p)
change_here s (EditObject e x edit) = edit_object_looked (keep e s) s (closed e s) e (event e s) x edit (place_here e s (Place.Object x))
change_here s (Delete e p) = delete_looked (keep e s) s (closed e s) e (event e s) p (place_here e s p)
change_here s (DeleteReference e x u) = delete_reference_looked (keep e s) s (closed e s) e (event e s) (whole e s) x u
change_here s (Change.Tag e p tag) = tag_looked (keep e s) s (closed e s) e (event e s) p tag (place_here e s p)
change_here s (Change.Untag e p name) = untag_looked (keep e s) s (closed e s) e (event e s) p name (place_here e s p)
change_here s (DeleteEvent e) = delete_event_looked (keep e s) s (closed e s) e (event e s)
change_here s (Publish e) = publish_looked (keep e s) s (closed e s) e (event e s) (whole e s)

abbrev some_is : {A : Type 0} (x : A) → Option A → A
some_is x None = x
some_is x (Some y) = y

ask_here : (e : EventId) (s : Scene) (a : Ask) → event_asked a ≡ Some e → IsSame (cut_scene (of_event e) s) s a
unfolding event_asked
ask_here e s (View f owner) h = subst (λ x. IsSame (cut_scene (of_event x) s) s (View f owner)) (ap (some_is f) h) (view_here f s owner)
ask_here e s (Ask.Change c) h = subst (λ x. IsSame (cut_scene (of_event x) s) s (Ask.Change c)) (ap (some_is (event_changed c)) h) (change_here s c)
ask_here e s (Propose d) h = subst (λ x. IsSame (cut_scene (of_event x) s) s (Propose d)) (ap (some_is d.event) h) (propose_here d.event s d refl)
ask_here e s (Judge f n accept) h = subst (λ x. IsSame (cut_scene (of_event x) s) s (Judge f n accept)) (ap (some_is f) h) (judge_here f s n accept)
ask_here e s (Sight f t d) h = subst (λ x. IsSame (cut_scene (of_event x) s) s (Sight f t d)) (ap (some_is f) h) (sight_here f s t d)
ask_here e s (Index page) h = absurd (false≢true (ap (λ (o : Option EventId). elim o [ None ↦ false | Some x ↦ true ]) h))
ask_here e s (Search filter _) h = absurd (false≢true (ap (λ (o : Option EventId). elim o [ None ↦ false | Some x ↦ true ]) h))
ask_here e s (SyncPart f n) h = subst (λ x. IsSame (cut_scene (of_event x) s) s (SyncPart f n)) (ap (some_is f) h) (sync_part_here f s n)
ask_here e s (SyncRows w) h = subst (λ x. IsSame (cut_scene (of_event x) s) s (SyncRows w)) (ap (some_is w.event) h) (sync_rows_here w s)
ask_here e s SyncGroups h = absurd (false≢true (ap (λ (o : Option EventId). elim o [ None ↦ false | Some x ↦ true ]) h))
ask_here e s SyncEvents h = absurd (false≢true (ap (λ (o : Option EventId). elim o [ None ↦ false | Some x ↦ true ]) h))
ask_here e s SyncManifest h = absurd (false≢true (ap (λ (o : Option EventId). elim o [ None ↦ false | Some x ↦ true ]) h))
ask_here e s Groups h = absurd (false≢true (ap (λ (o : Option EventId). elim o [ None ↦ false | Some x ↦ true ]) h))
ask_here e s (TakePart p) h = absurd (false≢true (ap (λ (o : Option EventId). elim o [ None ↦ false | Some x ↦ true ]) h))

-- from the rows of a keeper
pub ask_of_event : (e : EventId) (rows : List Row) (s : Scene) (a : Ask) → event_asked a ≡ Some e → IsSame (seeing s (event_rows e rows)) (seeing s rows) a
ask_of_event e rows s a h = same_from _ (cut_scene (of_event e) (seeing s rows)) (seeing s rows) a (seeing_here e rows s) (ask_here e (seeing s rows) a h)
