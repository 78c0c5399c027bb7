-- A request is refused, answered and written from the rows that it looks at as from all; and what it looks at first says what it looks at then.
use Rattle.std.proofs.Common.{◌≡◌, List, [], ◌∷◌, Bool, inl, inr, option_map, true, false, refl, ap, cond, sym, ◌∙◌, subst, not, ◌&&◌, ◌||◌, Option, Some, None}
use Rattle.std.proofs.lemmas.Bool.{and_from, false≢true, or_cases, or_right}
use Rattle.misp_lists.proofs.Lists.{none_not_some, some_same}
use Rattle.misp_ids.proofs.Same.{same_event-refl, same_org-refl}
use Rattle.misp_elem.proofs.Same.{same_key-sound}
use Rattle.misp_model.specs.Prelude.{AddEvent, AddParts, Ask, Change, Delete, DeleteEvent, DeleteReference, EditAttribute, EditEvent, EditObject, EventId, Groups, Index, Search, IsTable, Judge, Key, OrgId, Place, Propose, Publish, Row, Scene, Sight, SyncEvents}
use Rattle.misp_model.specs.Prelude.{SyncGroups, SyncManifest, SyncPart, SyncRows, TakePart, View, event_key, event_of, has_copy, holds_copy, is_statement, is_tombstone, same_event, same_key, same_org, up_to}
use Rattle.misp_model.specs.Shown.{event_row}
use Rattle.misp_model.specs.Machine.{seeing}
use Rattle.misp_model.specs.Looking.{at_event, at_shown, beside, change_looks, is_in_look, last_looks, looks_at, looks_of, more_for_change, more_looks, over, own_alone, rows_seen_by, uuids_in}
use Rattle.misp_model.specs.declared.looks.Look.{Look}
use Rattle.misp_model.specs.declared.looks.Looks.{Looks}
use Rattle.misp_model.proofs.KnownRows.{own_any}
use Rattle.misp_model.proofs.LookedRows.{IsClosedFor, has_copy_looked, known_looked, looked_rows}
use Rattle.misp_model.proofs.LookedScenes.{looked_scene}
use Rattle.misp_model.proofs.LookedKeys.{IsClosedOwn, copy_own, own_looks, place_own, uuids_own}
use Rattle.misp_model.proofs.LookedEnough.{AreEnough, IsEnough, change_enough, judge_enough, propose_enough, sight_enough}
use Rattle.misp_model.proofs.LookedView.{view_row_looked, view_same}
use Rattle.misp_model.proofs.SameAnswers.{IsSame, same_from}

-- ---- what a change looks at first

-- own rows alone, with the event's
record IsAlone (o : OrgId) (l : Looks) : Type 0 where
  of : l.of ≡ o
  own : IsClosedOwn l.event l.own
  others : l.others ≡ Look.Keys []

abbrev AreAlone : OrgId → Option Looks → Type 0
AreAlone o None = Unit {0}
AreAlone o (Some l) = IsAlone o l

place_alone : (o : OrgId) (e : EventId) (p : Place) → IsAlone o (own_alone o e (Look.Keys (up_to e p)))
place_alone o e p = record { of = refl; own = place_own e p; others = refl }

copy_alone : (o : OrgId) (e : EventId) → IsAlone o (own_alone o e Look.All)
copy_alone o e = record { of = refl; own = copy_own e; others = refl }

change_alone : (o : OrgId) (c : Change) → AreAlone o (change_looks o c)
change_alone o (AddEvent b) = tt
change_alone o (AddParts e b) = record { of = refl; own = uuids_own b.event (uuids_in b); others = refl }
change_alone o (EditEvent e edit) = place_alone o e Place.Event
change_alone o (EditAttribute e p edit) = place_alone o e p
change_alone o (EditObject e x edit) = place_alone o e (Place.Object x)
change_alone o (Delete e p) = place_alone o e p
change_alone o (DeleteReference e x u) = copy_alone o e
change_alone o (Change.Tag e p tag) = place_alone o e p
change_alone o (Change.Untag e p name) = place_alone o e p
change_alone o (DeleteEvent e) = place_alone o e Place.Event
change_alone o (Publish e) = copy_alone o e

alone_of : (o : OrgId) (c : Change) (l : Looks) → change_looks o c ≡ Some l → IsAlone o l
alone_of o c l h = subst (AreAlone o) h (change_alone o c)

-- the own row of the event is looked at
own_event : (o : OrgId) (l : Looks) → IsAlone o l → looks_at l o (event_key l.event) ≡ true
own_event o l a = subst (λ w. looks_at l w (event_key l.event) ≡ true) a.of (own_looks l (event_key l.event) a.own.event)

-- ---- what it looks at then

-- the caller holds a copy by what it knows as by all rows
copy_known : (s : Scene) (rows : List Row) (e : EventId) → holds_copy (over s rows) e ≡ holds_copy (seeing s rows) e
unfolding holds_copy has_copy
copy_known s rows e = sym (own_any rows s.groups s.at s.by s.by (same_org-refl s.by) (event_key e) (λ row. not (is_tombstone row)))

-- and by what it looks at first
copy_first : (s : Scene) (rows : List Row) (l : Looks) → IsAlone s.by l → holds_copy (over s (rows_seen_by l rows)) l.event ≡ holds_copy (over s rows) l.event
unfolding holds_copy rows_seen_by looked_rows
copy_first s rows l a = has_copy_looked (looks_at l) s.by l.event rows (own_event s.by l a)

more_of : (s t : Scene) (l : Looks) → holds_copy s l.event ≡ holds_copy t l.event → more_for_change s (Some l) ≡ more_for_change t (Some l)
more_of s t l h = ap (λ b. cond b None (Some (beside l))) h

pub more_same : (l : Looks) (rows : List Row) (s : Scene) (a : Ask) → looks_of s.at s.by a ≡ Some l → more_looks (over s (rows_seen_by l rows)) a ≡ more_looks (over s rows) a
more_same l rows s (Ask.Change c) h =
    subst (λ o. more_for_change (over s (rows_seen_by l rows)) o ≡ more_for_change (over s rows) o) (sym h)
    (more_of (over s (rows_seen_by l rows)) (over s rows) l (copy_first s rows l (alone_of s.by c l h)))
more_same l rows s (View e owner) h =
    subst (λ k. more_looks (over s (rows_seen_by k rows)) (View e owner) ≡ more_looks (over s rows) (View e owner)) (some_same (at_event s.by e) l h) (view_row_looked s rows e owner)
more_same l rows s (Propose d) h = refl
more_same l rows s (Sight e t d) h = refl
more_same l rows s (Judge e n accept) h = refl
more_same l rows s (Index page) h = refl
more_same l rows s (Search filter whole) h = refl
more_same l rows s Groups h = refl
more_same l rows s SyncGroups h = refl
more_same l rows s SyncEvents h = refl
more_same l rows s (SyncPart e n) h = refl
more_same l rows s SyncManifest h = refl
more_same l rows s (SyncRows w) h = refl
more_same l rows s (TakePart p) h = refl

-- ---- what is looked at first is looked at at last

abbrev pub IsWithin : Looks → Looks → Type 0
IsWithin l m = (w : OrgId) (k : Key) → looks_at l w k ≡ true → looks_at m w k ≡ true

alone_within : (s : Scene) (l : Looks) → IsAlone s.by l → IsWithin l (last_looks l (more_for_change s (Some l)))
unfolding looks_at is_in_look
alone_within s l a w k = by_copy (holds_copy s l.event)
  where
    by_owner : (b : Bool) → cond b (is_in_look l.own l.event k) (is_in_look l.others l.event k) ≡ true →
        cond b (is_in_look l.own l.event k) (is_in_look (Look.Keys (event_key l.event ∷ [])) l.event k) ≡ true
    by_owner true h = h
    by_owner false h = absurd (false≢true (sym (ap (λ look. is_in_look look l.event k) a.others) ∙ h))

    by_copy : (b : Bool) → looks_at l w k ≡ true → looks_at (last_looks l (cond b None (Some (beside l)))) w k ≡ true
    by_copy true h = h
    by_copy false h = by_owner (same_org w l.of) h

-- the event's own row is among those of a copy that is shown
event_within : (o v : OrgId) (e : EventId) → IsWithin (at_event o e) (at_shown v e)
unfolding looks_at is_in_look event_key event_of
event_within o v e w k h = by_owner (same_org w v) (key_of (same_org w o) h)
  where
    only : (same_key k (event_key e) || false) ≡ true → same_key k (event_key e) ≡ true
    only h = elim (or_cases _ _ h) [ inl g ↦ g | inr g ↦ absurd (false≢true g) ]

    here : same_key k (event_key e) ≡ true → same_event (event_of k) e ≡ true
    here g = ap (λ j. same_event (event_of j) e) (same_key-sound k (event_key e) g) ∙ same_event-refl e

    key_of : (b : Bool) → cond b (same_key k (event_key e) || false) (same_key k (event_key e) || false) ≡ true → same_key k (event_key e) ≡ true
    key_of true h = only h
    key_of false h = only h

    by_owner : (b : Bool) → same_key k (event_key e) ≡ true → cond b (same_event (event_of k) e) (same_event (event_of k) e && (is_statement k || same_key k (event_key e))) ≡ true
    by_owner true g = here g
    by_owner false g = and_from _ _ (here g) (or_right _ _ g)

pub first_within_last : (l : Looks) (s : Scene) (a : Ask) → looks_of s.at s.by a ≡ Some l → IsWithin l (last_looks l (more_looks s a))
first_within_last l s (Ask.Change c) h = subst (λ o. IsWithin l (last_looks l (more_for_change s o))) (sym h) (alone_within s l (alone_of s.by c l h))
first_within_last l s (View e owner) h = subst (λ k. IsWithin k (last_looks k (more_looks s (View e owner)))) (some_same (at_event s.by e) l h) (by_row (event_row s e owner))
  where
    by_row : (o : Option Row) → IsWithin (at_event s.by e) (last_looks (at_event s.by e) (option_map (λ row. at_shown row.owner e) o))
    by_row None w k g = g
    by_row (Some row) w k g = event_within s.by row.owner e w k g
first_within_last l s (Propose d) h = λ w k g. g
first_within_last l s (Sight e t d) h = λ w k g. g
first_within_last l s (Judge e n accept) h = λ w k g. g
first_within_last l s (Index page) h = λ w k g. g
first_within_last l s (Search filter whole) h = λ w k g. g
first_within_last l s Groups h = λ w k g. g
first_within_last l s SyncGroups h = λ w k g. g
first_within_last l s SyncEvents h = λ w k g. g
first_within_last l s (SyncPart e n) h = λ w k g. g
first_within_last l s SyncManifest h = λ w k g. g
first_within_last l s (SyncRows v) h = λ w k g. g
first_within_last l s (TakePart p) h = λ w k g. g

-- ---- what it looks at at last is enough

-- from the rows of a keeper
pub seeing_looked : (l : Looks) (s : Scene) (rows : List Row) → IsClosedFor s.by (looks_at l) → seeing s (rows_seen_by l rows) ≡ looked_scene (looks_at l) (seeing s rows)
unfolding looked_scene looked_rows rows_seen_by
seeing_looked l s rows c = λ i. record s { rows = known_looked s.by (looks_at l) c rows s.groups s.at i }

same_by : (l : Looks) (s : Scene) (rows : List Row) (a : Ask) → IsEnough (seeing s rows) a l → IsSame (seeing s (rows_seen_by l rows)) (seeing s rows) a
same_by l s rows a enough = same_from _ (looked_scene (looks_at l) (seeing s rows)) (seeing s rows) a (seeing_looked l s rows enough.closed) enough.same

-- what a change looks at at last by all rows is enough by what its caller knows
pub change_is_enough : (l : Looks) (rows : List Row) (s : Scene) (c : Change) → change_looks s.by c ≡ Some l → IsEnough (seeing s rows) (Ask.Change c) (last_looks l (more_looks (over s rows) (Ask.Change c)))
change_is_enough l rows s c h =
    subst (λ o. IsEnough (seeing s rows) (Ask.Change c) (last_looks l (more_for_change (over s rows) o))) (sym h)
    (subst (λ m. IsEnough (seeing s rows) (Ask.Change c) (last_looks l m)) (sym (more_of (over s rows) (seeing s rows) l (copy_known s rows l.event)))
    (subst (AreEnough (seeing s rows) c) h (change_enough (seeing s rows) c)))

pub looked_same : (l : Looks) (rows : List Row) (s : Scene) (a : Ask) → IsTable rows → looks_of s.at s.by a ≡ Some l →
    IsSame (seeing s (rows_seen_by (last_looks l (more_looks (over s rows) a)) rows)) (seeing s rows) a
looked_same l rows s (Ask.Change c) t h = same_by _ s rows (Ask.Change c) (change_is_enough l rows s c h)
looked_same l rows s (View e owner) t h =
    subst (λ k. IsSame (seeing s (rows_seen_by (last_looks k (more_looks (over s rows) (View e owner))) rows)) (seeing s rows) (View e owner)) (some_same (at_event s.by e) l h)
    (view_same s rows e owner t)
looked_same l rows s (Propose d) t h = same_by l s rows (Propose d) (subst (IsEnough (seeing s rows) (Propose d)) (some_same _ l h) (propose_enough (seeing s rows) d))
looked_same l rows s (Sight e p d) t h = same_by l s rows (Sight e p d) (subst (IsEnough (seeing s rows) (Sight e p d)) (some_same _ l h) (sight_enough (seeing s rows) e p d))
looked_same l rows s (Judge e n accept) t h = same_by l s rows (Judge e n accept) (subst (IsEnough (seeing s rows) (Judge e n accept)) (some_same _ l h) (judge_enough (seeing s rows) e n accept))
looked_same l rows s (Index page) t h = absurd (none_not_some h)
looked_same l rows s (Search filter whole) t h = absurd (none_not_some h)
looked_same l rows s Groups t h = absurd (none_not_some h)
looked_same l rows s SyncGroups t h = absurd (none_not_some h)
looked_same l rows s SyncEvents t h = absurd (none_not_some h)
looked_same l rows s (SyncPart e n) t h = absurd (none_not_some h)
looked_same l rows s SyncManifest t h = absurd (none_not_some h)
looked_same l rows s (SyncRows w) t h = absurd (none_not_some h)
looked_same l rows s (TakePart p) t h = absurd (none_not_some h)
