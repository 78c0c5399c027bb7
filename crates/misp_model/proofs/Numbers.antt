-- What a request is refused by does not depend on the number of its act, nor, where it is no pull, on the partner of the caller's key.
use Rattle.std.proofs.Common.{◌≡◌, ℕ, List, [], ◌∷◌, ◌++◌, Bool, true, false, refl, ap, sym, map, ◌&&◌, ◌||◌, not, Option, Some, None, option_map, filter}
use Rattle.misp_model.specs.Scene.{Partner}
use Rattle.misp_model.specs.Prelude.{AddEvent, AddParts, Ask, Change, Content, Delete, DeleteEvent, DeleteReference, EditAttribute, EditEvent, EditObject, Element, ElementExists, ElementFull, ElemId, EventExists, EventGone, EventId}
use Rattle.misp_model.specs.Prelude.{GroupNotUsable, Groups, Index, Search, Judge, Key, Label, NotGranted, OrgId, Place, Proposal, ProposalDraft, ProposalExists, ProposalName, Propose, Publish, Reference, Row, Scene, Sight, Sighting}
use Rattle.misp_model.specs.Prelude.{SyncEvents, SyncGroups, SyncManifest, SyncPart, SyncRows}
use Rattle.misp_model.specs.Machine.{pulls}
use Rattle.misp_model.specs.Pulling.{pulled_part, pulled_rows}
use Rattle.misp_lists.proofs.Prelude.{false≢true}
use Rattle.misp_model.specs.Prelude.{SightingDraft, Stamp, Submission, TakePart, TimeLimit, Verdict, View, as_deleted, ask_rules, at_attribute, at_event, at_object, at_tags, bars, body_seen, change_rules, clashes, edit_rules, edited}
use Rattle.misp_model.specs.Prelude.{edited_event, edited_object, event_key, event_of, first_rule, fits_parts, has_unusable, holds_copy, holds_home, holds_tombstone, is_accepted, is_at_limit, is_newer_than, is_row_of, is_taken}
use Rattle.misp_model.specs.Prelude.{is_too_long, is_usable, judge_rules, list_all, list_any, own_live, own_reference, own_row, own_row_is, proposal_key, propose_rules, scene_as, sees, sight_rules, sighting_key, tagged, target_in_copy}
use Rattle.misp_model.specs.Prelude.{uuids_of, wants_unusable}
use Rattle.misp_model.specs.Shown.{shown, event_row, form_of, shown_attribute, shown_object, shown_at, sorted, is_shown, proposals_on, sightings_on, is_closed, is_object, is_reference_of, object_of, creator, index, is_chosen}
use Rattle.misp_model.specs.Scene.{OlderTime, sees_live}
use Rattle.misp_model.specs.Adding.{target_of, has_target, object_is_there, part_fits, reference_fits}
use Rattle.misp_model.specs.Statements.{sees_target, proposal_row, can_judge}

module _ (n : ℕ) (partner : Option Partner) (s : Scene) where
  abbrev other : Scene
  other = record s { act = n; partner = partner }

  -- ---- what is shown
  reference_as : (w : OrgId) (e : EventId) (y : ElemId) (k : Key) → is_reference_of other w e y k ≡ is_reference_of s w e y k
  unfolding is_reference_of is_shown
  reference_as w e y (Reference f x t u) = refl
  reference_as w e y (Element f p) = refl
  reference_as w e y (Proposal f m) = refl
  reference_as w e y (Verdict f m i o) = refl
  reference_as w e y (Sighting f t i o u) = refl

  object_as : (orgc w : OrgId) (e : EventId) (row : Row) → shown_object other orgc w e row ≡ shown_object s orgc w e row
  unfolding shown_object shown_at is_shown shown_attribute proposals_on sightings_on is_closed
  object_as orgc w e row = λ i. record (shown_object s orgc w e row) {
    references = shown_at s w (λ k. reference_as w e (object_of row.key) k i);
  }

  form_as : (e : EventId) (row : Row) → form_of other e row ≡ form_of s e row
  unfolding form_of shown_at is_shown shown_attribute proposals_on sightings_on is_closed
  form_as e row = λ i. record (form_of s e row) {
    objects = map (λ r. object_as (creator row) row.owner e r i) (shown_at s row.owner (is_object e));
  }

  event_row_as : (e : EventId) (owner : Option OrgId) → event_row other e owner ≡ event_row s e owner
  unfolding event_row
  event_row_as e None = refl
  event_row_as e (Some w) = refl

  -- an event is shown the same
  pub shown_alike : (e : EventId) (owner : Option OrgId) → shown other e owner ≡ shown s e owner
  unfolding shown
  shown_alike e owner = λ i. option_map (λ row. form_as e row i) (event_row_as e owner i)

  -- and so is the index
  pub index_alike : index other ≡ index s
  unfolding index is_chosen
  index_alike = λ i. map (λ row. form_as (event_of row.key) row i) (sorted (filter (is_chosen s) s.rows))

  -- ---- what refuses a change
  -- labels are usable by the groups alone
  pub usable_alike : (l : Label) → is_usable other l ≡ is_usable s l
  unfolding is_usable
  usable_alike (Label.Group g) = refl
  usable_alike Label.Own = refl
  usable_alike Label.Community = refl
  usable_alike Label.Connected = refl
  usable_alike Label.All = refl
  usable_alike Label.Inherit = refl

  wants_as : (l : Option Label) → wants_unusable other l ≡ wants_unusable s l
  unfolding wants_unusable
  wants_as None = refl
  wants_as (Some l) = ap not (usable_alike l)

  bars_as : (e : EventId) (here fits : Bool) → here ≡ fits → bars other e here ≡ bars s e fits
  unfolding bars holds_copy holds_home sees
  bars_as e here fits h = ap (bars s e) h

  clashes_as : (b : Submission) → clashes other b ≡ clashes s b
  unfolding clashes uuids_of has_target target_of target_in_copy is_taken
  clashes_as b = refl

  unusable_as : (b : Submission) → has_unusable other b ≡ has_unusable s b
  unfolding has_unusable
  unusable_as b = λ i. not (usable_alike b.label i) || list_any (λ d. not (usable_alike d.label i)) b.parts

  part_as : (b : Submission) (p : Place) → part_fits other b p ≡ part_fits s b p
  unfolding part_fits object_is_there own_live
  part_as b Place.Event = refl
  part_as b (Place.Object x) = refl
  part_as b (Place.Attribute a) = refl
  part_as b (Place.ObjectAttribute x a) = refl

  fits_as : (b : Submission) → fits_parts other b ≡ fits_parts s b
  unfolding fits_parts reference_fits own_live has_target target_of target_in_copy
  fits_as b = λ i. list_all (λ d. part_as b d.place i) b.parts && list_all (reference_fits s b) b.references

  -- an edit of a row
  edit_as : (e : EventId) (k : Key) (here fits : Bool) (l : Option Label) (u : Option Stamp) (f : Content → Content) → here ≡ fits →
      edit_rules other e k here l u f ≡ edit_rules s e k fits l u f
  unfolding edit_rules own_row_is own_row is_at_limit
  edit_as e k here fits l u f h = λ i.
      bars_as e here fits h i
      ++ (wants_as l i, GroupNotUsable) ∷ (own_row_is s k (is_newer_than u), OlderTime)
      ∷ (is_at_limit s k, TimeLimit) ∷ (own_row_is s k (λ row. is_too_long (f row.content)), ElementFull) ∷ []

  live_as : (k : Key) → own_live other k ≡ own_live s k
  unfolding own_live
  live_as k = refl

  add_as : (b : Submission) → change_rules other (AddEvent b) ≡ change_rules s (AddEvent b)
  unfolding change_rules holds_copy holds_tombstone
  add_as b = λ i.
      (holds_copy s b.event, EventExists) ∷ (holds_tombstone s b.event, EventGone)
      ∷ (clashes_as b i, ElementExists) ∷ (unusable_as b i, GroupNotUsable) ∷ []

  delete_reference_as : (e : EventId) (x u : ElemId) → change_rules other (DeleteReference e x u) ≡ change_rules s (DeleteReference e x u)
  unfolding change_rules own_reference bars holds_copy holds_home sees
  delete_reference_as e x u = refl

  untag_as : (e : EventId) (p : Place) (name : List ℕ) → change_rules other (Change.Untag e p name) ≡ change_rules s (Change.Untag e p name)
  unfolding change_rules own_live own_row_is own_row bars holds_copy holds_home sees
  untag_as e p name = refl

  delete_event_as : (e : EventId) → change_rules other (DeleteEvent e) ≡ change_rules s (DeleteEvent e)
  unfolding change_rules holds_copy sees is_at_limit own_row_is own_row
  delete_event_as e = refl

  publish_as : (e : EventId) → change_rules other (Publish e) ≡ change_rules s (Publish e)
  unfolding change_rules bars holds_copy holds_home sees is_at_limit own_row_is own_row
  publish_as e = refl

  change_as : (c : Change) → change_rules other c ≡ change_rules s c
  unfolding change_rules
  change_as (AddEvent b) = add_as b
  change_as (AddParts e b) = λ i. bars_as b.event _ _ (fits_as b) i ++ (clashes_as b i, ElementExists) ∷ (unusable_as b i, GroupNotUsable) ∷ []
  change_as (EditEvent e edit) = edit_as e (event_key e) true true edit.label edit.stamp (at_event (edited_event edit)) refl
  change_as (EditAttribute e p edit) = edit_as e (Element e p) _ _ edit.label edit.stamp (at_attribute (edited edit)) (live_as (Element e p))
  change_as (EditObject e x edit) = edit_as e (Element e (Place.Object x)) _ _ edit.label edit.stamp (at_object (edited_object edit)) (live_as (Element e (Place.Object x)))
  change_as (Delete e p) = edit_as e (Element e p) _ _ None None as_deleted (live_as (Element e p))
  change_as (DeleteReference e x u) = delete_reference_as e x u
  change_as (Change.Tag e p tag) = edit_as e (Element e p) _ _ None None (at_tags (tagged tag)) (live_as (Element e p))
  change_as (Change.Untag e p name) = untag_as e p name
  change_as (DeleteEvent e) = delete_event_as e
  change_as (Publish e) = publish_as e

  -- ---- what refuses a statement
  target_as : (e : EventId) (p : Place) → sees_target other e p ≡ sees_target s e p
  unfolding sees_target sees sees_live
  target_as e Place.Event = refl
  target_as e (Place.Object x) = refl
  target_as e (Place.Attribute a) = refl
  target_as e (Place.ObjectAttribute x a) = refl

  propose_as : (d : ProposalDraft) → propose_rules other d ≡ propose_rules s d
  unfolding propose_rules holds_tombstone proposal_key
  propose_as d = λ i.
      (not (target_as d.event d.target i), NotGranted) ∷ (holds_tombstone s d.event, EventGone)
      ∷ (list_any (is_row_of s.by (proposal_key s d)) s.rows, ProposalExists) ∷ []

  sight_as : (e : EventId) (p : Place) (d : SightingDraft) → sight_rules other e p d ≡ sight_rules s e p d
  unfolding sight_rules sees_live holds_tombstone sighting_key
  sight_as e p d = refl

  judge_as : (e : EventId) (m : ProposalName) (accept : Bool) → judge_rules other e m accept ≡ judge_rules s e m accept
  unfolding judge_rules bars holds_copy holds_home sees can_judge own_live is_taken is_at_limit own_row_is own_row body_seen proposal_row
  judge_as e m accept = refl

  -- ---- any request
  -- where it is no pull the rules are the same
  pub rules_alike : (a : Ask) → pulls a ≡ false → ask_rules other a ≡ ask_rules s a
  unfolding ask_rules pulls
  rules_alike (View e owner) h = λ i. (elim (shown_alike e owner i) as (λ x. Bool) [ None ↦ true | Some v ↦ false ], NotGranted) ∷ []
  rules_alike (Ask.Change c) h = change_as c
  rules_alike (Propose d) h = propose_as d
  rules_alike (Judge e m accept) h = judge_as e m accept
  rules_alike (Sight e p d) h = sight_as e p d
  rules_alike (Index page) h = refl
  rules_alike (Search filter whole) h = refl
  rules_alike Groups h = refl
  rules_alike (TakePart p) h = refl
  rules_alike _ h = absurd (false≢true (sym h))

  -- and one is accepted where the other is
  pub accepted_alike : (a : Ask) → pulls a ≡ false → is_accepted other a ≡ is_accepted s a
  unfolding is_accepted
  accepted_alike a h = λ i. elim (first_rule (rules_alike a h i)) as (λ x. Bool) [ None ↦ true | Some r ↦ false ]

-- ---- with another number alone
module _ (n : ℕ) (s : Scene) where
  pub shown_as : (e : EventId) (owner : Option OrgId) → shown (scene_as n s) e owner ≡ shown s e owner
  shown_as = shown_alike n s.partner s

  pub index_as : index (scene_as n s) ≡ index s
  index_as = index_alike n s.partner s

  pub usable_as : (l : Label) → is_usable (scene_as n s) l ≡ is_usable s l
  usable_as = usable_alike n s.partner s

  -- the rules are the same
  pub rules_as : (a : Ask) → ask_rules (scene_as n s) a ≡ ask_rules s a
  unfolding ask_rules pulls pulled_part pulled_rows
  rules_as SyncGroups = refl
  rules_as SyncEvents = refl
  rules_as (SyncPart e m) = refl
  rules_as SyncManifest = refl
  rules_as (SyncRows w) = refl
  rules_as a = rules_alike n s.partner s a refl

  -- one is accepted where the other is
  pub accepted_as : (a : Ask) → is_accepted (scene_as n s) a ≡ is_accepted s a
  unfolding is_accepted
  accepted_as a = λ i. elim (first_rule (rules_as a i)) as (λ x. Bool) [ None ↦ true | Some r ↦ false ]
