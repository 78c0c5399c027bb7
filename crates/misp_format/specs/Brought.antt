-- What a written event brings where it is read again.
use Rattle.std.specs.Prelude.{ℕ, [], false, Option, Some, None, fold}
use Rattle.misp_elem.specs.declared.content.ReferenceBody.{ReferenceBody}
use Rattle.misp_elem.specs.Draft.{DraftFields, ReferenceDraftFields, EventDraftFields, SubmissionFields}
use Rattle.misp_format.specs.Prelude.{Content, ElemId, EventBody, Gathered, KeyForm, Place, RowFields, Uid, VisibleAttribute, VisibleEvent, VisibleObject, none_from, with_part, with_reference}
use Rattle.misp_format.specs.Gathered.{place}
use Rattle.misp_format.specs.Tables.{submission_of}
use Rattle.misp_format.specs.Written.{place_uuid, key_uuid}

-- the place of an element, and the event itself for other keys
abbrev pub place_of : KeyForm → Place
place_of (KeyForm.Element event place) = place
place_of (KeyForm.Reference event owner target uuid) = Place.Event
place_of (KeyForm.Proposal event name) = Place.Event
place_of (KeyForm.Verdict event name at judge) = Place.Event
place_of (KeyForm.Sighting event target at by uuid) = Place.Event

-- an attribute or an object, at a place in reading order
abbrev pub draft_of : ℕ → RowFields → DraftFields
draft_of n r = record { number = n; place = place_of r.key; label = r.label; content = r.content }

-- the object of a reference, and what other keys name
abbrev pub owner_of : KeyForm → ElemId
owner_of (KeyForm.Element event place) = record { 0 = place_uuid event place }
owner_of (KeyForm.Reference event owner target uuid) = owner
owner_of (KeyForm.Proposal event name) = name.uuid
owner_of (KeyForm.Verdict event name at judge) = name.uuid
owner_of (KeyForm.Sighting event target at by uuid) = uuid

-- the target of a reference, and what other keys name
abbrev pub target_of : KeyForm → Uid
target_of (KeyForm.Element event place) = place_uuid event place
target_of (KeyForm.Reference event owner target uuid) = place_uuid event target
target_of (KeyForm.Proposal event name) = name.uuid.0
target_of (KeyForm.Verdict event name at judge) = name.uuid.0
target_of (KeyForm.Sighting event target at by uuid) = uuid.0

-- what a reference says; other contents say nothing of it
abbrev pub reference_body : Content → ReferenceBody
reference_body (Content.Reference b) = b
reference_body content = record { relationship_type = []; comment = []; deleted = false }

-- a reference, at a place in reading order
abbrev pub reference_draft : ℕ → RowFields → ReferenceDraftFields
reference_draft n r =
    record {
      number = n;
      object = owner_of r.key;
      uuid = record { 0 = key_uuid r.key };
      referenced = record { 0 = target_of r.key };
      body = reference_body r.content;
    }

-- ---- each element has the next place

abbrev pub and_attribute : Gathered → VisibleAttribute → Gathered
and_attribute g a = with_part g (draft_of (place g) a.row)

abbrev pub and_reference : Gathered → RowFields → Gathered
and_reference g r = with_reference g (reference_draft (place g) r)

-- an object, and then its attributes and its references
abbrev pub and_object : Gathered → VisibleObject → Gathered
and_object g o =
    fold and_reference (fold and_attribute (with_part g (draft_of (place g) o.row)) o.attributes)
    o.references

-- the attributes of an event, and then its objects
abbrev pub elements_of : VisibleEvent → Gathered
elements_of e = fold and_object (fold and_attribute (none_from 1) e.attributes) e.objects

-- ---- events

abbrev pub event_draft : EventBody → EventDraftFields
event_draft b =
    record {
      info = b.info;
      date = Some b.date;
      threat_level_id = b.threat_level_id;
      analysis = b.analysis;
      extends_uuid = b.extends_uuid;
      tags = b.tags;
    }

abbrev pub body_in : Content → Option EventDraftFields
body_in (Content.Event b) = Some (event_draft b)
body_in content = None

-- BROUGHT: the event as its row has it, and its elements in the order in which they are shown
abbrev pub brought : VisibleEvent → SubmissionFields
brought e =
    submission_of (record { 0 = key_uuid e.row.key }) (body_in e.row.content) e.row.label
    (elements_of e)
