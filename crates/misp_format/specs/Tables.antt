-- THE TABLES of whole bodies: an event, elements for an event that is there, and a tag.
--     MEMBER ← row it NAME READER WHERE-ABSENT
use Rattle.std.specs.Prelude.{ℕ, ◌+◌, Bool, true, not, is_some, List, length, codes, Option, Some, None, unwrap_or, Ok}
use Rattle.serde_json.specs.Data.{Data, Items}
use Rattle.serde_json.specs.Find.{as_array}
use Rattle.misp_ids.specs.Uid.{made_uid}
use Rattle.misp_fields.specs.Fields.{member_of, uuid_of, optional_uuid_of}
use Rattle.misp_elem.specs.Prelude.{ElemId, EventId, Label}
use Rattle.misp_elem.specs.declared.content.Tag.{Tag}
use Rattle.misp_elem.specs.Draft.{EventDraftFields, SubmissionFields}
use Rattle.misp_elem.specs.Fields.{tags_size}
use Rattle.misp_format.specs.declared.reading.parts.PartForm.{PartForm}
use Rattle.misp_format.specs.Body.{Body}
use Rattle.misp_format.specs.Elements.{unless_long, tag_at, tags_at, attribute_at, next_attribute, attributes_at, reference_at, object_and_others_at, objects_at}
use Rattle.misp_format.specs.Gathered.{Gathered, none_from, with_part, with_reference}
use Rattle.misp_format.specs.Labels.{label_at}
use Rattle.misp_format.specs.Readers.{number_within, some_text_of, some_date_of}
use Rattle.misp_format.specs.Rows.{Reading, ◌>>=◌, row, must_be, body_at, each}

-- what a body brings may be in a member of it, and is then read through that member
abbrev pub unwrapped : List ℕ → Data → Data
unwrapped name d = unwrap_or (member_of name d) d

-- the elements that were read, for this event
abbrev pub submission_of : EventId → Option EventDraftFields → Label → Gathered → SubmissionFields
submission_of event body label g =
    record {
      event = event;
      body = body;
      label = label;
      parts = g.parts;
      references = g.references;
    }

-- ---- events

-- EVENT: but for its attributes and objects, and its label. Without a date it has that of the
-- moment.
unfoldable pub event_itself_at : Body → Reading (EventDraftFields × Label)
event_itself_at it = do
  info ← row it (codes "info") some_text_of must_be
  date ← row it (codes "date") some_date_of (Ok None)
  threat_level_id ← row it (codes "threat_level_id") (number_within 1 4) (Ok 4)
  analysis ← row it (codes "analysis") (number_within 0 2) (Ok 0)
  label ← label_at it 4 0
  extends_uuid ← row it (codes "extends_uuid") optional_uuid_of (Ok None)
  tags ← tags_at it
  fits ← unless_long it (length info + tags_size tags)
  Ok (
    record {
      info = info;
      date = date;
      threat_level_id = threat_level_id;
      analysis = analysis;
      extends_uuid = extends_uuid;
      tags = tags;
    },
    label,
  )

-- the attributes outside objects and the objects of an event, onto what was read before
abbrev pub gathered_at : ℕ → Body → Gathered → Reading Gathered
gathered_at word it so_far = attributes_at word None it so_far >>= objects_at word it

-- what a body brings: an event, which has the place 0, and its elements in reading order. What
-- comes without an identifier gets the one that is made of word and its place.
unfoldable pub event_at : ℕ → Data → Reading SubmissionFields
event_at word d = do
  it ← body_at (codes "Event") (unwrapped (codes "Event") d)
  uuid ← row it (codes "uuid") uuid_of (Ok (made_uid word 0))
  event ← event_itself_at it
  elements ← attributes_at word None it (none_from 1)
  elements ← objects_at word it elements
  Ok (submission_of (record { 0 = uuid }) (Some event.0) event.1 elements)

-- ---- elements for an event that is there; the first of them has the place 0

-- one attribute, or each of a list
abbrev pub attribute_or_list : Option Items → Option ElemId → ℕ → Data → Reading Gathered
attribute_or_list None object word d =
    attribute_at (codes "Attribute") object word 0 d
    >>= λ attribute. Ok (with_part (none_from 0) attribute)
attribute_or_list (Some items) object word d =
    each (next_attribute word object (codes "Attribute")) 0 (none_from 0) items

-- ATTRIBUTES: an attribute, or a list of them, of this object or outside objects
abbrev pub attribute_body_at : Option ElemId → ℕ → Data → Reading Gathered
attribute_body_at object word d = attribute_or_list (as_array d) object word d

-- a reference of this object; there is none without an object
abbrev pub reference_body_at : Option ElemId → ℕ → Data → Reading Gathered
reference_body_at None word d = Ok (none_from 0)
reference_body_at (Some object) word d =
    reference_at (codes "ObjectReference") object word 0 d
    >>= λ reference. Ok (with_reference (none_from 0) reference)

-- an attribute may have an object, an object has none, and a reference has one
abbrev pub is_form_for : Option ElemId → PartForm → Bool
is_form_for object PartForm.Attributes = true
is_form_for object PartForm.Object = not (is_some object)
is_form_for object PartForm.Reference = is_some object

-- the elements of a body of this form, an object with its attributes and references
abbrev pub elements_at : Option ElemId → PartForm → ℕ → Data → Reading Gathered
elements_at object PartForm.Attributes word d =
    attribute_body_at object word (unwrapped (codes "Attribute") d)
elements_at object PartForm.Object word d =
    object_and_others_at word (codes "Object") (none_from 0) (unwrapped (codes "Object") d)
elements_at object PartForm.Reference word d =
    reference_body_at object word (unwrapped (codes "ObjectReference") d)

-- PARTS: what a body brings for an event that is there
unfoldable pub parts_at : EventId → Option ElemId → PartForm → ℕ → Data → Reading SubmissionFields
parts_at event object form word d =
    elements_at object form word d
    >>= λ elements. Ok (submission_of event None Label.Inherit elements)

-- ---- tags

-- TAG: a body that is a tag
abbrev pub tag_body_at : Data → Reading Tag
tag_body_at d = tag_at (codes "Tag") (unwrapped (codes "Tag") d)
