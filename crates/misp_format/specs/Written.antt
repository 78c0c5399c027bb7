-- What is written of an event: the members of each object, in ascending order of their names.
use Rattle.std.specs.Prelude.{ℕ, ◌+◌, not, List, ◌++◌, length, codes, sum_by}
use Rattle.hex.specs.Hex.{encode_lower}
use Rattle.serde_json.specs.Data.{Data, null, boolean, string, object, Members, member, no_members}
use Rattle.misp_elem.specs.Prelude.{ElemId, EventId, OrgId, Uid, label_kind}
use Rattle.misp_elem.specs.declared.key.Place.{Place}
use Rattle.misp_elem.specs.declared.key.ProposalName.{ProposalName}
use Rattle.misp_elem.specs.declared.key.KeyForm.{KeyForm}
use Rattle.misp_elem.specs.declared.content.Tag.{Tag}
use Rattle.misp_elem.specs.declared.content.EventBody.{EventBody}
use Rattle.misp_elem.specs.declared.content.ObjectBody.{ObjectBody}
use Rattle.misp_elem.specs.declared.content.AttributeBody.{AttributeBody}
use Rattle.misp_elem.specs.declared.content.Content.{Content}
use Rattle.misp_elem.specs.declared.row.RowFields.{RowFields}
use Rattle.misp_elem.specs.declared.visible.VisibleAttribute.{VisibleAttribute}
use Rattle.misp_elem.specs.declared.visible.VisibleObject.{VisibleObject}
use Rattle.misp_elem.specs.declared.visible.VisibleEvent.{VisibleEvent}
use Rattle.misp_format.specs.Fields.{number_data, uuid_data, optional_uuid_data, list_data, moment_if_known, text_if_any, with_some, org_data, group_names, GroupNames, with_group}
use Rattle.misp_format.specs.Kinds.{category_name}

-- ---- identifiers

-- the identifier of what stands at a place of an event
abbrev pub place_uuid : EventId → Place → Uid
place_uuid event Place.Event = event.0
place_uuid event (Place.Object o) = o.0
place_uuid event (Place.Attribute a) = a.0
place_uuid event (Place.ObjectAttribute o a) = a.0

-- the identifier of what a key names
abbrev pub key_uuid : KeyForm → Uid
key_uuid (KeyForm.Element event place) = place_uuid event place
key_uuid (KeyForm.Reference event owner target uuid) = uuid.0
key_uuid (KeyForm.Proposal event name) = name.uuid.0
key_uuid (KeyForm.Verdict event name at judge) = name.uuid.0
key_uuid (KeyForm.Sighting event target at by uuid) = uuid.0

-- ---- tags

-- `#`, and two digits for each of red, green and blue, in lower case
abbrev pub colour_text : List ℕ → List ℕ
colour_text colour = codes "#" ++ encode_lower colour

unfoldable pub tag_data : Tag → Data
tag_data tag = object (
    member (codes "colour") (string (colour_text tag.colour)) (
    member (codes "exportable") (boolean tag.exportable) (
    member (codes "name") (string tag.name)
    no_members)))

-- ---- references and statements; one whose key or content is of another kind is null

abbrev pub reference_with : ℕ → Uid → ElemId → Content → Data
reference_with stamp referenced uuid (Content.Reference b) = object (
    member (codes "comment") (string b.comment) (
    member (codes "deleted") (boolean b.deleted) (
    member (codes "referenced_uuid") (uuid_data referenced) (
    member (codes "relationship_type") (string b.relationship_type) (
    member (codes "timestamp") (number_data stamp) (
    member (codes "uuid") (uuid_data uuid.0)
    no_members))))))
reference_with stamp referenced uuid content = null

abbrev pub reference_of : ℕ → KeyForm → Content → Data
reference_of stamp (KeyForm.Reference event owner target uuid) content =
    reference_with stamp (place_uuid event target) uuid content
reference_of stamp key content = null

unfoldable pub reference_data : RowFields → Data
reference_data r = reference_of r.stamp r.key r.content

abbrev pub proposal_with : ℕ → ProposalName → Content → Data
proposal_with stamp name (Content.Proposal b) = object (
    member (codes "Org") (org_data name.by b.by_name) (
    member (codes "category") (string (category_name b.category)) (
    member (codes "comment") (string b.comment) (
    member (codes "origin") (string name.at) (
    member (codes "proposal_to_delete") (boolean b.remove) (
    member (codes "timestamp") (number_data stamp) (
    member (codes "to_ids") (boolean b.to_ids) (
    member (codes "type") (string b.kind) (
    member (codes "uuid") (uuid_data name.uuid.0) (
    member (codes "value") (string b.value)
    no_members))))))))))
proposal_with stamp name content = null

abbrev pub proposal_of : ℕ → KeyForm → Content → Data
proposal_of stamp (KeyForm.Proposal event name) content = proposal_with stamp name content
proposal_of stamp key content = null

unfoldable pub proposal_data : RowFields → Data
proposal_data r = proposal_of r.stamp r.key r.content

abbrev pub sighting_with : OrgId → ElemId → Content → Data
sighting_with by uuid (Content.Sighting b) = object (
    member (codes "Organisation") (org_data by b.by_name) (
    member (codes "date_sighting") (number_data b.date) (
    member (codes "source") (string b.source) (
    member (codes "type") (number_data b.kind) (
    member (codes "uuid") (uuid_data uuid.0)
    no_members)))))
sighting_with by uuid content = null

abbrev pub sighting_of : KeyForm → Content → Data
sighting_of (KeyForm.Sighting event target at by uuid) content = sighting_with by uuid content
sighting_of key content = null

unfoldable pub sighting_data : RowFields → Data
sighting_data r = sighting_of r.key r.content

-- ---- attributes

-- its last texts
abbrev pub attribute_rest : VisibleAttribute → AttributeBody → Members
attribute_rest a b =
    member (codes "timestamp") (number_data a.row.stamp) (
    member (codes "to_ids") (boolean b.to_ids) (
    member (codes "type") (string b.kind) (
    member (codes "uuid") (uuid_data (key_uuid a.row.key)) (
    member (codes "value") (string b.value)
    no_members))))

-- when it was first and last seen, and its part in an object, each where there is one
abbrev pub with_seen_and_part : AttributeBody → Members → Members
with_seen_and_part b ms =
    with_some (codes "first_seen") (moment_if_known b.first_seen) (
    with_some (codes "last_seen") (moment_if_known b.last_seen) (
    with_some (codes "object_relation") (text_if_any b.object_relation) ms))

-- its first texts, and these members behind them
abbrev pub with_attribute_front : VisibleAttribute → AttributeBody → Members → Members
with_attribute_front a b ms =
    member (codes "category") (string (category_name b.category)) (
    member (codes "comment") (string b.comment) (
    member (codes "deleted") (boolean b.deleted) (
    member (codes "distribution") (number_data (label_kind a.row.label))
    ms)))

-- but for its lists and the sharing group
abbrev pub attribute_texts : VisibleAttribute → AttributeBody → Members
attribute_texts a b = with_attribute_front a b (with_seen_and_part b (attribute_rest a b))

-- its lists, and these members behind them
abbrev pub with_attribute_lists : VisibleAttribute → AttributeBody → Members → Members
with_attribute_lists a b ms =
    member (codes "ShadowAttribute") (list_data proposal_data a.proposals) (
    member (codes "Sighting") (list_data sighting_data a.sightings) (
    member (codes "Tag") (list_data tag_data b.tags)
    ms))

-- but for the sharing group
abbrev pub attribute_members : VisibleAttribute → AttributeBody → Members
attribute_members a b = with_attribute_lists a b (attribute_texts a b)

unfoldable pub attribute_with : GroupNames → VisibleAttribute → AttributeBody → Data
attribute_with names a b = object (with_group names a.row.label (attribute_members a b))

-- a row of another content is null
abbrev pub attribute_of : GroupNames → VisibleAttribute → Content → Data
attribute_of names a (Content.Attribute b) = attribute_with names a b
attribute_of names a content = null

unfoldable pub attribute_data : GroupNames → VisibleAttribute → Data
attribute_data names a = attribute_of names a a.row.content

-- ---- objects

-- but for its lists and the sharing group
abbrev pub object_texts : VisibleObject → ObjectBody → Members
object_texts o b =
    member (codes "comment") (string b.comment) (
    member (codes "deleted") (boolean b.deleted) (
    member (codes "description") (string b.description) (
    member (codes "distribution") (number_data (label_kind o.row.label)) (
    member (codes "meta-category") (string b.meta_category) (
    member (codes "name") (string b.name) (
    member (codes "template_uuid") (optional_uuid_data b.template_uuid) (
    member (codes "template_version") (number_data b.template_version) (
    member (codes "timestamp") (number_data o.row.stamp) (
    member (codes "uuid") (uuid_data (key_uuid o.row.key))
    no_members)))))))))

-- but for the sharing group
abbrev pub object_members : GroupNames → VisibleObject → ObjectBody → Members
object_members names o b =
    member (codes "Attribute") (list_data (attribute_data names) o.attributes) (
    member (codes "ObjectReference") (list_data reference_data o.references)
    (object_texts o b))

unfoldable pub object_with : GroupNames → VisibleObject → ObjectBody → Data
object_with names o b = object (with_group names o.row.label (object_members names o b))

-- a row of another content is null
abbrev pub object_of : GroupNames → VisibleObject → Content → Data
object_of names o (Content.Object b) = object_with names o b
object_of names o content = null

unfoldable pub object_data : GroupNames → VisibleObject → Data
object_data names o = object_of names o o.row.content

-- ---- events

-- the attributes that are shown, those in objects included
unfoldable pub attribute_count : VisibleEvent → ℕ
attribute_count e =
    length e.attributes + sum_by (λ (o : VisibleObject). length o.attributes) e.objects

-- but for its lists, its organisations and the sharing group
abbrev pub event_texts : VisibleEvent → EventBody → Members
event_texts e b =
    member (codes "analysis") (number_data b.analysis) (
    member (codes "attribute_count") (number_data (attribute_count e)) (
    member (codes "date") (string b.date) (
    member (codes "distribution") (number_data (label_kind e.row.label)) (
    member (codes "extends_uuid") (optional_uuid_data b.extends_uuid) (
    member (codes "info") (string b.info) (
    member (codes "publish_timestamp") (number_data b.publish_stamp) (
    member (codes "published") (boolean (not e.row.held)) (
    member (codes "threat_level_id") (number_data b.threat_level_id) (
    member (codes "timestamp") (number_data e.row.stamp) (
    member (codes "uuid") (uuid_data (key_uuid e.row.key))
    no_members))))))))))

-- but for the sharing group
abbrev pub event_members : GroupNames → VisibleEvent → EventBody → Members
event_members names e b =
    member (codes "Attribute") (list_data (attribute_data names) e.attributes) (
    member (codes "Object") (list_data (object_data names) e.objects) (
    member (codes "Org") (org_data e.row.owner e.org_name) (
    member (codes "Orgc") (org_data b.orgc b.orgc_name) (
    member (codes "ShadowAttribute") (list_data proposal_data e.proposals) (
    member (codes "Tag") (list_data tag_data b.tags)
    (event_texts e b))))))

unfoldable pub event_with : GroupNames → VisibleEvent → EventBody → Data
event_with names e b = object (with_group names e.row.label (event_members names e b))

-- a row of another content is null
abbrev pub event_of : GroupNames → VisibleEvent → Content → Data
event_of names e (Content.Event b) = event_with names e b
event_of names e content = null

unfoldable pub event_data : GroupNames → VisibleEvent → Data
event_data names e = event_of names e e.row.content

-- EVENT: it is written in a member of its own
abbrev pub body_data : VisibleEvent → Data
body_data e = object (member (codes "Event") (event_data (group_names e.group_names) e) no_members)
