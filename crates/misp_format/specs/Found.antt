-- What is written of what is listed and found: the members of each object, in ascending order of
-- their names.
use Rattle.std.specs.Prelude.{ℕ, not, List, codes}
use Rattle.serde_json.specs.Data.{Data, null, boolean, string, object, Members, member, no_members}
use Rattle.serde_json.specs.Written.{compact_text}
use Rattle.misp_groups.specs.Prelude.{GroupId}
use Rattle.misp_elem.specs.Parents.{event_of}
use Rattle.misp_elem.specs.Prelude.{label_kind}
use Rattle.misp_elem.specs.declared.content.AttributeBody.{AttributeBody}
use Rattle.misp_elem.specs.declared.content.Content.{Content}
use Rattle.misp_elem.specs.declared.content.EventBody.{EventBody}
use Rattle.misp_elem.specs.declared.visible.VisibleAttribute.{VisibleAttribute}
use Rattle.misp_elem.specs.declared.visible.VisibleEvent.{VisibleEvent}
use Rattle.misp_format.specs.Fields.{GroupNames, group_names, list_data, number_data, org_data, uuid_data, with_group}
use Rattle.misp_format.specs.Written.{attribute_count, attribute_rest, body_data, key_uuid, with_attribute_front, with_attribute_lists, with_seen_and_part}

-- ---- lists of events

-- an event as a list of events shows it
unfoldable pub listed_with : VisibleEvent → EventBody → Data
listed_with e b = object (
    member (codes "Orgc") (org_data b.orgc b.orgc_name) (
    member (codes "attribute_count") (number_data (attribute_count e)) (
    member (codes "date") (string b.date) (
    member (codes "distribution") (number_data (label_kind e.row.label)) (
    member (codes "info") (string b.info) (
    member (codes "published") (boolean (not e.row.held)) (
    member (codes "timestamp") (number_data e.row.stamp) (
    member (codes "uuid") (uuid_data (key_uuid e.row.key))
    no_members))))))))

-- a row of another content is null
abbrev pub listed_of : VisibleEvent → Content → Data
listed_of e (Content.Event b) = listed_with e b
listed_of e content = null

unfoldable pub listed_data : VisibleEvent → Data
listed_data e = listed_of e e.row.content

-- INDEX: the text of a list of events
abbrev pub index_text : List VisibleEvent → List ℕ
index_text events = compact_text (list_data listed_data events)

-- ---- attributes that are found

-- its texts, with the event that it is of
abbrev pub hit_texts : VisibleAttribute → AttributeBody → Members
hit_texts a b =
    with_attribute_front a b (
    member (codes "event_uuid") (uuid_data (event_of a.row.key).0) (
    with_seen_and_part b (attribute_rest a b)))

-- but for the sharing group
abbrev pub hit_members : VisibleAttribute → AttributeBody → Members
hit_members a b = with_attribute_lists a b (hit_texts a b)

unfoldable pub hit_with : GroupNames → VisibleAttribute → AttributeBody → Data
hit_with names a b = object (with_group names a.row.label (hit_members a b))

-- a row of another content is null
abbrev pub hit_of : GroupNames → VisibleAttribute → Content → Data
hit_of names a (Content.Attribute b) = hit_with names a b
hit_of names a content = null

unfoldable pub hit_data : GroupNames → VisibleAttribute → Data
hit_data names a = hit_of names a a.row.content

-- HITS: attributes with the names of the groups that their labels name
abbrev pub hits_data : List (GroupId × List ℕ) → List VisibleAttribute → Data
hits_data names found =
    object (member (codes "Attribute") (list_data (hit_data (group_names names)) found) no_members)

-- their text
abbrev pub hits_text : List (GroupId × List ℕ) → List VisibleAttribute → List ℕ
hits_text names found = compact_text (hits_data names found)

-- ---- events that are found

-- EVENTS: whole events, each as it is written alone
abbrev pub events_data : List VisibleEvent → Data
events_data events =
    object (member (codes "response") (list_data body_data events) no_members)

-- their text
abbrev pub events_text : List VisibleEvent → List ℕ
events_text events = compact_text (events_data events)
