-- The tokens of what is written, and a text that is put down token by token.
use Rattle.std.specs.Prelude.{ℕ, List, [], ◌∷◌, ◌++◌, codes, Option, Some, None}
use Rattle.json.specs.Token.{Token, key}
use Rattle.json.specs.Tree.{json_tokens}
use Rattle.serde_json.specs.Data.{Data, Members, member, no_members}
use Rattle.serde_json.specs.Written.{outline}
use Rattle.misp_ids.specs.declared.label.Label.{Label}
use Rattle.misp_elem.specs.declared.content.EventBody.{EventBody}
use Rattle.misp_elem.specs.declared.content.AttributeBody.{AttributeBody}
use Rattle.misp_elem.specs.declared.visible.VisibleAttribute.{VisibleAttribute}
use Rattle.misp_elem.specs.declared.visible.VisibleObject.{VisibleObject}
use Rattle.misp_elem.specs.declared.visible.VisibleEvent.{VisibleEvent}
use Rattle.misp_format.specs.Fields.{GroupNames, group_data, list_data, moment_if_known, text_if_any, org_data}
use Rattle.misp_format.specs.Written.{tag_data, reference_data, proposal_data, sighting_data, attribute_data, object_data}

-- what stood before, and the tokens that were put down after it
pub record PutDown : Type 0 where
  pub before : List ℕ
  pub tokens : List Token

-- nothing was put down yet
abbrev pub behind : List ℕ → PutDown
behind text = record { before = text; tokens = [] }

-- with this token at the end
unfoldable pub push : Token → PutDown → PutDown
push token was = record { before = was.before; tokens = was.tokens ++ token ∷ [] }

-- with these tokens at the end, one after another
abbrev pub with : List Token → PutDown → PutDown
with [] was = was
with (token ∷ tokens) was = with tokens (push token was)

-- ---- values

-- with this value at the end
unfoldable pub put_value : Data → PutDown → PutDown
put_value d was = with (json_tokens (outline d)) was

-- with this member of an object at the end: its name, and its value
unfoldable pub put_member : List ℕ → Data → PutDown → PutDown
put_member name d was = put_value d (push (key name) was)

-- with these members at the end, one after another
abbrev pub put_members : Members → PutDown → PutDown
put_members no_members was = was
put_members (member name d ms) was = put_members ms (put_member name d was)

-- with this member at the end, where there is something to write
abbrev pub put_some : List ℕ → Option Data → PutDown → PutDown
put_some name None was = was
put_some name (Some d) was = put_member name d was

-- with the moments and the part of an attribute at the end, each where there is one
abbrev pub put_seen_and_part : AttributeBody → PutDown → PutDown
put_seen_and_part b was =
    put_some (codes "object_relation") (text_if_any b.object_relation) (
    put_some (codes "last_seen") (moment_if_known b.last_seen) (
    put_some (codes "first_seen") (moment_if_known b.first_seen) was))

-- with the member `SharingGroup` at the end, where the label is that of a group
abbrev pub put_group : GroupNames → Label → PutDown → PutDown
put_group names Label.Own was = was
put_group names Label.Community was = was
put_group names Label.Connected was = was
put_group names Label.All was = was
put_group names (Label.Group group) was =
    put_member (codes "SharingGroup") (group_data names group) was
put_group names Label.Inherit was = was

-- ---- the lists of elements, and among them the organisations of an event and the sharing group

abbrev pub put_attribute_lists : GroupNames → Label → VisibleAttribute → AttributeBody
    → PutDown → PutDown
put_attribute_lists names label a b was =
    put_member (codes "Tag") (list_data tag_data b.tags) (
    put_member (codes "Sighting") (list_data sighting_data a.sightings) (
    put_group names label (
    put_member (codes "ShadowAttribute") (list_data proposal_data a.proposals) was)))

abbrev pub put_object_lists : GroupNames → Label → VisibleObject → PutDown → PutDown
put_object_lists names label o was =
    put_group names label (
    put_member (codes "ObjectReference") (list_data reference_data o.references) (
    put_member (codes "Attribute") (list_data (attribute_data names) o.attributes) was))

abbrev pub put_event_lists : GroupNames → Label → VisibleEvent → EventBody → PutDown → PutDown
put_event_lists names label e b was =
    put_member (codes "Tag") (list_data tag_data b.tags) (
    put_group names label (
    put_member (codes "ShadowAttribute") (list_data proposal_data e.proposals) (
    put_member (codes "Orgc") (org_data b.orgc b.orgc_name) (
    put_member (codes "Org") (org_data e.row.owner e.org_name) (
    put_member (codes "Object") (list_data (object_data names) e.objects) (
    put_member (codes "Attribute") (list_data (attribute_data names) e.attributes) was))))))
