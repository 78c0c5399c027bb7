-- What an edit, a deletion, a tag and a publishing make of the content of a row.
use Rattle.std.specs.Prelude.{Option, Some, None, true, List, [], ℕ, not, filter, bytes_eq, Bool}
use Rattle.misp_lists.specs.Order.{put, is_less}
use Rattle.misp_groups.specs.Prelude.{Stamp, list_any}
use Rattle.misp_elem.specs.declared.content.AttributeBody.{AttributeBody}
use Rattle.misp_elem.specs.declared.content.Content.{Content}
use Rattle.misp_elem.specs.declared.content.EventBody.{EventBody}
use Rattle.misp_elem.specs.declared.content.ObjectBody.{ObjectBody}
use Rattle.misp_elem.specs.declared.content.Tag.{Tag}
use Rattle.misp_elem.specs.declared.row.RowFields.{RowFields as Row}
use Rattle.misp_model.specs.declared.edit.AttributeEditFields.{AttributeEditFields as AttributeEdit}
use Rattle.misp_model.specs.declared.edit.EventEditFields.{EventEditFields as EventEdit}
use Rattle.misp_model.specs.declared.edit.ObjectEditFields.{ObjectEditFields as ObjectEdit}

-- a value that an edit may give
unfoldable pub given : {A : Type 0} → Option A → A → A
given None x = x
given (Some y) x = y

-- the attribute after an edit, which leaves its part in the template of its object
unfoldable pub edited : AttributeEdit → AttributeBody → AttributeBody
edited e b =
    record b {
      category = given e.category b.category;
      to_ids = given e.to_ids b.to_ids;
      comment = given e.comment b.comment;
      kind = elim e.kind_value [ None ↦ b.kind | Some p ↦ p.0 ];
      value = elim e.kind_value [ None ↦ b.value | Some p ↦ p.1 ];
      first_seen = elim e.seen [ None ↦ b.first_seen | Some s ↦ s.first ];
      last_seen = elim e.seen [ None ↦ b.last_seen | Some s ↦ s.last ];
    }

-- the attribute's body in a row's content, after a function
unfoldable pub at_attribute : (AttributeBody → AttributeBody) → Content → Content
at_attribute f (Content.Attribute b) = Content.Attribute (f b)
at_attribute f (Content.Event b) = Content.Event b
at_attribute f (Content.Object b) = Content.Object b
at_attribute f (Content.Reference b) = Content.Reference b
at_attribute f (Content.Proposal b) = Content.Proposal b
at_attribute f (Content.Verdict b) = Content.Verdict b
at_attribute f (Content.Sighting b) = Content.Sighting b
at_attribute f Content.Gone = Content.Gone

-- the event after an edit
unfoldable pub edited_event : EventEdit → EventBody → EventBody
edited_event e b =
    record b {
      info = given e.info b.info;
      date = given e.date b.date;
      threat_level_id = given e.threat_level_id b.threat_level_id;
      analysis = given e.analysis b.analysis;
      extends_uuid = given e.extends_uuid b.extends_uuid;
    }

-- the object after an edit
unfoldable pub edited_object : ObjectEdit → ObjectBody → ObjectBody
edited_object e b =
    record b {
      comment = given e.comment b.comment;
      description = given e.description b.description;
    }

unfoldable pub at_event : (EventBody → EventBody) → Content → Content
at_event f (Content.Event b) = Content.Event (f b)
at_event f (Content.Attribute b) = Content.Attribute b
at_event f (Content.Object b) = Content.Object b
at_event f (Content.Reference b) = Content.Reference b
at_event f (Content.Proposal b) = Content.Proposal b
at_event f (Content.Verdict b) = Content.Verdict b
at_event f (Content.Sighting b) = Content.Sighting b
at_event f Content.Gone = Content.Gone

unfoldable pub at_object : (ObjectBody → ObjectBody) → Content → Content
at_object f (Content.Object b) = Content.Object (f b)
at_object f (Content.Event b) = Content.Event b
at_object f (Content.Attribute b) = Content.Attribute b
at_object f (Content.Reference b) = Content.Reference b
at_object f (Content.Proposal b) = Content.Proposal b
at_object f (Content.Verdict b) = Content.Verdict b
at_object f (Content.Sighting b) = Content.Sighting b
at_object f Content.Gone = Content.Gone

-- the element deleted
unfoldable pub as_deleted : Content → Content
as_deleted (Content.Object b) = Content.Object (record b { deleted = true })
as_deleted (Content.Attribute b) = Content.Attribute (record b { deleted = true })
as_deleted (Content.Reference b) = Content.Reference (record b { deleted = true })
as_deleted (Content.Event b) = Content.Event b
as_deleted (Content.Proposal b) = Content.Proposal b
as_deleted (Content.Verdict b) = Content.Verdict b
as_deleted (Content.Sighting b) = Content.Sighting b
as_deleted Content.Gone = Content.Gone

-- the element with other tags
unfoldable pub at_tags : (List Tag → List Tag) → Content → Content
at_tags f (Content.Event b) = Content.Event (record b { tags = f b.tags })
at_tags f (Content.Attribute b) = Content.Attribute (record b { tags = f b.tags })
at_tags f (Content.Object b) = Content.Object b
at_tags f (Content.Reference b) = Content.Reference b
at_tags f (Content.Proposal b) = Content.Proposal b
at_tags f (Content.Verdict b) = Content.Verdict b
at_tags f (Content.Sighting b) = Content.Sighting b
at_tags f Content.Gone = Content.Gone

-- the element's tags
unfoldable pub tags_in : Content → List Tag
tags_in (Content.Event b) = b.tags
tags_in (Content.Attribute b) = b.tags
tags_in (Content.Object b) = []
tags_in (Content.Reference b) = []
tags_in (Content.Proposal b) = []
tags_in (Content.Verdict b) = []
tags_in (Content.Sighting b) = []
tags_in Content.Gone = []

-- the tags without that of this name, and with a tag in the place of that of its name
unfoldable pub untagged : List ℕ → List Tag → List Tag
untagged name tags = filter (λ t. not (bytes_eq t.name name)) tags

unfoldable pub tagged : Tag → List Tag → List Tag
tagged tag tags = put (λ a b. is_less a.name b.name) tag (untagged tag.name tags)

-- the row has a tag of this name
unfoldable pub has_tag : List ℕ → Row → Bool
has_tag name row = list_any (λ t. bytes_eq t.name name) (tags_in row.content)

-- the event's body with its moment of publishing
unfoldable pub at_publishing : Stamp → Content → Content
at_publishing now (Content.Event b) = Content.Event (record b { publish_stamp = now })
at_publishing now (Content.Attribute b) = Content.Attribute b
at_publishing now (Content.Object b) = Content.Object b
at_publishing now (Content.Reference b) = Content.Reference b
at_publishing now (Content.Proposal b) = Content.Proposal b
at_publishing now (Content.Verdict b) = Content.Verdict b
at_publishing now (Content.Sighting b) = Content.Sighting b
at_publishing now Content.Gone = Content.Gone
