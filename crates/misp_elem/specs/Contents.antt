-- What the contents of a row are.
use Rattle.std.specs.Prelude.{◌≡◌, ℕ, ◌<◌, ◌^◌, ◌-◌, ◌+◌, ◌||◌, List, length, Bool, true, false, not}
use Rattle.misp_ids.specs.Uid.{IsUid}
use Rattle.misp_elem.specs.declared.content.EventBody.{EventBody}
use Rattle.misp_elem.specs.declared.content.ObjectBody.{ObjectBody}
use Rattle.misp_elem.specs.declared.content.AttributeBody.{AttributeBody}
use Rattle.misp_elem.specs.declared.content.ReferenceBody.{ReferenceBody}
use Rattle.misp_elem.specs.declared.content.ProposalBody.{ProposalBody}
use Rattle.misp_elem.specs.declared.content.SightingBody.{SightingBody}
use Rattle.misp_elem.specs.declared.content.Content.{Content}
use Rattle.misp_elem.specs.Fields.{is_text, IsText, text_limit, IsStamp, IsBetween, IsOptionalUid, IsDate, IsOptionalMoment, earliest, is_value, IsValue, AreTags, tags_size}

-- Each text has the room that the texts before it leave of the limit, and what was seen last was not
-- so before it was seen first.
abbrev pub IsEventBody : EventBody → Type 0
IsEventBody b =
    IsText 1 text_limit b.info
    × (IsDate b.date
    × (IsBetween 1 4 b.threat_level_id
    × (IsBetween 0 2 b.analysis
    × (IsStamp b.publish_stamp
    × (IsOptionalUid b.extends_uuid
    × (IsUid b.orgc.0
    × (IsText 0 64 b.orgc_name
    × AreTags (text_limit - length b.info) b.tags)))))))

abbrev pub IsObjectBody : ObjectBody → Type 0
IsObjectBody b =
    IsText 1 text_limit b.name
    × (IsText 0 (text_limit - length b.name) b.meta_category
    × (IsText 0 (text_limit - length b.name - length b.meta_category) b.description
    × (IsText 0
    (text_limit - length b.name - length b.meta_category - length b.description) b.comment
    × (IsOptionalUid b.template_uuid
    × ((b.template_version < 2 ^ 64)
    × Unit {0})))))

abbrev pub IsAttributeBody : AttributeBody → Type 0
IsAttributeBody b =
    IsText 1 100 b.kind
    × (IsBetween 0 15 b.category
    × (Unit {0}
    × (IsText 0 (text_limit - length b.kind) b.comment
    × (Unit {0}
    × (IsValue (text_limit - length b.kind - length b.comment) b.kind b.value
    × (AreTags (text_limit - length b.kind - length b.comment - length b.value) b.tags
    × (IsText 0
    (text_limit - length b.kind - length b.comment - length b.value - tags_size b.tags)
    b.object_relation
    × (IsOptionalMoment 0 b.first_seen
    × IsOptionalMoment (earliest b.first_seen) b.last_seen))))))))

abbrev pub IsReferenceBody : ReferenceBody → Type 0
IsReferenceBody b =
    IsText 0 text_limit b.relationship_type
    × (IsText 0 (text_limit - length b.relationship_type) b.comment
    × Unit {0})

-- a proposal asks to delete only where it may
abbrev pub is_removal : Bool → Bool → Bool
is_removal may remove = may || not remove

abbrev pub IsRemoval : Bool → Bool → Type 0
IsRemoval may remove = is_removal may remove ≡ true

-- the fewest bytes of the type in a proposal: one that asks to delete may have none
abbrev pub least_kind : Bool → ℕ
least_kind true = 0
least_kind false = 1

-- the value in a proposal: one that asks to delete has none
abbrev pub is_proposed : Bool → ℕ → List ℕ → List ℕ → Bool
is_proposed true room kind value = is_text 0 0 value
is_proposed false room kind value = is_value room kind value

abbrev pub IsProposed : Bool → ℕ → List ℕ → List ℕ → Type 0
IsProposed remove room kind value = is_proposed remove room kind value ≡ true

abbrev pub IsProposalBody : Bool → ProposalBody → Type 0
IsProposalBody may b =
    IsRemoval may b.remove
    × (IsText 0 64 b.by_name
    × (IsText (least_kind b.remove) 100 b.kind
    × (IsBetween 0 15 b.category
    × (Unit {0}
    × (IsText 0 (text_limit - length b.kind) b.comment
    × IsProposed b.remove (text_limit - length b.kind - length b.comment) b.kind b.value)))))

abbrev pub IsSightingBody : SightingBody → Type 0
IsSightingBody b =
    IsText 0 64 b.by_name
    × (IsBetween 0 2 b.kind
    × (IsStamp b.date
    × IsText 0 text_limit b.source))

-- The contents that a row can have, where a proposal may ask to delete or may not.
abbrev pub IsContent : Bool → Content → Type 0
IsContent may (Content.Event b) = IsEventBody b
IsContent may (Content.Object b) = IsObjectBody b
IsContent may (Content.Attribute b) = IsAttributeBody b
IsContent may (Content.Reference b) = IsReferenceBody b
IsContent may (Content.Proposal b) = IsProposalBody may b
IsContent may (Content.Verdict b) = Unit {0}
IsContent may (Content.Sighting b) = IsSightingBody b
IsContent may Content.Gone = Unit {0}

-- the number of its form
abbrev pub content_kind : Content → ℕ
content_kind (Content.Event b) = 0
content_kind (Content.Object b) = 1
content_kind (Content.Attribute b) = 2
content_kind (Content.Reference b) = 3
content_kind (Content.Proposal b) = 4
content_kind (Content.Verdict b) = 5
content_kind (Content.Sighting b) = 6
content_kind Content.Gone = 7

-- the texts of an element together, as the limit counts them
unfoldable pub text_size : Content → ℕ
text_size (Content.Event b) = length b.info + tags_size b.tags
text_size (Content.Object b) =
    length b.name + length b.meta_category + length b.description + length b.comment
text_size (Content.Attribute b) =
    length b.kind + length b.comment + length b.value + tags_size b.tags
    + length b.object_relation
text_size (Content.Reference b) = length b.relationship_type + length b.comment
text_size (Content.Proposal b) = length b.kind + length b.comment + length b.value
text_size (Content.Verdict b) = 0
text_size (Content.Sighting b) = length b.source
text_size Content.Gone = 0
