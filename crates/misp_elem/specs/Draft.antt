-- What a body brings, as contracts see it.
use Rattle.std.specs.Prelude.{◌≡◌, ℕ, ◌==◌, ◌-◌, List, [], ◌∷◌, length, Bool, true, false, Option, Some, None}
use Rattle.misp_ids.specs.declared.uid.Uid.{Uid}
use Rattle.misp_ids.specs.declared.uid.EventId.{EventId}
use Rattle.misp_ids.specs.declared.uid.ElemId.{ElemId}
use Rattle.misp_ids.specs.declared.label.Label.{Label}
use Rattle.misp_ids.specs.Uid.{IsUid}
use Rattle.misp_elem.specs.declared.key.Place.{Place}
use Rattle.misp_elem.specs.declared.content.Tag.{Tag}
use Rattle.misp_elem.specs.declared.content.Content.{Content}
use Rattle.misp_elem.specs.declared.content.ReferenceBody.{ReferenceBody}
use Rattle.misp_elem.specs.Key.{IsPlaceBut, of_reference}
use Rattle.misp_elem.specs.Fields.{IsText, IsDate, IsBetween, IsOptionalUid, AreTags, text_limit}
use Rattle.misp_elem.specs.Contents.{IsContent, IsReferenceBody, content_kind}
use Rattle.misp_elem.specs.Row.{IsLabel, IsLabelBut}

pub record DraftFields : Type 0 where
  pub number : ℕ
  pub place : Place
  pub label : Label
  pub content : Content

pub record ReferenceDraftFields : Type 0 where
  pub number : ℕ
  pub object : ElemId
  pub uuid : ElemId
  pub referenced : ElemId
  pub body : ReferenceBody

pub record EventDraftFields : Type 0 where
  pub info : List ℕ
  pub date : Option (List ℕ)
  pub threat_level_id : ℕ
  pub analysis : ℕ
  pub extends_uuid : Option Uid
  pub tags : List Tag

pub record SubmissionFields : Type 0 where
  pub event : EventId
  pub body : Option EventDraftFields
  pub label : Label
  pub parts : List DraftFields
  pub references : List ReferenceDraftFields

-- which contents an element at this place may have
abbrev pub fits_place : Place → ℕ → Bool
fits_place Place.Event kind = false
fits_place (Place.Object o) kind = kind == 1
fits_place (Place.Attribute a) kind = kind == 2
fits_place (Place.ObjectAttribute o a) kind = kind == 2

-- an element of an event, whose content is of its place's kind; its number is its place in
-- reading order
abbrev pub IsDraft : DraftFields → Type 0
IsDraft d =
    IsPlaceBut of_reference d.place
    × (IsLabel d.label
    × ((fits_place d.place (content_kind d.content) ≡ true)
    × IsContent true d.content))

-- a reference of an object, whose texts fit
abbrev pub IsReferenceDraft : ReferenceDraftFields → Type 0
IsReferenceDraft r =
    IsUid r.object.0 × (IsUid r.uuid.0 × (IsUid r.referenced.0 × IsReferenceBody r.body))

-- a date where there is one
abbrev pub IsOptionalDate : Option (List ℕ) → Type 0
IsOptionalDate None = Unit {0}
IsOptionalDate (Some date) = IsDate date

abbrev pub IsEventDraft : EventDraftFields → Type 0
IsEventDraft d =
    IsText 1 text_limit d.info
    × (IsOptionalDate d.date
    × (IsBetween 1 4 d.threat_level_id
    × (IsBetween 0 2 d.analysis
    × (IsOptionalUid d.extends_uuid
    × AreTags (text_limit - length d.info) d.tags))))

-- no label of an event inherits
abbrev pub IsLabelOf : Option EventDraftFields → Label → Type 0
IsLabelOf None label = IsLabel label
IsLabelOf (Some body) label = IsLabelBut (5 ∷ []) label

abbrev pub IsSubmission : SubmissionFields → Type 0
IsSubmission s = IsUid s.event.0 × IsLabelOf s.body s.label
