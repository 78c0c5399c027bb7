-- The one spelling of each key, and those of each row in its forms.
use Rattle.std.specs.Prelude.{◌≡◌, ◌⊎◌, ℕ, List, [], ◌∷◌, ◌++◌, length, Bool, true, false, Option, Some, None, flat_map}
use Rattle.std.specs.Int.{w32, w64, w128, to_be_bytes}
use Rattle.misp_ids.specs.declared.label.Label.{Label}
use Rattle.misp_ids.specs.declared.uid.Uid.{Uid}
use Rattle.misp_ids.specs.declared.uid.OrgId.{OrgId}
use Rattle.misp_elem.specs.declared.content.Tag.{Tag}
use Rattle.misp_elem.specs.declared.content.EventBody.{EventBody}
use Rattle.misp_elem.specs.declared.content.AttributeBody.{AttributeBody}
use Rattle.misp_elem.specs.declared.content.ObjectBody.{ObjectBody}
use Rattle.misp_elem.specs.declared.content.ReferenceBody.{ReferenceBody}
use Rattle.misp_elem.specs.declared.content.ProposalBody.{ProposalBody}
use Rattle.misp_elem.specs.declared.content.SightingBody.{SightingBody}
use Rattle.misp_elem.specs.declared.content.Content.{Content}
use Rattle.misp_elem.specs.declared.row.RowForm.{RowForm}
use Rattle.misp_elem.specs.declared.row.RowForm.TheVariants.{First, Second}
use Rattle.misp_elem.specs.declared.row.RowFields.{RowFields}
use Rattle.misp_elem.specs.declared.key.Place.{Place}
use Rattle.misp_elem.specs.declared.key.Place.TheVariants.{Event, Object, Attribute, ObjectAttribute}
use Rattle.misp_elem.specs.declared.key.ProposalName.{ProposalName}
use Rattle.misp_elem.specs.declared.key.KeyForm.{KeyForm}
use Rattle.misp_elem.specs.declared.key.KeyForm.TheVariants.{Element, Reference, Proposal, Verdict, Sighting}

-- sixteen bytes, the highest first
unfoldable pub uid : Uid → List ℕ
uid u = to_be_bytes w128 u.0

-- a byte of length, and that many bytes
abbrev pub inst_name : List ℕ → List ℕ
inst_name name = length name ∷ name

abbrev pub place : Place → List ℕ
place Event = 0 ∷ []
place (Object o) = 1 ∷ uid o.0
place (Attribute a) = 2 ∷ uid a.0
place (ObjectAttribute o a) = 3 ∷ uid o.0 ++ uid a.0

abbrev pub proposal_name : ProposalName → List ℕ
proposal_name n = place n.target ++ (inst_name n.at ++ (uid n.by.0 ++ uid n.uuid.0))

abbrev pub key : KeyForm → List ℕ
key (Element event target) = 0 ∷ uid event.0 ++ place target
key (Reference event object target uuid) =
    1 ∷ uid event.0 ++ (uid object.0 ++ (place target ++ uid uuid.0))
key (Proposal event name) = 2 ∷ uid event.0 ++ proposal_name name
key (Verdict event name at judge) =
    3 ∷ uid event.0 ++ (proposal_name name ++ (inst_name at ++ uid judge.0))
key (Sighting event target at by uuid) =
    4 ∷ uid event.0 ++ (place target ++ (inst_name at ++ (uid by.0 ++ uid uuid.0)))

-- The name under which a keeper holds a row: the owner, and the key.
abbrev pub name : OrgId → KeyForm → List ℕ
name owner k = uid owner.0 ++ key k

-- ---- rows

-- four bytes of length, and that many bytes
unfoldable pub text : List ℕ → List ℕ
text bytes = to_be_bytes w32 (length bytes) ++ bytes

abbrev pub flag : Bool → List ℕ
flag false = 0 ∷ []
flag true = 1 ∷ []

-- a flag, and the identifier where there is one
abbrev pub optional_uid : Option Uid → List ℕ
optional_uid None = 0 ∷ []
optional_uid (Some u) = 1 ∷ uid u

-- eight bytes
unfoldable pub stamp : ℕ → List ℕ
stamp s = to_be_bytes w64 s

-- a flag, and the moment in eight bytes where there is one
abbrev pub optional_moment : Option ℕ → List ℕ
optional_moment None = 0 ∷ []
optional_moment (Some m) = 1 ∷ stamp m

abbrev pub label : Label → List ℕ
label Label.Own = 0 ∷ []
label Label.Community = 1 ∷ []
label Label.Connected = 2 ∷ []
label Label.All = 3 ∷ []
label (Label.Group g) = 4 ∷ uid g.creator.0 ++ uid g.uuid
label Label.Inherit = 5 ∷ []

-- held is worth 1, and carried 2
abbrev pub flags : Bool × Bool → List ℕ
flags (false, false) = 0 ∷ []
flags (true, false) = 1 ∷ []
flags (false, true) = 2 ∷ []
flags (true, true) = 3 ∷ []

abbrev pub tag : Tag → List ℕ
tag t = text t.name ++ (t.colour ++ flag t.exportable)

-- four bytes of their number, and each
unfoldable pub tags : List Tag → List ℕ
tags ts = to_be_bytes w32 (length ts) ++ flat_map tag ts

abbrev pub event_body : EventBody → List ℕ
event_body b =
    text b.info
    ++ (text b.date
    ++ ((b.threat_level_id ∷ [])
    ++ ((b.analysis ∷ [])
    ++ (stamp b.publish_stamp
    ++ (optional_uid b.extends_uuid
    ++ (uid b.orgc.0
    ++ (text b.orgc_name
    ++ tags b.tags)))))))

-- what the second form spells besides
abbrev pub relation_and_moments : RowForm → AttributeBody → List ℕ
relation_and_moments First b = []
relation_and_moments Second b =
    text b.object_relation ++ (optional_moment b.first_seen ++ optional_moment b.last_seen)

abbrev pub attribute_body : RowForm → AttributeBody → List ℕ
attribute_body form b =
    text b.kind
    ++ ((b.category ∷ [])
    ++ (flag b.to_ids
    ++ (text b.comment
    ++ (flag b.deleted
    ++ (text b.value
    ++ (tags b.tags
    ++ relation_and_moments form b))))))

abbrev pub object_body : ObjectBody → List ℕ
object_body b =
    text b.name
    ++ (text b.meta_category
    ++ (text b.description
    ++ (text b.comment
    ++ (optional_uid b.template_uuid
    ++ (stamp b.template_version
    ++ flag b.deleted)))))

abbrev pub reference_body : ReferenceBody → List ℕ
reference_body b = text b.relationship_type ++ (text b.comment ++ flag b.deleted)

abbrev pub proposal_body : ProposalBody → List ℕ
proposal_body b =
    flag b.remove
    ++ (text b.by_name
    ++ (text b.kind
    ++ ((b.category ∷ [])
    ++ (flag b.to_ids
    ++ (text b.comment
    ++ text b.value)))))

abbrev pub sighting_body : SightingBody → List ℕ
sighting_body b = text b.by_name ++ ((b.kind ∷ []) ++ (stamp b.date ++ text b.source))

abbrev pub content_in : RowForm → Content → List ℕ
content_in form (Content.Event b) = 0 ∷ event_body b
content_in form (Content.Object b) = 1 ∷ object_body b
content_in form (Content.Attribute b) = 2 ∷ attribute_body form b
content_in form (Content.Reference b) = 3 ∷ reference_body b
content_in form (Content.Proposal b) = 4 ∷ proposal_body b
content_in form (Content.Verdict b) = 5 ∷ flag b
content_in form (Content.Sighting b) = 6 ∷ sighting_body b
content_in form Content.Gone = 7 ∷ []

-- what follows the byte of the form
abbrev pub fields_in : RowForm → RowFields → List ℕ
fields_in form r =
    uid r.owner.0
    ++ (key r.key
    ++ (stamp r.stamp
    ++ (label r.label
    ++ (flags (r.held, r.carried)
    ++ content_in form r.content))))

abbrev pub content : Content → List ℕ
content c = content_in Second c

-- THE SPELLING of a row, which is that of the second form
abbrev pub row : RowFields → List ℕ
row r = 2 ∷ fields_in Second r

-- its spelling in the first form, which is read and not written
abbrev pub row_of_first_form : RowFields → List ℕ
row_of_first_form r = 1 ∷ fields_in First r

-- the first form spells all that this says: no part of an object, and no moment
abbrev pub IsOfFirstForm : Content → Type 0
IsOfFirstForm (Content.Attribute b) =
    (b.object_relation ≡ []) × ((b.first_seen ≡ None) × (b.last_seen ≡ None))
IsOfFirstForm _ = Unit {0}

-- THE FORMS: the bytes spell this row in the second form, or in the first where that spells all
abbrev pub Spells : List ℕ → RowFields → Type 0
Spells bytes r =
    (bytes ≡ row r) ⊎ (IsOfFirstForm r.content × (bytes ≡ row_of_first_form r))
