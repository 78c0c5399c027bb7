-- What is a row.
use Rattle.std.specs.Prelude.{◌≡◌, ℕ, ◌==◌, ◌&&◌, ◌||◌, List, [], ◌∷◌, Bool, true, false, not}
use Rattle.std.specs.List.{list_any}
use Rattle.misp_ids.specs.declared.label.Label.{Label}
use Rattle.misp_ids.specs.Uid.{IsUid}
use Rattle.misp_ids.specs.Labels.{label_kind}
use Rattle.misp_elem.specs.declared.key.Place.{Place}
use Rattle.misp_elem.specs.declared.key.KeyForm.{KeyForm}
use Rattle.misp_elem.specs.declared.key.KeyForm.TheVariants.{Element, Reference, Proposal, Verdict, Sighting}
use Rattle.misp_elem.specs.declared.content.Content.{Content}
use Rattle.misp_elem.specs.declared.row.RowFields.{RowFields}
use Rattle.misp_elem.specs.Key.{IsKey, place_kind}
use Rattle.misp_elem.specs.Fields.{IsStamp}
use Rattle.misp_elem.specs.Contents.{IsContent, content_kind}

-- ---- labels

abbrev pub IsLabel : Label → Type 0
IsLabel (Label.Group g) = IsUid g.creator.0 × IsUid g.uuid
IsLabel label = Unit {0}

-- what the labels of rows may not be: an event inherits from none, and statements and references
-- only inherit
abbrev pub barred_labels : KeyForm → List ℕ
barred_labels (Element event Place.Event) = 5 ∷ []
barred_labels (Element event place) = []
barred_labels key = 0 ∷ 1 ∷ 2 ∷ 3 ∷ 4 ∷ []

abbrev pub IsLabelBut : List ℕ → Label → Type 0
IsLabelBut barred label =
    (list_any (λ kind. kind == label_kind label) barred ≡ false) × IsLabel label

-- ---- rows

-- which contents a row of this key, label and flags may have
abbrev pub fits : KeyForm → ℕ → Bool × Bool → ℕ → Bool
fits (Element event Place.Event) label flags kind =
    (kind == 0) || ((kind == 7) && (label == 0) && not flags.0 && not flags.1)
fits (Element event (Place.Object o)) label flags kind = kind == 1
fits (Element event (Place.Attribute a)) label flags kind = kind == 2
fits (Element event (Place.ObjectAttribute o a)) label flags kind = kind == 2
fits (Reference event object target uuid) label flags kind = kind == 3
fits (Proposal event name) label flags kind = kind == 4
fits (Verdict event name at judge) label flags kind = kind == 5
fits (Sighting event target at by uuid) label flags kind = kind == 6

-- a proposal may ask to delete what is there, and so not a new attribute of the event
abbrev pub may_remove : KeyForm → Bool
may_remove (Proposal event name) = not (place_kind name.target == 0)
may_remove key = true

abbrev pub IsContentOf : KeyForm → ℕ → Bool × Bool → Content → Type 0
IsContentOf key label flags content =
    (fits key label flags (content_kind content) ≡ true) × IsContent (may_remove key) content

abbrev pub IsRow : RowFields → Type 0
IsRow r =
    IsUid r.owner.0
    × (IsKey r.key
    × (IsStamp r.stamp
    × (IsLabelBut (barred_labels r.key) r.label
    × (Unit {0}
    × IsContentOf r.key (label_kind r.label) (r.held, r.carried) r.content))))

-- each of these is a row
abbrev pub AreRows : List RowFields → Type 0
AreRows [] = Unit {0}
AreRows (r ∷ rs) = IsRow r × AreRows rs
