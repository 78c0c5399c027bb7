-- Edits, each given part of which is such as a row may have.
use Rattle.std.specs.Prelude.{◌≡◌, ℕ, ◌+◌, nat_le, true, List, [], ◌∷◌, length, Option, Some, None}
use Rattle.misp_elem.specs.Fields.{IsText, IsDate, IsBetween, IsValue, IsOptionalUid, IsOptionalMoment, earliest, text_limit}
use Rattle.misp_elem.specs.Row.{IsLabel, IsLabelBut}
use Rattle.misp_model.specs.declared.edit.EventEditFields.{EventEditFields}
use Rattle.misp_model.specs.declared.edit.AttributeEditFields.{AttributeEditFields}
use Rattle.misp_model.specs.declared.edit.ObjectEditFields.{ObjectEditFields}
use Rattle.misp_model.specs.declared.edit.Seen.{Seen}

-- what is given is so
abbrev pub IsGiven : {A : Type 0} → (A → Type 0) → Option A → Type 0
IsGiven P None = Unit {0}
IsGiven P (Some x) = P x

-- the bytes of a text that is given
abbrev pub given_size : Option (List ℕ) → ℕ
given_size None = 0
given_size (Some text) = length text

-- the bytes of a type and a value that are given
abbrev pub pair_size : Option (List ℕ × List ℕ) → ℕ
pair_size None = 0
pair_size (Some p) = length p.0 + length p.1

-- no more bytes together than one element may have
abbrev pub IsWithin : ℕ → Type 0
IsWithin size = nat_le size text_limit ≡ true

-- a type and a value of it
abbrev pub IsKindValue : List ℕ × List ℕ → Type 0
IsKindValue p = IsText 1 100 p.0 × IsValue text_limit p.0 p.1

-- two moments, of which the last is not before the first
abbrev pub IsSeen : Seen → Type 0
IsSeen s = IsOptionalMoment 0 s.first × IsOptionalMoment (earliest s.first) s.last

-- no label of an event inherits
abbrev pub IsEventEdit : EventEditFields → Type 0
IsEventEdit e =
    IsGiven (IsLabelBut (5 ∷ [])) e.label
    × (IsGiven (IsText 1 text_limit) e.info
    × (IsGiven IsDate e.date
    × (IsGiven (IsBetween 1 4) e.threat_level_id
    × (IsGiven (IsBetween 0 2) e.analysis
    × IsGiven IsOptionalUid e.extends_uuid))))

-- the texts that are given fit one by one, and together
abbrev pub IsAttributeEdit : AttributeEditFields → Type 0
IsAttributeEdit e =
    IsGiven IsLabel e.label
    × (IsGiven (IsBetween 0 15) e.category
    × (IsGiven (IsText 0 text_limit) e.comment
    × (IsGiven IsKindValue e.kind_value
    × (IsGiven IsSeen e.seen
    × IsWithin (given_size e.comment + pair_size e.kind_value)))))

abbrev pub IsObjectEdit : ObjectEditFields → Type 0
IsObjectEdit e =
    IsGiven IsLabel e.label
    × (IsGiven (IsText 0 text_limit) e.comment
    × (IsGiven (IsText 0 text_limit) e.description
    × IsWithin (given_size e.comment + given_size e.description)))
