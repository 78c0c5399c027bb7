-- The elements of a body that were read so far, in reading order.
use Rattle.std.specs.Prelude.{ℕ, ◌+◌, List, [], ◌∷◌, ◌++◌, length}
use Rattle.misp_elem.specs.Draft.{DraftFields, ReferenceDraftFields}

-- the place of the first element, and both kinds of elements
pub record Gathered : Type 0 where
  pub first : ℕ
  pub parts : List DraftFields
  pub references : List ReferenceDraftFields

-- before the first element, which has this place
abbrev pub none_from : ℕ → Gathered
none_from first = record { first = first; parts = []; references = [] }

-- the place of the next element: each before it has a place of its own
abbrev pub place : Gathered → ℕ
place g = g.first + length g.parts + length g.references

abbrev pub with_part : Gathered → DraftFields → Gathered
with_part g part =
    record { first = g.first; parts = g.parts ++ part ∷ []; references = g.references }

abbrev pub with_reference : Gathered → ReferenceDraftFields → Gathered
with_reference g reference =
    record { first = g.first; parts = g.parts; references = g.references ++ reference ∷ [] }
