-- What belongs to one object.
use Rattle.std.specs.Prelude.{◌≡◌, ℕ, eqb, List, map, filter}
use Rattle.std.specs.List.Sorted.{IsNonDecreasingBy}
use Rattle.misp_model.specs.Prelude.{Attribute, Bor, Element, Event, Key, Object, ObjectAttribute, Proposal, Reference, Row, Sighting, Verdict}

-- the number of the object that it is, or that it is in; else 0
unfoldable pub around : Key → ℕ
around (Element e (Object x)) = x.0.0
around (Element e (ObjectAttribute x a)) = x.0.0
around (Element e Event) = 0
around (Element e (Attribute a)) = 0
around (Reference e x t u) = x.0.0
around (Proposal e n) = 0
around (Verdict e n i o) = 0
around (Sighting e t i o u) = 0

-- the numbers of the objects do not fall
abbrev pub Rises : List (Bor Row) → Type 0
Rises list = IsNonDecreasingBy (λ r. around r.now.key) list

-- the list has the rows by their objects, those of one object in the order in which they stood
pub record IsByObject (list rows : List (Bor Row)) : Type 0 where
  pub rises : Rises list
  pub same : (g : ℕ) → filter (λ r. eqb g (around r.key)) (map (λ r. r.now) list)
      ≡ filter (λ r. eqb g (around r.key)) (map (λ r. r.now) rows)
