-- The order of rows in a list.
use Rattle.std.specs.Prelude.{ℕ, Bool, List, [], ◌∷◌, ◌++◌, Option, Some, None}
use Rattle.misp_model.specs.Prelude.{Element, Inst, Key, OrgId, Proposal, Reference, Row, Sighting, Verdict, is_less, spell, uuid_at}

-- the number of its kind: elements and references, proposals, verdicts, sightings
unfoldable pub class_of : Key → ℕ
class_of (Element e p) = 0
class_of (Reference e x t u) = 0
class_of (Proposal e n) = 1
class_of (Verdict e n i o) = 2
class_of (Sighting e t i o u) = 3

-- the number of what it names
unfoldable pub uuid_of : Key → ℕ
uuid_of (Element e p) = uuid_at e p
uuid_of (Reference e x t u) = u.0.0
uuid_of (Proposal e n) = n.uuid.0.0
uuid_of (Verdict e n i o) = n.uuid.0.0
uuid_of (Sighting e t i o u) = u.0.0

-- where and by whom a proposal or a sighting was made
unfoldable pub origin_of : Key → Option (Inst × OrgId)
origin_of (Element e p) = None
origin_of (Reference e x t u) = None
origin_of (Proposal e n) = Some (n.at, n.by)
origin_of (Verdict e n i o) = None
origin_of (Sighting e t i o u) = Some (i, o)

-- the instance as a text, which 0 ends, and the organisation
abbrev pub origin_text : Inst × OrgId → List ℕ
origin_text m = m.0 ++ 0 ∷ m.1.0.0 ∷ []

-- what tells apart those of one kind and one number: its origin, or its key
unfoldable pub rest_of : Key → List ℕ
rest_of (Element e p) = spell (Element e p)
rest_of (Reference e x t u) = spell (Reference e x t u)
rest_of (Proposal e n) = origin_text (n.at, n.by)
rest_of (Verdict e n i o) = spell (Verdict e n i o)
rest_of (Sighting e t i o u) = origin_text (i, o)

-- one row goes before another: by kind, by number, and by the rest
unfoldable pub goes_before : Row → Row → Bool
goes_before a b =
    is_less (class_of a.key ∷ uuid_of a.key ∷ rest_of a.key)
    (class_of b.key ∷ uuid_of b.key ∷ rest_of b.key)
