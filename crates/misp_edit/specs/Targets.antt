-- What references can name, without a scene.
use Rattle.std.specs.Prelude.{◌≡◌, ℕ, Bool, false, not, cond, ◌&&◌, List, [], ◌∷◌, ◌++◌, map, Option, Some, None, true, IfSome, find, filter_map}
use Rattle.std.specs.BTreeMap.{BTreeMap}
use Rattle.misp_model.specs.Prelude.{Draft, Element, ElemId, EventId, Key, OrgId, Place, Proposal, Reference, Row, Sighting, Verdict, event_of, is_deleted, is_live, is_place_of, nat_cmp, same_event}
use Rattle.misp_model.specs.Prelude.{same_org}
use Rattle.misp_model.specs.Adding.{place_in}
use Rattle.std.specs.BTreeMap as tree

-- the place of an element
unfoldable pub element_place : Key → Option Place
element_place (Element e p) = Some p
element_place (Reference e x t u) = None
element_place (Proposal e n) = None
element_place (Verdict e n i o) = None
element_place (Sighting e t i o u) = None

-- the place of a live element of the owner's copy of the event
unfoldable pub live_place : List Row → OrgId → EventId → Row → Option Place
live_place rows w e row =
    cond (same_org row.owner w && (same_event (event_of row.key) e && is_live rows row))
    (element_place row.key) None

-- the places that a reference can name: those of the parts, and those of the live elements
-- of the owner's copy
unfoldable pub target_places : List Row → OrgId → EventId → List Draft → List Place
target_places rows w e parts = map (λ d. d.place) parts ++ filter_map (live_place rows w e) rows

-- one place more, where none was found
unfoldable pub or_place : ElemId → Place → Option Place → Option Place
or_place u p None = find (is_place_of u) (p ∷ [])
or_place u p (Some q) = Some q

-- what a map by uuids has of this uuid
abbrev pub target_in : BTreeMap ℕ Place → ElemId → Option Place
target_in targets u = tree.get nat_cmp targets u.0.0

-- each place that it has is of its uuid
abbrev pub AreOfTheirUuids : BTreeMap ℕ Place → Type 0
AreOfTheirUuids targets =
    (u : ElemId) → IfSome (target_in targets u) (λ place. is_place_of u place ≡ true)

-- of each uuid it has the first of these places
abbrev pub AreTargets : BTreeMap ℕ Place → List Place → Type 0
AreTargets targets places = (u : ElemId) → target_in targets u ≡ find (is_place_of u) places

-- an attribute of an object that a set has
unfoldable pub is_under : (ℕ → Bool) → Place → Bool
is_under deleted Place.Event = false
is_under deleted (Place.Object x) = false
is_under deleted (Place.Attribute a) = false
is_under deleted (Place.ObjectAttribute x a) = deleted x.0.0

-- the place of an element of the owner's copy, where neither it nor its object is deleted,
-- of which a set has the deleted ones
unfoldable pub kept_place : (ℕ → Bool) → OrgId → EventId → Row → Option Place
kept_place deleted w e row =
    cond (same_org row.owner w && (same_event (event_of row.key) e
    && (not (is_deleted row) && not (is_under deleted (place_in row.key)))))
    (element_place row.key) None
