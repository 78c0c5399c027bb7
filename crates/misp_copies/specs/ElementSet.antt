-- Sets of elements, each with the owner of a copy that it is in.
use Rattle.std.specs.Prelude.{ℕ, Bool, false, not, cond}
use Rattle.misp_elem.specs.Key.{place_kind}
use Rattle.misp_model.specs.Prelude.{Attribute, BTreeSet, Element, Event, EventId, Key, Object, ObjectAttribute, Ordering, OrgId, Place, contains, nat_cmp, ordering_then}

-- an owner, an event and a place, as numbers
abbrev pub Numbers : Type 0
Numbers = ℕ × ℕ × ℕ × ℕ × ℕ

-- the numbers of a place beside that of its form: the element or the object around it, and an
-- attribute in an object
abbrev pub first_of : Place → ℕ
first_of Event = 0
first_of (Object x) = x.0.0
first_of (Attribute a) = a.0.0
first_of (ObjectAttribute x a) = x.0.0

abbrev pub second_of : Place → ℕ
second_of (ObjectAttribute x a) = a.0.0
second_of _ = 0

-- the order of them, by the first in which they differ
abbrev pub numbers_cmp : Numbers → Numbers → Ordering
numbers_cmp x y =
    ordering_then
    (ordering_then
    (ordering_then (ordering_then (nat_cmp x.0 y.0) (nat_cmp x.1 y.1)) (nat_cmp x.2 y.2))
    (nat_cmp x.3 y.3))
    (nat_cmp x.4 y.4)

-- the set has the place of the event, for the owner
unfoldable pub has_element : BTreeSet Numbers → OrgId → EventId → Place → Bool
has_element elements w e p =
    contains numbers_cmp elements (w.0.0, e.0.0, place_kind p, first_of p, second_of p)

-- the set has the element of the key, for the owner
unfoldable pub has_key : BTreeSet Numbers → OrgId → Key → Bool
has_key elements w (Element e p) = has_element elements w e p
has_key elements w _ = false

-- the element of the key is in the set, or is not
abbrev pub key_is : BTreeSet Numbers → OrgId → Bool → Key → Bool
key_is elements w there k = cond there (has_key elements w k) (not (has_key elements w k))
