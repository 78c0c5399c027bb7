-- A set of elements after one more.
use Rattle.std.proofs.Common.{◌≡◌, ℕ, true, false, refl, ap, ◌∙◌, eqb, arith, cond, ◌&&◌, ◌||◌, is_eq, BTreeSet}
use Rattle.std.specs.BTreeSet.{IsEmpty}
use Rattle.std.specs.BTreeMap.{is_at}
use Rattle.misp_elem.specs.Key.{place_kind}
use Rattle.misp_model.proofs.Prelude.{Attribute, Event, EventId, Object, ObjectAttribute, OrgId, Place, contains, list_any, nat_tests, same_elem, same_event}
use Rattle.misp_model.proofs.Prelude.{same_org, same_place}
use Rattle.misp_copies.specs.ElementSet.{Numbers, first_of, second_of, numbers_cmp, has_element}
use Rattle.misp_copies.proofs.Pairs.{with_test}

-- numbers are equal where all are
pub numbers_are : (a b c d e k l m n o : ℕ) → is_eq (numbers_cmp (a, b, c, d, e) (k, l, m, n, o)) ≡ (eqb a k && (eqb b l && (eqb c m && (eqb d n && eqb e o))))
numbers_are a b c d e k l m n o = grind (arith, nat_tests)

-- the numbers of a place tell it from others
pub place_is : (p q : Place) → (eqb (place_kind p) (place_kind q) && (eqb (first_of p) (first_of q) && eqb (second_of p) (second_of q))) ≡ same_place p q
unfolding same_place same_elem
place_is Event Event = refl
place_is (Object x) (Object y) = grind arith
place_is (Attribute x) (Attribute y) = grind arith
place_is (ObjectAttribute x a) (ObjectAttribute y b) = refl
place_is _ _ = refl

-- the set with one more
pub has_one_more : (old new : BTreeSet Numbers) (o w : OrgId) (f e : EventId) (q p : Place) (a b c : ℕ) → a ≡ place_kind q → b ≡ first_of q → c ≡ second_of q →
    contains numbers_cmp new (w.0.0, e.0.0, place_kind p, first_of p, second_of p)
    ≡ cond (is_at (numbers_cmp (o.0.0, f.0.0, a, b, c)) (w.0.0, e.0.0, place_kind p, first_of p, second_of p)) true (contains numbers_cmp old (w.0.0, e.0.0, place_kind p, first_of p, second_of p)) →
    has_element new w e p ≡ (has_element old w e p || same_org o w && (same_event f e && same_place q p))
unfolding has_element same_event same_org
has_one_more old new o w f e q p a b c x y z h =
    h
    ∙ with_test _ _ (eqb o.0.0 w.0.0 && (eqb f.0.0 e.0.0 && same_place q p))
    (numbers_are o.0.0 f.0.0 a b c w.0.0 e.0.0 (place_kind p) (first_of p) (second_of p)
    ∙ ap (λ t. eqb o.0.0 w.0.0 && (eqb f.0.0 e.0.0 && t)) (rw (x, y, z) (place_is q p)))

-- no element is in the empty set
pub none_has : (elements : BTreeSet Numbers) (w : OrgId) (e : EventId) (p : Place) → IsEmpty elements → has_element elements w e p ≡ false
unfolding has_element
none_has elements w e p h = ap (λ ks. list_any (is_at (numbers_cmp (w.0.0, e.0.0, place_kind p, first_of p, second_of p))) ks) h
