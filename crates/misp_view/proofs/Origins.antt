-- The order of rows in a list.
use Rattle.std.proofs.Common.{◌≡◌, ℕ, zero, suc, ◌<◌, Bool, true, false, refl, ap, sym, ◌∙◌, arith, List, [], ◌∷◌, ◌++◌, eqb, Bor, ◌||◌, Option, Some, None, Ordering, Less, Equal, Greater, nat_cmp, is_lt}
use Rattle.std.specs.Cmp.{IsStrictWeakOrder}
use Rattle.misp_ids.specs.Names.{is_name_byte, is_inst_name}
use Rattle.misp_lists.proofs.Orders.{less_weak, then_assoc, less, greater}
use Rattle.misp_elem.specs.Key.{IsKey}
use Rattle.misp_model.proofs.Prelude.{Element, Inst, Key, OrgId, Proposal, Reference, Row, Sighting, Verdict, and_parts, false≢true, is_less, less_is, list_all, ordering_then, slice_cmp, spell}
use Rattle.misp_model.proofs.NameOrder.{keys_in_bytes}
use Rattle.misp_view.specs.Order.{class_of, origin_of, origin_text, rest_of, goes_before}
use Rattle.misp_elem.specs.Spelling as spelling

-- no byte of a name is 0
name_byte : (b : ℕ) → is_name_byte b ≡ true → 0 < b
name_byte zero h = absurd (false≢true h)
name_byte (suc b) h = omega arith

inst_name : (i : Inst) → is_inst_name i ≡ true → list_all is_name_byte i ≡ true
inst_name [] h = refl
inst_name (b ∷ i) h = grind (arith, and_parts)

-- names that 0 ends
names_cmp : (i j x y : List ℕ) → list_all is_name_byte i ≡ true → list_all is_name_byte j ≡ true →
    slice_cmp nat_cmp (i ++ 0 ∷ x) (j ++ 0 ∷ y) ≡ ordering_then (slice_cmp nat_cmp i j) (slice_cmp nat_cmp x y)
names_cmp [] [] x y h k = refl
names_cmp [] (b ∷ j) x y h k = ap (λ o. ordering_then o (slice_cmp nat_cmp x (j ++ 0 ∷ y))) (less 0 b (name_byte b (and_parts _ _ k).0))
names_cmp (a ∷ i) [] x y h k = ap (λ o. ordering_then o (slice_cmp nat_cmp (i ++ 0 ∷ x) y)) (greater a 0 (name_byte a (and_parts _ _ h).0))
names_cmp (a ∷ i) (b ∷ j) x y h k =
    ap (ordering_then (nat_cmp a b)) (names_cmp i j x y (and_parts _ _ h).1 (and_parts _ _ k).1)
    ∙ then_assoc (nat_cmp a b) (slice_cmp nat_cmp i j) (slice_cmp nat_cmp x y)

pub origins_cmp : (a b : Inst × OrgId) (o : Ordering) → is_inst_name a.0 ≡ true → is_inst_name b.0 ≡ true → o ≡ slice_cmp nat_cmp a.0 b.0 →
    is_less (origin_text a) (origin_text b) ≡ is_lt (ordering_then o (nat_cmp a.1.0.0 b.1.0.0))
origins_cmp a b o h k e =
    less_is (origin_text a) (origin_text b)
    ∙ ap is_lt (names_cmp a.0 b.0 (a.1.0.0 ∷ []) (b.1.0.0 ∷ []) (inst_name a.0 h) (inst_name b.0 k))
    ∙ ap (λ p. is_lt (ordering_then p (ordering_then (nat_cmp a.1.0.0 b.1.0.0) Equal))) (sym e)
    ∙ ap (λ p. is_lt (ordering_then o p)) (ends (nat_cmp a.1.0.0 b.1.0.0))
  where
    ends : (p : Ordering) → ordering_then p Equal ≡ p
    ends Less = refl
    ends Equal = refl
    ends Greater = refl

-- those of one kind have an origin, or have none
has_origin : ℕ → Bool
has_origin c = eqb c 1 || eqb c 3

of_origin : (k : Key) (m : Inst × OrgId) → origin_of k ≡ Some m → (has_origin (class_of k) ≡ true) × (rest_of k ≡ origin_text m)
unfolding has_origin class_of origin_of rest_of
of_origin (Element e p) m h = grind arith
of_origin (Reference e x t u) m h = grind arith
of_origin (Proposal e n) m h = let same : (n.at, n.by) ≡ m = cc in (refl, ap origin_text same)
of_origin (Verdict e n i o) m h = grind arith
of_origin (Sighting e t i o u) m h = let same : (i, o) ≡ m = cc in (refl, ap origin_text same)

of_none : (k : Key) → origin_of k ≡ None → (has_origin (class_of k) ≡ false) × (rest_of k ≡ spell k)
unfolding has_origin class_of origin_of rest_of
of_none (Element e p) h = (refl, refl)
of_none (Reference e x t u) h = (refl, refl)
of_none (Proposal e n) h = grind arith
of_none (Verdict e n i o) h = (refl, refl)
of_none (Sighting e t i o u) h = grind arith

apart : (a b : Key) (m : Inst × OrgId) → origin_of a ≡ Some m → origin_of b ≡ None → class_of a ≡ class_of b → ⊥
apart a b m h k e = false≢true (sym (of_none b k).0 ∙ ap has_origin (sym e) ∙ (of_origin a m h).0)

-- the rest, where both have an origin; where one has, and where none has
pub both_told : (a b : Key) (m n : Inst × OrgId) (r : Bool) → origin_of a ≡ Some m → origin_of b ≡ Some n → r ≡ is_less (origin_text m) (origin_text n) →
    class_of a ≡ class_of b → r ≡ is_less (rest_of a) (rest_of b)
both_told a b m n r h k e c = rw ((of_origin a m h).1, (of_origin b n k).1) e

pub one_told : (a b : Key) (m : Inst × OrgId) (r : Bool) → origin_of a ≡ Some m → origin_of b ≡ None → class_of a ≡ class_of b → r ≡ is_less (rest_of a) (rest_of b)
one_told a b m r h k c = absurd (apart a b m h k c)

pub none_told : (a b : Key) (r : Bool) → IsKey a → IsKey b → origin_of a ≡ None → r ≡ is_lt (slice_cmp nat_cmp (spelling.key a) (spelling.key b)) →
    class_of a ≡ class_of b → r ≡ is_less (rest_of a) (rest_of b)
none_told a b r f g h e c = e ∙ sym (keys_in_bytes a b f g) ∙ one (origin_of b) refl
  where
    one : (o : Option (Inst × OrgId)) → origin_of b ≡ o → is_less (spell a) (spell b) ≡ is_less (rest_of a) (rest_of b)
    one None k = rw ((of_none a h).1, (of_none b k).1) refl
    one (Some m) k = absurd (apart b a m k h (sym c))

-- ---- the order of rows

pub goes_weak : IsStrictWeakOrder goes_before
unfolding goes_before
goes_weak = record { one_way = λ a b h. less_weak.one_way _ _ h; chain = λ a b c h k. less_weak.chain _ _ _ h k }

-- the same after references
pub goes_behind : IsStrictWeakOrder {X = Bor Row} (λ a b. goes_before a.now b.now)
goes_behind = record { one_way = λ a b h. goes_weak.one_way a.now b.now h; chain = λ a b c h k. goes_weak.chain a.now b.now c.now h k }
