-- The names in the range of given bytes are exactly those that begin with them.
use Rattle.std.proofs.Common.{◌≡◌, ◌<◌, ◌≤◌, ◌+◌, ℕ, Bool, true, false, List, [], ◌∷◌, refl, sym, subst, arith, eq-eqb, nat_eq, Option, Some, None, Ordering, is_lt, nat_cmp}
use Rattle.std.specs.Prelude.{if◌then◌else◌, nat_lt}
use Rattle.std.specs.List.{starts_with}
use Rattle.std.specs.Ordering.{is_ge}
use Rattle.misp_lists.proofs.Prelude.{and_from, and_parts, nat_tests, ordering_then, slice_cmp}
use Rattle.misp_lists.proofs.Lists.{alike, none_not_some, some_same}
use Rattle.misp_sqlite.specs.Ranges.{after_first, bytes_after, AreBytes, IsRangeOf}
use Rattle.misp_sqlite.proofs.Ranges.{begins_before, begins_from}

-- where first bytes bound each other, they are the same, and what follows them decides
record Same (x y : ℕ) (o : Ordering) : Type 0 where
  first : x ≡ y
  rest : is_ge o ≡ true

same_first : (x y : ℕ) (o : Ordering) → y ≤ x → is_ge (ordering_then (nat_cmp y x) o) ≡ true → Same x y o
same_first x y o low from = record {
  first = grind (arith, nat_tests);
  rest = grind (arith, nat_tests);
}

-- one that is before another by its first byte or by what follows
low_first : (x y : ℕ) (o : Ordering) → is_lt (ordering_then (nat_cmp y x) o) ≡ true → y ≤ x
low_first x y o before = grind (arith, nat_tests)

less_rest : (x y : ℕ) (o : Ordering) → x ≡ y → is_lt (ordering_then (nat_cmp y x) o) ≡ true → is_lt o ≡ true
less_rest x y o same before = grind (arith, nat_tests)

-- one that is before the next byte alone
before_next : (x y : ℕ) (name : List ℕ) → is_lt (slice_cmp nat_cmp (y ∷ name) ((x + 1) ∷ [])) ≡ true → y ≤ x
before_next x y [] before = grind (arith, nat_tests)
before_next x y (z ∷ name) before = grind (arith, nat_tests)

begun : (x y : ℕ) (front name : List ℕ) → x ≡ y → starts_with nat_eq name front ≡ true → starts_with nat_eq (y ∷ name) (x ∷ front) ≡ true
begun x y front name same rest = and_from _ _ (eq-eqb x y same) rest

-- where nothing is after a byte and others, nothing is after these, and the byte is 255
record AllGreatest (x : ℕ) (rest : Option (List ℕ)) : Type 0 where
  first : 255 ≤ x
  none : rest ≡ None

all_greatest : (x : ℕ) (rest : Option (List ℕ)) → after_first x rest ≡ None → AllGreatest x rest
all_greatest x (Some more) is = absurd (none_not_some (sym is))
all_greatest x None is = record { first = alone (nat_lt x 255) refl is; none = refl }
  where
    alone : (low : Bool) → nat_lt x 255 ≡ low → (if low then Some ((x + 1) ∷ []) else None) ≡ None → 255 ≤ x
    alone true low is = absurd (none_not_some (sym is))
    alone false low is = grind (arith, nat_tests)

-- bytes that are not before others, after which nothing is, begin with them
begins_greatest : (front name : List ℕ) → AreBytes name → bytes_after front ≡ None → is_ge (slice_cmp nat_cmp name front) ≡ true → starts_with nat_eq name front ≡ true
unfolding bytes_after
begins_greatest [] name bytes none from = refl
begins_greatest (x ∷ front) [] bytes none from = absurd cc
begins_greatest (x ∷ front) (y ∷ name) bytes none from =
    let all = all_greatest x (bytes_after front) none in
    let same = same_first x y (slice_cmp nat_cmp name front) (at_most x y bytes.0 all.first) from in
    begun x y front name same.first (begins_greatest front name bytes.1 all.none same.rest)
  where
    at_most : (x y : ℕ) → y < 256 → 255 ≤ x → y ≤ x
    at_most x y byte great = omega arith

between_rest : (x y : ℕ) (front name after : List ℕ) (rest : Option (List ℕ)) → bytes_after front ≡ rest → AreBytes (y ∷ name)
    → ((more : List ℕ) → bytes_after front ≡ Some more → is_ge (slice_cmp nat_cmp name front) ≡ true → is_lt (slice_cmp nat_cmp name more) ≡ true → starts_with nat_eq name front ≡ true)
    → after_first x rest ≡ Some after → is_ge (slice_cmp nat_cmp (y ∷ name) (x ∷ front)) ≡ true → is_lt (slice_cmp nat_cmp (y ∷ name) after) ≡ true
    → starts_with nat_eq (y ∷ name) (x ∷ front) ≡ true
between_rest x y front name after (Some more) known bytes on is from before =
    let less = subst (λ all. is_lt (slice_cmp nat_cmp (y ∷ name) all) ≡ true) (sym (some_same _ _ is)) before in
    let same = same_first x y (slice_cmp nat_cmp name front) (low_first x y (slice_cmp nat_cmp name more) less) from in
    begun x y front name same.first (on more known same.rest (less_rest x y (slice_cmp nat_cmp name more) same.first less))
between_rest x y front name after None known bytes on is from before = alone (nat_lt x 255) is
  where
    alone : (low : Bool) → (if low then Some ((x + 1) ∷ []) else None) ≡ Some after → starts_with nat_eq (y ∷ name) (x ∷ front) ≡ true
    alone true is =
        let less = subst (λ all. is_lt (slice_cmp nat_cmp (y ∷ name) all) ≡ true) (sym (some_same _ _ is)) before in
        let same = same_first x y (slice_cmp nat_cmp name front) (before_next x y name less) from in
        begun x y front name same.first (begins_greatest front name bytes.1 known same.rest)
    alone false is = absurd (none_not_some is)

-- bytes between others and those after them begin with them
begins_within : (front after name : List ℕ) → AreBytes name → bytes_after front ≡ Some after
    → is_ge (slice_cmp nat_cmp name front) ≡ true → is_lt (slice_cmp nat_cmp name after) ≡ true → starts_with nat_eq name front ≡ true
unfolding bytes_after
begins_within [] after name bytes is from before = absurd (none_not_some is)
begins_within (x ∷ front) after [] bytes is from before = absurd cc
begins_within (x ∷ front) after (y ∷ name) bytes is from before =
    between_rest x y front name after (bytes_after front) refl bytes (λ more e low high. begins_within front more name bytes.1 e low high) is from before

pub range_of : (front after : List ℕ) → bytes_after front ≡ Some after → IsRangeOf front after
range_of front after is name bytes = alike _ _
    (λ h. let both = and_parts (is_ge (slice_cmp nat_cmp name front)) (is_lt (slice_cmp nat_cmp name after)) h in begins_within front after name bytes is both.0 both.1)
    (λ h. and_from _ _ (begins_from front name h) (begins_before front after name is h))
