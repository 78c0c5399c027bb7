-- Uuids of which none stands twice.
use Rattle.std.proofs.Common.{◌≡◌, ◌↔◌, ◌++◌, ℕ, Bool, true, false, List, [], ◌∷◌, None, eqb, ltb, refl, arith, IsSorted, nat_cmp}
use Rattle.std.specs.List.{IsAllAdjacentAnswer}
use Rattle.std.specs.List.Sorted.{IsPermutation, IsStrictlyIncreasing}
use Rattle.std.specs.Ordering.{eq_by_cmp}
use Rattle.std.proofs.lemmas.List.Sorted.{IsNonDecreasingBy-from_sort, IsPermutation-middle, IsPermutation-sym}
use Rattle.std.proofs.lemmas.Map.Keys.{IsDistinct-IsPermutation, IsDistinct-from_sorted, IsStrictlyIncreasing-from_distinct, sorted_from_strictly_increasing}
use Rattle.misp_lists.proofs.Prelude.{AllByRecursion, IsDistinct, false≢true, nat_tests}
use Rattle.misp_lists.proofs.Distinct.{distinct_weaker}
use Rattle.misp_edit.specs.Uuids.{clash_in, is_among}

turned : (m n : ℕ) → eqb m n ≡ eqb n m
turned m n = grind (arith, nat_tests)

rising : (us : List ℕ) → IsStrictlyIncreasing us → IsDistinct eqb us
rising us up = distinct_weaker eqb (eq_by_cmp nat_cmp) (λ m n apart. grind (arith, nat_tests)) us (IsDistinct-from_sorted nat_cmp us (sorted_from_strictly_increasing us up))

-- none stands twice where, once they are sorted, each is below the next
pub differ_where : (us sorted : List ℕ) (r : Bool) → IsPermutation us sorted → IsSorted nat_cmp sorted → IsAllAdjacentAnswer (λ m n b. b ≡ ltb m n) sorted r →
    (r ≡ true) ↔ IsDistinct eqb us
differ_where us sorted true moved up h =
    (λ _. IsDistinct-IsPermutation eqb turned sorted us (IsPermutation-sym us sorted moved) (rising sorted (λ k l. let below = h k 0 l in grind (arith, nat_tests))), λ _. refl)
differ_where us sorted false moved up h = (
  λ e. absurd (false≢true e),
  λ apart. absurd (let above = h.2 0 in let below = IsStrictlyIncreasing-from_distinct sorted (IsNonDecreasingBy-from_sort (λ n. n) sorted up) (IsDistinct-IsPermutation eqb turned us sorted moved apart) h.0 h.1 in grind (arith, nat_tests)),
)

not_among : (u : ℕ) (used us : List ℕ) → AllByRecursion (λ v. eqb u v ≡ false) (used ++ us) → is_among used u ≡ false
not_among u [] us apart = refl
not_among u (v ∷ used) us apart = rw (turned v u, apart.0) (not_among u used us apart.1)

-- where none of the used ones and those of a body stands twice, there is no clash
pub no_clash : (used us : List ℕ) → IsDistinct eqb (used ++ us) → clash_in (is_among used) us ≡ None
unfolding clash_in IsDistinct
no_clash used [] apart = refl
no_clash used (u ∷ us) apart =
    let moved = IsDistinct-IsPermutation eqb turned (used ++ u ∷ us) (u ∷ (used ++ us)) (IsPermutation-middle used u us) apart in
    rw (not_among u used us moved.0) (no_clash (u ∷ used) us moved)
