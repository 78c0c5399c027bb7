-- What a binary search finds in a list that ascends.
use Rattle.std.proofs.Common.{◌≡◌, ℕ, zero, suc, ◌+◌, ◌<◌, ◌≤◌, Bool, true, false, ◌&&◌, List, [], ◌∷◌, length, take, drop, get_or, find, is_some, Option, option_map, Some, None, Result, Ok, Err, refl, sym, ap, ◌∙◌, inl, inr, arith}
use Rattle.std.proofs.Common.{Ordering, Less, Equal, Greater, is_lt, is_eq, IsSortedBy, MatchResult}
use Rattle.std.specs.Cmp.{Equal-is}
use Rattle.std.specs.List.Sorted.{IsSearchInRange, IsBinarySearchResult}
use Rattle.std.proofs.lemmas.Bool.{cases_Bool}
use Rattle.std.proofs.Math.Bool.{or-false}
use Rattle.std.proofs.lemmas.Cmp.{alike_right}
use Rattle.std.proofs.lemmas.List.Sorted.{searchable_from_sorted}
use Rattle.misp_lists.specs.Prelude.{AllByRecursion, IsStrictlySortedBy, IsTotalOrder, list_any, option_map_or, ordering_reverse}
use Rattle.misp_lists.proofs.All.{all_at, all_front, all_back, all_implied}
use Rattle.misp_lists.proofs.Lists.{any_found}

-- some item passes exactly where there is what stands for the one that is found
pub any_from_find : {A B : Type 0} (test : A → Bool) (view : B → A) (xs : List A) (found : Option B) → option_map view found ≡ find test xs → is_some found ≡ list_any test xs
any_from_find test view xs None is = ap is_some is ∙ sym (any_found test xs)
any_from_find test view xs (Some b) is = ap is_some is ∙ sym (any_found test xs)

module _ {A K : Type 0} (key : A → K) (order : K → K → Ordering) (total : IsTotalOrder order) where
  -- by the key
  abbrev pub by : A → A → Ordering
  by a b = order (key a) (key b)

  -- of two items of an ascending list the first is less
  ascend_at : (xs : List A) (i j : ℕ) (d : A) → i < j → j < length xs → IsStrictlySortedBy by xs → by (get_or xs i d) (get_or xs j d) ≡ Less
  unfolding IsStrictlySortedBy
  ascend_at [] i j d less below up = absurd (omega arith)
  ascend_at (x ∷ xs) i zero d less below up = absurd (omega arith)
  ascend_at (x ∷ xs) zero (suc j) d less below up = all_at (λ y. by x y ≡ Less) xs j d (omega arith) up.0
  ascend_at (x ∷ xs) (suc i) (suc j) d less below up = ascend_at xs i j d (omega arith) (omega arith) up.1

  sorted_from_ascending : (xs : List A) → IsStrictlySortedBy by xs → IsSortedBy (λ a b. is_lt (by a b)) xs
  sorted_from_ascending xs up k d low high =
      ap is_lt (total.antisymm (key (get_or xs (k + 1) d)) (key (get_or xs k d)) ∙ ap ordering_reverse (ascend_at xs k (k + 1) d (omega arith) high up))

  -- where a search ends at no item, those before its end are less than what is sought, and those
  -- from it on are greater
  pub parted : (xs : List A) (x : K) (gap : ℕ) → IsStrictlySortedBy by xs → gap ≤ length xs → IsBinarySearchResult (λ y. order (key y) x) xs (Err gap)
      → AllByRecursion (λ y. order (key y) x ≡ Less) (take gap xs) × AllByRecursion (λ y. order x (key y) ≡ Less) (drop gap xs)
  parted xs x gap up within is =
      let parts = is (searchable_from_sorted total key xs x (sorted_from_ascending xs up)) in (
        all_front (λ y. order (key y) x ≡ Less) xs gap within parts.0,
        all_implied (λ y. order (key y) x ≡ Greater) (λ y. order x (key y) ≡ Less) (λ y h. total.antisymm x (key y) ∙ ap ordering_reverse h) (drop gap xs) (all_back (λ y. order (key y) x ≡ Greater) xs gap parts.1),
      )

  module _ (x : K) (test : A → Bool) (agrees : (y : A) → is_eq (order (key y) x) ≡ test y) where
    hits : (y : A) → order (key y) x ≡ Equal → test y ≡ true
    hits y is = sym (agrees y) ∙ ap is_eq is

    misses_less : (y : A) → order (key y) x ≡ Less → test y ≡ false
    misses_less y is = sym (agrees y) ∙ ap is_eq is

    misses_greater : (y : A) → order x (key y) ≡ Less → test y ≡ false
    misses_greater y is = sym (agrees y) ∙ ap is_eq (total.antisymm (key y) x ∙ ap ordering_reverse is)

    -- the item whose key is sought is the first that passes
    pub found_at : (xs : List A) (at : ℕ) (d : A) → at < length xs → IsStrictlySortedBy by xs → order (key (get_or xs at d)) x ≡ Equal → find test xs ≡ Some (get_or xs at d)
    unfolding IsStrictlySortedBy
    found_at [] at d below up is = absurd (omega arith)
    found_at (y ∷ ys) zero d below up is = rw (hits y is) refl
    found_at (y ∷ ys) (suc at) d below up is =
        let z : A = get_or ys at d in
        let less : order (key y) (key z) ≡ Less = all_at (λ w. by y w ≡ Less) ys at d (omega arith) up.0 in
        rw (misses_less y (sym (alike_right total (key z) x (key y) is) ∙ less)) (found_at ys at d (omega arith) up.1 is)

    none_greater : (xs : List A) → AllByRecursion (λ y. order x (key y) ≡ Less) xs → find test xs ≡ None
    none_greater [] all = refl
    none_greater (y ∷ ys) all = rw (misses_greater y all.0) (none_greater ys all.1)

    -- none passes where some are less and the others greater
    pub none_at : (xs : List A) (gap : ℕ) → AllByRecursion (λ y. order (key y) x ≡ Less) (take gap xs) → AllByRecursion (λ y. order x (key y) ≡ Less) (drop gap xs) → find test xs ≡ None
    none_at xs zero before after = none_greater xs after
    none_at [] (suc gap) before after = refl
    none_at (y ∷ ys) (suc gap) before after = rw (misses_less y before.0) (none_at ys gap before.1 after)

    -- where the search ends at an item, it is the first that passes, and else there is none
    pub searched : (xs : List A) (r : Result ℕ ℕ) → IsStrictlySortedBy by xs → IsSearchInRange r (length xs) → IsBinarySearchResult (λ y. order (key y) x) xs r
        → MatchResult r (λ i. (d : A) → find test xs ≡ Some (get_or xs i d)) (λ i. find test xs ≡ None)
    searched xs (Ok i) up below equal = λ d. found_at xs i d below up (equal d)
    searched xs (Err i) up within is = let parts = parted xs x i up within is in none_at xs i parts.0 parts.1

    none_behind : (also : A → Bool) (y : A) (ys : List A) → order (key y) x ≡ Equal → AllByRecursion (λ z. by y z ≡ Less) ys → list_any (λ z. test z && also z) ys ≡ false
    none_behind also y [] is all = refl
    none_behind also y (z ∷ ys) is all = rw (misses_greater z (sym (total.congr (key y) x (key z) is) ∙ all.0)) (none_behind also y ys is all.1)

    -- one item at most passes, so some item passes another test too exactly where that one does
    pub any_of_one : (also : A → Bool) (xs : List A) → IsStrictlySortedBy by xs → list_any (λ y. test y && also y) xs ≡ option_map_or also (find test xs) false
    unfolding IsStrictlySortedBy
    any_of_one also [] up = refl
    any_of_one also (y ∷ ys) up = elim (cases_Bool (test y)) [
      | inl hit ↦ rw (hit, none_behind also y ys ((Equal-is (order (key y) x)).0 (agrees y ∙ hit)) up.0) (or-false (also y))
      | inr miss ↦ rw miss (any_of_one also ys up.1)
    ]
