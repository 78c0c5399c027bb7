-- Rows by what they are about.
use Rattle.std.proofs.Common.{◌≡◌, ◌-◌, ◌≤◌, ℕ, Bool, true, false, refl, ap, sym, ◌∙◌, List, length, take, drop, map, Bor, not, ◌&&◌, filter, Ordering, Less, Equal, Greater, is_lt, is_le, is_eq}
use Rattle.std.specs.List.Sorted.{IsNonDecreasingBy, IsPartitionPoint, IsPartitionedBy, IsStableBy, ties}
use Rattle.std.specs.Ordering.{ordering_index}
use Rattle.std.proofs.lemmas.Cmp.{nat_list_cmp_total}
use Rattle.std.proofs.lemmas.List.Sorted.{searchable_from_sorted, IsNonDecreasingBy-take, IsNonDecreasingBy-drop}
use Rattle.misp_model.proofs.Prelude.{Key, Row, filter-map, ordering_reverse, same_key, same_key-sound, spell}
use Rattle.misp_copies.specs.Keys.{key_cmp, target_of, is_about}
use Rattle.misp_copies.specs.StatementsByTarget.{AreByTarget, IsByTarget}
use Rattle.misp_copies.proofs.Cuts.{rises_below, rises_upto, cut_level, stable_test}
use Rattle.misp_copies.proofs.KeyOrder.{level_is, same_turned}

-- ---- after the sort

-- those that tie are about one key
abbrev pub goes_ahead : Bor Row → Bor Row → Bool
goes_ahead a b = is_lt (key_cmp (target_of a.now.key) (target_of b.now.key))

tie_is : (a b : Key) → (not (is_lt (key_cmp a b)) && not (is_lt (key_cmp b a))) ≡ same_key a b
tie_is a b = ap (λ o. not (is_lt (key_cmp a b)) && not (is_lt o)) (nat_list_cmp_total.antisymm (spell b) (spell a)) ∙ one (key_cmp a b) ∙ level_is a b
  where
    one : (o : Ordering) → (not (is_lt o) && not (is_lt (ordering_reverse o))) ≡ is_eq o
    one Less = refl
    one Equal = refl
    one Greater = refl

pub by_target : (xs ys : List (Bor Row)) → IsStableBy goes_ahead xs ys → IsByTarget (map (λ r. r.now) ys) (map (λ r. r.now) xs)
unfolding is_about
by_target xs ys s k =
    filter-map (λ (r : Bor Row). r.now) (λ (r : Row). is_about k r.key) ys
    ∙ ap (map (λ r. r.now)) (stable_test goes_ahead (λ (r : Bor Row). is_about k r.now.key) tie xs ys s)
    ∙ sym (filter-map (λ (r : Bor Row). r.now) (λ (r : Row). is_about k r.key) xs)
  where
    tie : (a b : Bor Row) → is_about k a.now.key ≡ true → ties goes_ahead a b ≡ is_about k b.now.key
    tie a b h = tie_is (target_of a.now.key) (target_of b.now.key) ∙ turned (target_of a.now.key) (target_of b.now.key) h
      where
        turned : (i j : Key) → same_key i k ≡ true → same_key i j ≡ same_key j k
        turned i j e = ap (λ q. same_key q j) (same_key-sound i k e) ∙ same_turned k j

-- ---- the part about one key

module _ (k : Key) (xs : List (Bor Row)) where
  abbrev pub stands : Row → Ordering
  stands r = key_cmp (target_of r.key) k

  rises : AreByTarget xs → IsNonDecreasingBy (λ (x : Bor Row). ordering_index (stands x.now)) xs
  rises sorted = searchable_from_sorted nat_list_cmp_total (λ (x : Bor Row). spell (target_of x.now.key)) xs (spell k) sorted

  pub below : AreByTarget xs → IsPartitionedBy (λ (x : Bor Row). is_lt (stands x.now)) xs
  below sorted = rises_below (λ (x : Bor Row). x.now) stands xs (rises sorted)

  pub upto : (low : ℕ) → AreByTarget xs → IsPartitionedBy (λ (x : Bor Row). is_le (stands x.now)) (take (length xs - low) (drop low xs))
  upto low sorted =
      rises_upto (λ (x : Bor Row). x.now) stands (take (length xs - low) (drop low xs))
      (IsNonDecreasingBy-take (λ (x : Bor Row). ordering_index (stands x.now)) _ _ (IsNonDecreasingBy-drop (λ (x : Bor Row). ordering_index (stands x.now)) low xs (rises sorted)))

  pub part_is : (low count : ℕ) → low ≤ length xs → count ≤ length (take (length xs - low) (drop low xs)) →
      IsPartitionPoint (λ (x : Bor Row). is_lt (stands x.now) ≡ true) (λ x. is_lt (stands x.now) ≡ false) xs low →
      IsPartitionPoint (λ (x : Bor Row). is_le (stands x.now) ≡ true) (λ x. is_le (stands x.now) ≡ false) (take (length xs - low) (drop low xs)) count →
      map (λ r. r.now) (take count (take (length xs - low) (drop low xs))) ≡ filter (λ (r : Row). is_about k r.key) (map (λ r. r.now) xs)
  unfolding is_about
  part_is low count a b p q =
      cut_level (λ (x : Bor Row). x.now) stands xs low count a b p q
      ∙ ap (λ (test : Row → Bool). filter test (map (λ (r : Bor Row). r.now) xs)) (λ j r. level_is (target_of r.key) k j)
