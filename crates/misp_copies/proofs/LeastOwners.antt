-- The least owner of a key, where rows are by their keys and their owners.
use Rattle.std.proofs.Common.{◌≡◌, ℕ, ◌+◌, ◌<◌, ◌≤◌, Bool, true, false, refl, ap, sym, ◌∙◌, arith, List, length, get_or, map, inl, inr, ltb, Bor, ◌&&◌, IsSortedBy, Ordering, Less, Equal, Greater, nat_cmp, is_lt, is_eq}
use Rattle.std.specs.List.Sorted.{IsPartitionPoint, IsPartitionedBy}
use Rattle.std.proofs.lemmas.Bool.{cases_lt}
use Rattle.std.proofs.lemmas.Cmp.{nat_list_cmp_total}
use Rattle.std.proofs.lemmas.List.{get_or_default}
use Rattle.std.proofs.lemmas.List.Sorted.{sorted_far, searchable_from_sorted}
use Rattle.std.proofs.lemmas.List.Folds.{list_any_at}
use Rattle.misp_lists.proofs.Lists.{any_none}
use Rattle.misp_model.proofs.Prelude.{Row, any_map, false≢true, list_any, nat_tests, ordering_reverse, ordering_then, same_key, same_key-refl, same_key-sound, spell}
use Rattle.misp_copies.specs.Keys.{key_cmp}
use Rattle.misp_copies.specs.StatementsByKey.{statement_cmp, AreByKey, is_lesser}
use Rattle.misp_copies.proofs.Cuts.{rises_below}
use Rattle.misp_copies.proofs.KeyOrder.{level_is, statement_weak}

-- the keys do not fall
keys_sorted : (xs : List (Bor Row)) → AreByKey xs → IsSortedBy (λ (a b : Bor Row). is_lt (key_cmp a.now.key b.now.key)) xs
keys_sorted xs h = λ k d low high. one (key_cmp (get_or xs (k + 1) d).now.key (get_or xs k d).now.key) (nat_cmp (get_or xs (k + 1) d).now.owner.0.0 (get_or xs k d).now.owner.0.0) (h k d low high)
  where
    one : (o p : Ordering) → is_lt (ordering_then o p) ≡ false → is_lt o ≡ false
    one Less p e = e
    one Equal p e = refl
    one Greater p e = refl

module _ (row : Row) where
  -- so those of a lesser key are in front
  pub in_front : (xs : List (Bor Row)) → AreByKey xs → IsPartitionedBy (λ (x : Bor Row). is_lt (key_cmp x.now.key row.key)) xs
  in_front xs h =
      rises_below (λ (x : Bor Row). x.now) (λ (r : Row). key_cmp r.key row.key) xs
      (searchable_from_sorted nat_list_cmp_total (λ (x : Bor Row). spell x.now.key) xs (spell row.key) (keys_sorted xs h))

  -- a lesser key is another key
  below_not : (b : Row) → is_lt (key_cmp b.key row.key) ≡ true → is_lesser row b ≡ false
  below_not b h = ap (λ t. ltb b.owner.0.0 row.owner.0.0 && t) (sym (level_is b.key row.key) ∙ one (key_cmp b.key row.key) h) ∙ two (ltb b.owner.0.0 row.owner.0.0)
    where
      one : (o : Ordering) → is_lt o ≡ true → is_eq o ≡ false
      one Less e = refl
      one Equal e = absurd (false≢true e)
      one Greater e = refl

      two : (t : Bool) → (t && false) ≡ false
      two true = refl
      two false = refl

  -- after one whose key is no lesser, and that is not of a lesser owner, none is
  behind_not : (a b : Row) → is_lt (key_cmp a.key row.key) ≡ false → is_lt (statement_cmp b a) ≡ false → is_lesser row a ≡ false → is_lesser row b ≡ false
  behind_not a b h k e = one (ltb b.owner.0.0 row.owner.0.0) (same_key b.key row.key) refl refl
    where
      two : (o : Ordering) → key_cmp b.key a.key ≡ o → ltb b.owner.0.0 row.owner.0.0 ≡ true → b.key ≡ row.key → ⊥
      two Less m f g = false≢true (sym k ∙ ap (λ o. is_lt (ordering_then o (nat_cmp b.owner.0.0 a.owner.0.0))) m)
      two Greater m f g =
          false≢true (sym (ap (λ q. is_lt (key_cmp a.key q)) g ∙ h) ∙ ap is_lt (nat_list_cmp_total.antisymm (spell a.key) (spell b.key) ∙ ap ordering_reverse m))
      two Equal m f g =
          let here : a.key ≡ row.key = sym (same_key-sound b.key a.key (sym (level_is b.key a.key) ∙ ap is_eq m)) ∙ g in
          let behind : is_lt (nat_cmp b.owner.0.0 a.owner.0.0) ≡ false = sym (ap (λ o. is_lt (ordering_then o (nat_cmp b.owner.0.0 a.owner.0.0))) m) ∙ k in
          let no_lesser : ltb a.owner.0.0 row.owner.0.0 ≡ false = three (ltb a.owner.0.0 row.owner.0.0) (same_key a.key row.key) e (ap (λ q. same_key q row.key) here ∙ same_key-refl row.key) in
          false≢true (four b.owner.0.0 a.owner.0.0 row.owner.0.0 behind no_lesser ∙ f)
        where
          three : (s t : Bool) → (s && t) ≡ false → t ≡ true → s ≡ false
          three true true u v = u
          three true false u v = sym v
          three false t u v = refl

          four : (l m n : ℕ) → is_lt (nat_cmp l m) ≡ false → ltb m n ≡ false → false ≡ ltb l n
          four l m n u v = grind (arith, nat_tests)

      one : (s t : Bool) → ltb b.owner.0.0 row.owner.0.0 ≡ s → same_key b.key row.key ≡ t → (s && t) ≡ false
      one true true f g = absurd (two (key_cmp b.key a.key) refl f (same_key-sound b.key row.key g))
      one true false f g = refl
      one false t f g = refl

  module _ (xs : List (Bor Row)) (low : ℕ) (cut : IsPartitionPoint (λ (x : Bor Row). is_lt (key_cmp x.now.key row.key) ≡ true) (λ x. is_lt (key_cmp x.now.key row.key) ≡ false) xs low) where
    test : Bor Row → Bool
    test x = is_lesser row x.now

    -- the first whose key is no lesser tells whether there is a lesser owner
    pub first_tells : AreByKey xs → (first : Bor Row) → low < length xs → first ≡ get_or xs low first → is_lesser row first.now ≡ list_any (is_lesser row) (map (λ r. r.now) xs)
    unfolding test
    first_tells sorted first inside is = one (is_lesser row first.now) refl ∙ sym (any_map (λ (r : Bor Row). r.now) (is_lesser row) xs)
      where
        behind : is_lesser row first.now ≡ false → (k : ℕ) (d : Bor Row) → k < length xs → is_lesser row (get_or xs k d).now ≡ false
        behind e k d lt =
            elim (cases_lt k low) [
              | inl before ↦ below_not (get_or xs k d).now (cut.0 k d (omega arith) before)
              | inr after ↦
                  behind_not (get_or xs low d).now (get_or xs k d).now (cut.1 low d (omega arith) inside)
                  (sorted_far (λ (a b : Bor Row). is_lt (statement_cmp a.now b.now)) statement_weak xs sorted low k d after lt)
                  (ap test (get_or_default xs low d first inside ∙ sym is) ∙ e)
            ]

        one : (b : Bool) → is_lesser row first.now ≡ b → b ≡ list_any test xs
        one true e = sym (list_any_at test xs low first inside (ap test (sym is) ∙ e))
        one false e = sym (any_none test xs (behind e))

    -- where there is none, no key is as great
    pub none_tells : length xs ≤ low → ltb low (length xs) ≡ list_any (is_lesser row) (map (λ r. r.now) xs)
    unfolding test
    none_tells le = outside low (length xs) le ∙ sym (any_map (λ (r : Bor Row). r.now) (is_lesser row) xs ∙ any_none test xs (λ k d lt. below_not (get_or xs k d).now (cut.0 k d (omega arith) (omega arith))))
      where
        outside : (m n : ℕ) → n ≤ m → ltb m n ≡ false
        outside m n h = grind (arith, nat_tests)
