-- The part of a rising list that has one number.
use Rattle.std.proofs.Common.{◌≡◌, ℕ, zero, suc, ◌+◌, ◌-◌, ◌<◌, ◌≤◌, Bool, true, false, refl, ap, sym, ◌∙◌, cond, List, [], ◌∷◌, length, get_or, take, drop, arith, eqb, ltb, leb, map, inl, inr, subst, ◌⊎◌, filter, Ordering, Less, Equal}
use Rattle.std.proofs.Common.{Greater, nat_cmp, is_lt, is_le, is_eq, eqb-true, get_or-drop, length-drop}
use Rattle.std.specs.List.Sorted.{IsPartitionPoint, IsPartitionedBy, IsNonDecreasingBy, IsStableBy, IsStableByKey, ties}
use Rattle.std.specs.Ordering.{ordering_index}
use Rattle.std.proofs.lemmas.List.{take_rest}
use Rattle.std.proofs.lemmas.List.Sorted.{IsPartitionedBy-ltb, IsPartitionedBy-leb}
use Rattle.std.proofs.lemmas.List.Elements.{filter_agree}
use Rattle.misp_model.proofs.Prelude.{filter-map, nat_tests}

module _ {X : Type 0} where
  -- what passes is in front
  filter_take : (p : X → Bool) (zs : List X) (n : ℕ) → ((k : ℕ) (d : X) → k < n → k < length zs → p (get_or zs k d) ≡ true) →
      ((k : ℕ) (d : X) → n ≤ k → k < length zs → p (get_or zs k d) ≡ false) → filter p zs ≡ take n zs
  filter_take p [] zero h k = refl
  filter_take p [] (suc n) h k = refl
  filter_take p (z ∷ zs) zero h k = rw (k 0 z (omega arith) (omega arith)) (filter_take p zs zero (λ j d a b. absurd (omega arith)) (λ j d a b. k (suc j) d (omega arith) (omega arith)))
  filter_take p (z ∷ zs) (suc n) h k = rw (h 0 z (omega arith) (omega arith)) (ap (λ l. z ∷ l) (filter_take p zs n (λ j d a b. h (suc j) d (omega arith) (omega arith)) (λ j d a b. k (suc j) d (omega arith) (omega arith))))

  -- what does not pass is in front
  filter_drop : (p : X → Bool) (zs : List X) (n : ℕ) → ((k : ℕ) (d : X) → k < n → k < length zs → p (get_or zs k d) ≡ false) → filter p zs ≡ filter p (drop n zs)
  filter_drop p [] zero h = refl
  filter_drop p [] (suc n) h = refl
  filter_drop p (z ∷ zs) zero h = refl
  filter_drop p (z ∷ zs) (suc n) h = rw (h 0 z (omega arith) (omega arith)) (filter_drop p zs n (λ j d a b. h (suc j) d (omega arith) (omega arith)))

module _ {X : Type 0} (key : X → ℕ) (g : ℕ) where
  abbrev here : X → Bool
  here x = eqb g (key x)

  below_not : (x : X) → ltb (key x) g ≡ true → here x ≡ false
  below_not x h = grind (arith, nat_tests)

  above_not : (x : X) → leb (key x) g ≡ false → here x ≡ false
  above_not x h = grind (arith, nat_tests)

  between_is : (x : X) → ltb (key x) g ≡ false → leb (key x) g ≡ true → here x ≡ true
  between_is x h k = grind (arith, nat_tests)

  pub cut_is : (xs : List X) (low count : ℕ) → low ≤ length xs → count ≤ length (drop low xs) →
      IsPartitionPoint (λ x. ltb (key x) g ≡ true) (λ x. ltb (key x) g ≡ false) xs low →
      IsPartitionPoint (λ x. leb (key x) g ≡ true) (λ x. leb (key x) g ≡ false) (drop low xs) count →
      take count (drop low xs) ≡ filter here xs
  cut_is xs low count a b h k =
      sym (filter_drop here xs low (λ j d lt within. below_not _ (h.0 j d (omega arith) lt))
      ∙ filter_take here (drop low xs) count
      (λ j d lt within. between_is _ (ap (λ x. ltb (key x) g) (get_or-drop low xs j d) ∙ h.1 (low + j) d (omega arith) (omega (arith, long j within))) (k.0 j d (omega arith) lt))
      (λ j d le within. above_not _ (k.1 j d le within)))
    where
      long : (j : ℕ) → j < length (drop low xs) → low + j < length xs
      long j within = omega (arith, length-drop low xs)

-- the same where the rest is cut out by its length, and each is looked at through a map
pub cut_map : {X Y : Type 0} (f : X → Y) (key : Y → ℕ) (g h : ℕ) → g ≡ h → (xs : List X) (low count : ℕ) → low ≤ length xs → count ≤ length (take (length xs - low) (drop low xs)) →
    IsPartitionPoint (λ x. ltb (key (f x)) g ≡ true) (λ x. ltb (key (f x)) g ≡ false) xs low →
    IsPartitionPoint (λ x. leb (key (f x)) g ≡ true) (λ x. leb (key (f x)) g ≡ false) (take (length xs - low) (drop low xs)) count →
    map f (take count (take (length xs - low) (drop low xs))) ≡ filter (λ y. eqb h (key y)) (map f xs)
cut_map f key g h e xs low count a b p q =
    ap (λ l. map f (take count l)) (take_rest xs low)
    ∙ ap (map f) (cut_is (λ x. key (f x)) g xs low count a (subst (λ l. count ≤ length l) (take_rest xs low) b) p
    (subst (λ l. IsPartitionPoint (λ x. leb (key (f x)) g ≡ true) (λ x. leb (key (f x)) g ≡ false) l count) (take_rest xs low) q))
    ∙ sym (filter-map f (λ y. eqb g (key y)) xs)
    ∙ ap (λ k. filter (λ y. eqb k (key y)) (map f xs)) e

-- the same where each stands to something as an answer says
module _ {X Y : Type 0} (f : X → Y) (o : Y → Ordering) where
  abbrev number : Y → ℕ
  number y = ordering_index (o y)

  below : (p : Ordering) → ltb (ordering_index p) 1 ≡ is_lt p
  below Less = refl
  below Equal = refl
  below Greater = refl

  upto : (p : Ordering) → leb (ordering_index p) 1 ≡ is_le p
  upto Less = refl
  upto Equal = refl
  upto Greater = refl

  at : (p : Ordering) → eqb 1 (ordering_index p) ≡ is_eq p
  at Less = refl
  at Equal = refl
  at Greater = refl

  pub rises_below : (xs : List X) → IsNonDecreasingBy (λ x. number (f x)) xs → IsPartitionedBy (λ x. is_lt (o (f x))) xs
  rises_below xs h = subst (λ (t : Ordering → Bool). IsPartitionedBy (λ x. t (o (f x))) xs) (λ j p. below p j) (IsPartitionedBy-ltb (λ x. number (f x)) xs 1 h)

  pub rises_upto : (xs : List X) → IsNonDecreasingBy (λ x. number (f x)) xs → IsPartitionedBy (λ x. is_le (o (f x))) xs
  rises_upto xs h = subst (λ (t : Ordering → Bool). IsPartitionedBy (λ x. t (o (f x))) xs) (λ j p. upto p j) (IsPartitionedBy-leb (λ x. number (f x)) xs 1 h)

  pub cut_level : (xs : List X) (low count : ℕ) → low ≤ length xs → count ≤ length (take (length xs - low) (drop low xs)) →
      IsPartitionPoint (λ x. is_lt (o (f x)) ≡ true) (λ x. is_lt (o (f x)) ≡ false) xs low →
      IsPartitionPoint (λ x. is_le (o (f x)) ≡ true) (λ x. is_le (o (f x)) ≡ false) (take (length xs - low) (drop low xs)) count →
      map f (take count (take (length xs - low) (drop low xs))) ≡ filter (λ y. is_eq (o y)) (map f xs)
  cut_level xs low count a b h k =
      cut_map f number 1 1 refl xs low count a b
      (subst (λ (t : Ordering → Bool). IsPartitionPoint (λ x. t (o (f x)) ≡ true) (λ x. t (o (f x)) ≡ false) xs low) (λ j p. sym (below p) j) h)
      (subst (λ (t : Ordering → Bool). IsPartitionPoint (λ x. t (o (f x)) ≡ true) (λ x. t (o (f x)) ≡ false) (take (length xs - low) (drop low xs)) count) (λ j p. sym (upto p) j) k)
      ∙ ap (λ (t : Ordering → Bool). filter (λ y. t (o y)) (map f xs)) (λ j p. at p j)

-- ---- after a stable sort

module _ {X : Type 0} where
  -- one that passes, or none
  found : (test : X → Bool) (xs : List X) → (filter test xs ≡ []) ⊎ ((x : X) × (test x ≡ true))
  found test [] = inl refl
  found test (x ∷ xs) = one (test x) refl (found test xs)
    where
      one : (b : Bool) → test x ≡ b → (filter test xs ≡ []) ⊎ ((y : X) × (test y ≡ true)) → (cond b (x ∷ filter test xs) (filter test xs) ≡ []) ⊎ ((y : X) × (test y ≡ true))
      one true e r = inr (x, e)
      one false e r = r

  -- those that pass keep their order, where they are those that tie with one of them
  pub stable_test : (lt : X → X → Bool) (test : X → Bool) → ((x y : X) → test x ≡ true → ties lt x y ≡ test y) → (xs ys : List X) → IsStableBy lt xs ys →
      filter test ys ≡ filter test xs
  stable_test lt test tie xs ys s = one (found test ys) (found test xs)
    where
      with_one : (x : X) → test x ≡ true → filter test ys ≡ filter test xs
      with_one x e = sym (filter_agree _ _ (λ y. tie x y e) ys) ∙ s x ∙ filter_agree _ _ (λ y. tie x y e) xs

      one : (filter test ys ≡ []) ⊎ ((x : X) × (test x ≡ true)) → (filter test xs ≡ []) ⊎ ((x : X) × (test x ≡ true)) → filter test ys ≡ filter test xs
      one (inr m) r = with_one m.0 m.1
      one (inl a) (inr m) = with_one m.0 m.1
      one (inl a) (inl b) = a ∙ sym b

  pub stable_parts : (key : X → ℕ) (xs ys : List X) → IsStableByKey key nat_cmp xs ys → (g : ℕ) → filter (λ x. eqb g (key x)) ys ≡ filter (λ x. eqb g (key x)) xs
  stable_parts key xs ys s g = stable_test _ (λ x. eqb g (key x)) tie xs ys s
    where
      level : (x y : X) → ties (λ a b. is_lt (nat_cmp (key a) (key b))) x y ≡ eqb (key x) (key y)
      level x y = grind (arith, nat_tests)

      tie : (x y : X) → eqb g (key x) ≡ true → ties (λ a b. is_lt (nat_cmp (key a) (key b))) x y ≡ eqb g (key y)
      tie x y e = level x y ∙ ap (λ h. eqb h (key y)) (sym (eqb-true _ _ e))

-- the same where each is looked at through a map
pub stable_parts_map : {X Y : Type 0} (f : X → Y) (key : Y → ℕ) (xs ys : List X) → IsStableByKey (λ x. key (f x)) nat_cmp xs ys → (g : ℕ) →
    filter (λ y. eqb g (key y)) (map f ys) ≡ filter (λ y. eqb g (key y)) (map f xs)
stable_parts_map f key xs ys s g =
    filter-map f (λ y. eqb g (key y)) ys ∙ ap (map f) (stable_parts (λ x. key (f x)) xs ys s g) ∙ sym (filter-map f (λ y. eqb g (key y)) xs)
