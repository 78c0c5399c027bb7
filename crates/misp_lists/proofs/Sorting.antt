-- A stable sort gives the list in its order.
use Rattle.std.proofs.Common.{◌≡◌, ℕ, suc, ◌+◌, ◌≤◌, Bool, true, false, not, leb, List, [], ◌∷◌, ◌++◌, get_or, refl, sym, ap, ◌∙◌, cond, inl, inr, arith, reverse, Ordering, Less, Equal, Greater, nat_cmp, is_lt, is_eq, filter, IsSortedBy}
use Rattle.std.proofs.Common.{append-nil}
use Rattle.std.specs.Cmp.{IsStrictWeakOrder}
use Rattle.std.specs.List.Sorted.{IsNonDecreasingBy, IsStableBy, IsStableByKey, ties}
use Rattle.std.proofs.lemmas.Bool.{not-true, not-false, true_from_ne_false}
use Rattle.std.proofs.lemmas.List.{reverse-append}
use Rattle.std.proofs.lemmas.List.Elements.{filter-append}
use Rattle.std.proofs.lemmas.List.Sorted.{ranks_by, sorted_far}
use Rattle.misp_lists.proofs.Prelude.{AllByRecursion, IsDistinct, IsStrictlySortedBy, IsTotalOrder, all_in_order, and_parts, cases_Bool, false_from_ne_true, false≢true, nat_cmp_total, nat_tests, ordering_reverse, put}
use Rattle.misp_lists.specs.Order.{in_order, sorted_by}
use Rattle.misp_lists.proofs.Orders.{less_from}
use Rattle.misp_lists.proofs.All.{all_from, all_implied}
use Rattle.misp_lists.proofs.Ordering.{all_put}

module _ {X : Type 0} (lt : X → X → Bool) (weak : IsStrictWeakOrder lt) where
  -- none of these is less
  abbrev AllFrom : X → List X → Type 0
  AllFrom x ys = AllByRecursion (λ y. lt y x ≡ false) ys

  -- none that follows is less
  abbrev Rises : List X → Type 0
  Rises [] = Unit {0}
  Rises (x ∷ xs) = AllFrom x xs × Rises xs

  rises : (xs : List X) → IsSortedBy lt xs → Rises xs
  rises [] up = tt
  rises (x ∷ xs) up = (
    all_from (λ y. lt y x ≡ false) xs (λ k d below. sorted_far lt weak (x ∷ xs) up 0 (suc k) d (omega arith) (omega arith)),
    rises xs (λ k d low high.
        let next : suc k + 1 ≡ suc (k + 1) = omega arith in
        let above : lt (get_or (x ∷ xs) (suc k + 1) d) (get_or (x ∷ xs) (suc k) d) ≡ false = up (suc k) d (omega arith) (omega arith) in
        rw next at above),
  )

  weaker : (m x : X) (ys : List X) → lt x m ≡ false → AllFrom x ys → AllFrom m ys
  weaker m x ys le h = all_implied (λ y. lt y x ≡ false) (λ y. lt y m ≡ false) (λ y above. weak.chain y x m above le) ys h

  -- what is less than one is less than what is not less than that one
  passes : (x y z : X) → lt x y ≡ true → lt z y ≡ false → lt x z ≡ true
  passes x y z h k = true_from_ne_false _ (λ e. false≢true (sym (weak.chain x z y e k) ∙ h))

  none_below : (x y : X) (ys : List X) → lt x y ≡ true → AllFrom y ys → filter (ties lt x) ys ≡ []
  none_below x y [] less h = refl
  none_below x y (z ∷ ys) less h = rw (passes x y z less h.0) (none_below x y ys less h.1)

  itself : (x : X) → lt x x ≡ false
  itself x = false_from_ne_true _ (λ e. false≢true (sym (weak.one_way x x e) ∙ e))

  -- ---- two lists that rise and have the same ties are the same

  tail_same : (b : Bool) (y : X) (ys zs : List X) → cond b (y ∷ ys) ys ≡ cond b (y ∷ zs) zs → ys ≡ zs
  tail_same true y ys zs h = cc
  tail_same false y ys zs h = h

  not_nil : (y : X) (ys : List X) → y ∷ ys ≡ [] → ⊥
  not_nil y ys h = cc

  tie : (x y : X) → lt x y ≡ false → lt y x ≡ false → ties lt x y ≡ true
  tie x y h k = rw (h, k) refl

  here : (y : X) (ys : List X) → filter (ties lt y) (y ∷ ys) ≡ y ∷ filter (ties lt y) ys
  here y ys = rw (tie y y (itself y) (itself y)) refl

  unique : (ys zs : List X) → Rises ys → Rises zs → ((x : X) → filter (ties lt x) ys ≡ filter (ties lt x) zs) → ys ≡ zs
  unique [] [] r s h = refl
  unique [] (z ∷ zs) r s h = absurd (not_nil z _ (sym (here z zs) ∙ sym (h z)))
  unique (y ∷ ys) [] r s h = absurd (not_nil y _ (sym (here y ys) ∙ h y))
  unique (y ∷ ys) (z ∷ zs) r s h = one (lt y z) (lt z y) refl refl (unique ys zs r.1 s.1)
    where
      one : (a b : Bool) → lt y z ≡ a → lt z y ≡ b → (((x : X) → filter (ties lt x) ys ≡ filter (ties lt x) zs) → ys ≡ zs) → y ∷ ys ≡ z ∷ zs
      one false false e f ih =
          let both : y ∷ filter (ties lt y) ys ≡ z ∷ filter (ties lt y) zs = sym (here y ys) ∙ h y ∙ ap (λ b. cond b (z ∷ filter (ties lt y) zs) (filter (ties lt y) zs)) (tie y z e f) in
          let first : y ≡ z = cc in
          let rest : ys ≡ zs = ih (λ x. tail_same (ties lt x y) y _ _ (h x ∙ ap (λ w. cond (ties lt x w) (w ∷ filter (ties lt x) zs) (filter (ties lt x) zs)) (sym first))) in
          cc
      one true b e f ih = absurd (not_nil y _ (sym (here y ys) ∙ h y ∙ none_below y z (z ∷ zs) e (itself z, s.0)))
      one false true e f ih = absurd (not_nil z _ (sym (here z zs) ∙ sym (h z) ∙ none_below z y (y ∷ ys) f (itself y, r.0)))

  -- ---- the list in an order rises

  module _ (before : X → X → Bool) (up : (x y : X) → before x y ≡ true → lt y x ≡ false) (down : (x y : X) → before x y ≡ false → lt x y ≡ false) where
    rises_put : (x : X) (ys : List X) → Rises ys → Rises (put before x ys)
    unfolding put
    rises_put x [] r = (tt, tt)
    rises_put x (y ∷ ys) r = elim (cases_Bool (before x y)) [
      | inl first ↦ rw first ((up x y first, weaker x y ys (up x y first) r.0), r)
      | inr later ↦ rw later (all_put (λ z. lt z y ≡ false) before x ys (down x y later) r.0, rises_put x ys r.1)
    ]

    rises_all : (xs : List X) → Rises (in_order before xs)
    unfolding in_order
    rises_all [] = tt
    rises_all (x ∷ xs) = rises_put x (in_order before xs) (rises_all xs)

  -- ---- where one that is equal to another stays in front of it

  module _ (before : X → X → Bool) (agrees : (x y : X) → before x y ≡ not (lt y x)) where
    -- of two of which one is less, not both tie with a third
    not_both : (x y z : X) → lt y x ≡ true → ties lt z y ≡ true → ties lt z x ≡ false
    not_both x y z less t = elim (cases_Bool (lt z x)) [
      | inl hit ↦ rw hit refl
      | inr miss ↦ absurd (false≢true (sym (weak.chain y z x (not-true _ (and_parts _ _ t).1) miss) ∙ less))
    ]

    same_put : (k x : X) (ys : List X) → filter (ties lt k) (put before x ys) ≡ filter (ties lt k) (x ∷ ys)
    unfolding put
    same_put k x [] = refl
    same_put k x (y ∷ ys) = elim (cases_Bool (lt y x)) [
      | inl less ↦ rw (agrees x y, less) (ap (λ l. cond (ties lt k y) (y ∷ l) l) (same_put k x ys) ∙ two (ties lt k x) (ties lt k y) (λ f. sym (not_both x y k less f)))
      | inr over ↦ rw (agrees x y, over) refl
    ]
      where
        G : List X
        G = filter (ties lt k) ys

        two : (a b : Bool) → (b ≡ true → false ≡ a) → cond b (y ∷ cond a (x ∷ G) G) (cond a (x ∷ G) G) ≡ cond a (x ∷ cond b (y ∷ G) G) (cond b (y ∷ G) G)
        two true true e = absurd (false≢true (e refl))
        two true false e = refl
        two false b e = refl

    same_all : (k : X) (xs : List X) → filter (ties lt k) (in_order before xs) ≡ filter (ties lt k) xs
    unfolding in_order
    same_all k [] = refl
    same_all k (x ∷ xs) = same_put k x (in_order before xs) ∙ ap (λ l. cond (ties lt k x) (x ∷ l) l) (same_all k xs)

    -- what a stable sort leaves
    pub stable_sort : (xs ys : List X) → IsSortedBy lt ys → IsStableBy lt xs ys → ys ≡ in_order before xs
    stable_sort xs ys up stable =
        unique ys (in_order before xs) (rises ys up)
        (rises_all before (λ x y h. not-true _ (sym (agrees x y) ∙ h)) (λ x y h. weak.one_way y x (not-false _ (sym (agrees x y) ∙ h))) xs)
        (λ k. stable k ∙ sym (same_all k xs))

  -- ---- where one that is equal to another goes after it

  behind_put : (k x : X) (ys : List X) → Rises ys → filter (ties lt k) (put lt x ys) ≡ filter (ties lt k) ys ++ filter (ties lt k) (x ∷ [])
  unfolding put
  behind_put k x [] r = refl
  behind_put k x (y ∷ ys) r = elim (cases_Bool (lt x y)) [
    | inl less ↦ rw less (two (ties lt k x) refl less)
    | inr over ↦ rw over (ap (λ l. cond (ties lt k y) (y ∷ l) l) (behind_put k x ys r.1) ∙ three (ties lt k y))
  ]
    where
      F : List X
      F = filter (ties lt k) (y ∷ ys)

      Z : List X
      Z = filter (ties lt k) (x ∷ [])

      two : (b : Bool) → ties lt k x ≡ b → lt x y ≡ true → cond b (x ∷ F) F ≡ F ++ cond b (x ∷ []) []
      two false e less = sym (append-nil F)
      two true e less =
          let lies : lt k y ≡ true = true_from_ne_false _ (λ f. false≢true (sym (weak.chain x k y (not-true _ (and_parts _ _ e).1) f) ∙ less)) in
          let none : F ≡ [] = none_below k y (y ∷ ys) lies (itself y, r.0) in
          ap (λ l. x ∷ l) none ∙ ap (λ l. l ++ x ∷ []) (sym none)

      three : (b : Bool) → cond b (y ∷ (filter (ties lt k) ys ++ Z)) (filter (ties lt k) ys ++ Z) ≡ cond b (y ∷ filter (ties lt k) ys) (filter (ties lt k) ys) ++ Z
      three true = refl
      three false = refl

  behind_all : (k : X) (xs : List X) → filter (ties lt k) (in_order lt xs) ≡ filter (ties lt k) (reverse xs)
  unfolding in_order
  behind_all k [] = refl
  behind_all k (x ∷ xs) =
      behind_put k x (in_order lt xs) (rises_all lt (λ x y h. weak.one_way x y h) (λ x y h. h) xs)
      ∙ ap (λ l. l ++ filter (ties lt k) (x ∷ [])) (behind_all k xs)
      ∙ sym (ap (filter (ties lt k)) (reverse-append (x ∷ []) xs) ∙ filter-append (ties lt k) (reverse xs) (x ∷ []))

  -- what a stable sort of the list that was turned round leaves
  pub turned_sort : (xs ys : List X) → IsSortedBy lt ys → IsStableBy lt (reverse xs) ys → ys ≡ in_order lt xs
  turned_sort xs ys r s = unique ys (in_order lt xs) (rises ys r) (rises_all lt (λ x y h. weak.one_way x y h) (λ x y h. h) xs) (λ x. s x ∙ sym (behind_all x xs))

-- what a stable sort by a number leaves
pub sort_by_number : {X : Type 0} (key : X → ℕ) (xs ys : List X) → IsNonDecreasingBy key ys → IsStableByKey key nat_cmp xs ys → ys ≡ in_order (λ x y. leb (key x) (key y)) xs
sort_by_number key xs ys up stable =
    stable_sort (λ x y. is_lt (nat_cmp (key x) (key y))) (ranks_by nat_cmp_total key) (λ x y. leb (key x) (key y)) (λ x y. grind (arith, nat_tests)) xs ys
    (λ k d low high. let le : key (get_or ys k d) ≤ key (get_or ys (k + 1) d) = up k (k + 1) d (omega arith) high in grind (arith, nat_tests)) stable

-- ---- elements of which no two are equal

module _ {X : Type 0} (order : X → X → Ordering) (total : IsTotalOrder order) (before : X → X → Bool)
    (up : (x y : X) → before x y ≡ true → is_lt (order y x) ≡ false) (down : (x y : X) → before x y ≡ false → is_lt (order x y) ≡ false)
    (same : X → X → Bool) (agrees : (x y : X) → same x y ≡ is_eq (order x y)) where
  less : (x y : X) → is_lt (order y x) ≡ false → same x y ≡ false → order x y ≡ Less
  less x y above apart = less_from (order x y) (sym (agrees x y) ∙ apart) (ap is_lt (sym (total.antisymm y x)) ∙ above)

  more : (x y : X) → is_lt (order x y) ≡ false → same x y ≡ false → order y x ≡ Less
  more x y above apart = total.antisymm y x ∙ turned (order x y) (sym (agrees x y) ∙ apart) above
    where
      turned : (o : Ordering) → is_eq o ≡ false → is_lt o ≡ false → ordering_reverse o ≡ Less
      turned Less e f = absurd cc
      turned Equal e f = absurd cc
      turned Greater e f = refl

  pub ascend_put : (x : X) (xs : List X) → AllByRecursion (λ y. same x y ≡ false) xs → IsStrictlySortedBy order xs → IsStrictlySortedBy order (put before x xs)
  unfolding put IsStrictlySortedBy
  ascend_put x [] apart sorted = (tt, tt)
  ascend_put x (y ∷ ys) apart sorted = elim (cases_Bool (before x y)) [
    | inl first ↦
        let here : order x y ≡ Less = less x y (up x y first) apart.0 in
        rw first ((here, all_implied (λ z. order y z ≡ Less) (λ z. order x z ≡ Less) (λ z after. total.trans x y z here after) ys sorted.0), sorted)
    | inr later ↦ rw later (all_put (λ z. order y z ≡ Less) before x ys (more x y (down x y later) apart.0) sorted.0, ascend_put x ys apart.1 sorted.1)
  ]

  pub ascend_in_order : (xs : List X) → IsDistinct same xs → IsStrictlySortedBy order (in_order before xs)
  unfolding in_order IsDistinct IsStrictlySortedBy
  ascend_in_order [] apart = tt
  ascend_in_order (x ∷ xs) apart = ascend_put x (in_order before xs) (all_in_order (λ y. same x y ≡ false) before xs apart.0) (ascend_in_order xs apart.1)

-- ---- sorted by an order

module _ {X : Type 0} (order : X → X → Ordering) (total : IsTotalOrder order) where
  pub weak : IsStrictWeakOrder (λ a b. is_lt (order a b))
  weak = ranks_by total (λ x. x)

  pub sorted_in_order : (xs ys : List X) → IsSortedBy (λ a b. is_lt (order a b)) ys → IsStableBy (λ a b. is_lt (order a b)) xs ys → ys ≡ sorted_by order xs
  sorted_in_order xs ys up stable = stable_sort (λ a b. is_lt (order a b)) weak (λ a b. not (is_lt (order b a))) (λ a b. refl) xs ys up stable

  pub ascend_sorted : (same : X → X → Bool) → ((x y : X) → same x y ≡ is_eq (order x y)) → (xs : List X) → IsDistinct same xs → IsStrictlySortedBy order (sorted_by order xs)
  ascend_sorted same agrees xs apart =
      ascend_in_order order total (λ a b. not (is_lt (order b a))) (λ x y h. not-true _ h) (λ x y h. weak.one_way y x (not-false _ h)) same agrees xs apart
