-- Lists in order, and one element more in its place.
use Rattle.std.proofs.Common.{◌≡◌, zero, suc, List, [], ◌∷◌, ◌++◌, Bool, true, false, refl, ap, sym, ◌∙◌, arith, cond, map, find, Some, None, inl, inr, ◌||◌, ◌⊎◌, filter, Contains}
use Rattle.std.specs.List.{list_any, list_all, AllByRecursion}
use Rattle.std.proofs.lemmas.Bool.{cases_Bool, and_parts, and_from, false≢true}
use Rattle.misp_lists.specs.Order.{put, in_order, ascend}
use Rattle.misp_lists.proofs.Elements.{there, first_or}
use Rattle.misp_lists.proofs.Lists.{all-filter}
use Rattle.misp_lists.proofs.All.{all_part}

-- ---- what the list in order has

module _ {X : Type 0} (before : X → X → Bool) (p : X → Bool) where
  pub any_put : (x : X) (ys : List X) → list_any p (put before x ys) ≡ (p x || list_any p ys)
  unfolding put
  any_put x [] = refl
  any_put x (y ∷ ys) = elim (cases_Bool (before x y)) [ inl first ↦ rw first refl | inr later ↦ rw (later, any_put x ys) (swap (p y) (p x) (list_any p ys)) ]
    where
      swap : (a b t : Bool) → (a || (b || t)) ≡ (b || (a || t))
      swap true true t = refl
      swap true false t = refl
      swap false b t = refl

  pub any_in_order : (xs : List X) → list_any p (in_order before xs) ≡ list_any p xs
  unfolding in_order
  any_in_order [] = refl
  any_in_order (x ∷ xs) = any_put x (in_order before xs) ∙ ap (λ t. p x || t) (any_in_order xs)

  pub tests_put : (x : X) (ys : List X) → p x ≡ true → list_all p ys ≡ true → list_all p (put before x ys) ≡ true
  unfolding put
  tests_put x [] h k = and_from _ _ h refl
  tests_put x (y ∷ ys) h k = elim (cases_Bool (before x y)) [
    | inl first ↦ rw first (and_from _ _ h k)
    | inr later ↦ rw later (and_from _ _ (and_parts (p y) (list_all p ys) k).0 (tests_put x ys h (and_parts (p y) (list_all p ys) k).1))
  ]

  pub tests_in_order : (xs : List X) → list_all p xs ≡ true → list_all p (in_order before xs) ≡ true
  unfolding in_order
  tests_in_order [] h = refl
  tests_in_order (x ∷ xs) h = tests_put x (in_order before xs) (and_parts _ _ h).0 (tests_in_order xs (and_parts _ _ h).1)

  -- one more that passes is found where none was, and one that does not changes nothing
  pub find_hit : (x : X) → p x ≡ true → (xs : List X) → find p xs ≡ None → find p (put before x xs) ≡ Some x
  unfolding put
  find_hit x hit [] none = rw hit refl
  find_hit x hit (y ∷ ys) none = elim (cases_Bool (p y)) [
    | inl found ↦ absurd (let e : Some y ≡ None = sym (rw found refl) ∙ none in cc)
    | inr miss ↦
        let rest : find p ys ≡ None = sym (rw miss refl) ∙ none in
        elim (cases_Bool (before x y)) [ inl first ↦ rw (first, hit) refl | inr later ↦ rw (later, miss) (find_hit x hit ys rest) ]
  ]

  pub find_miss : (x : X) → p x ≡ false → (xs : List X) → find p (put before x xs) ≡ find p xs
  unfolding put
  find_miss x miss [] = rw miss refl
  find_miss x miss (y ∷ ys) = elim (cases_Bool (before x y)) [ inl first ↦ rw (first, miss) refl | inr later ↦ rw (later, find_miss x miss ys) refl ]

module _ {X : Type 0} (P : X → Type 0) (before : X → X → Bool) where
  pub all_put : (x : X) (ys : List X) → P x → AllByRecursion P ys → AllByRecursion P (put before x ys)
  unfolding put
  all_put x [] p a = (p, tt)
  all_put x (y ∷ ys) p a = elim (cases_Bool (before x y)) [ inl first ↦ rw first (p, a) | inr later ↦ rw later (a.0, all_put x ys p a.1) ]

  pub all_in_order : (xs : List X) → AllByRecursion P xs → AllByRecursion P (in_order before xs)
  unfolding in_order
  all_in_order [] a = tt
  all_in_order (x ∷ xs) a = all_put x (in_order before xs) a.0 (all_in_order xs a.1)

module _ {X : Type 0} (before : X → X → Bool) where
  pub put_from : (x : X) (ys : List X) (z : X) → Contains (put before x ys) z → Contains (x ∷ ys) z
  unfolding put
  put_from x [] z m = m
  put_from x (y ∷ ys) z m = one (before x y) (put_from x ys z) m
    where
      two : (x ≡ z) ⊎ Contains ys z → Contains (x ∷ y ∷ ys) z
      two (inl e) = (0, omega arith, e)
      two (inr n) = there x (y ∷ ys) z (there y ys z n)

      three : (Contains (put before x ys) z → Contains (x ∷ ys) z) → (y ≡ z) ⊎ Contains (put before x ys) z → Contains (x ∷ y ∷ ys) z
      three ih (inl e) = (1, omega arith, e)
      three ih (inr n) = two (first_or x ys z (ih n))

      one : (b : Bool) → (Contains (put before x ys) z → Contains (x ∷ ys) z) → Contains (cond b (x ∷ y ∷ ys) (y ∷ put before x ys)) z → Contains (x ∷ y ∷ ys) z
      one true ih n = n
      one false ih n = three ih (first_or y (put before x ys) z n)

  pub from_in_order : (xs : List X) (z : X) → Contains (in_order before xs) z → Contains xs z
  unfolding in_order
  from_in_order [] z m = m
  from_in_order (x ∷ xs) z m = one (first_or x (in_order before xs) z (put_from x (in_order before xs) z m)) (from_in_order xs z)
    where
      one : (x ≡ z) ⊎ Contains (in_order before xs) z → (Contains (in_order before xs) z → Contains xs z) → Contains (x ∷ xs) z
      one (inl e) f = (0, omega arith, e)
      one (inr n) f = there x xs z (f n)

  pub put_has : (x : X) (ys : List X) (z : X) → Contains (x ∷ ys) z → Contains (put before x ys) z
  unfolding put
  put_has x [] z m = m
  put_has x (y ∷ ys) z m = one (before x y) (put_has x ys z) m
    where
      one : (b : Bool) → (Contains (x ∷ ys) z → Contains (put before x ys) z) → Contains (x ∷ y ∷ ys) z → Contains (cond b (x ∷ y ∷ ys) (y ∷ put before x ys)) z
      one true ih m = m
      one false ih (zero, lt, e) = there y (put before x ys) z (ih (0, omega arith, e))
      one false ih (suc zero, lt, e) = (0, omega arith, e)
      one false ih (suc (suc k), lt, e) = there y (put before x ys) z (ih (suc k, omega arith, e))

  pub in_order_has : (xs : List X) (z : X) → Contains xs z → Contains (in_order before xs) z
  unfolding in_order
  in_order_has [] z m = m
  in_order_has (x ∷ xs) z (zero, lt, e) = put_has x (in_order before xs) z (0, omega arith, e)
  in_order_has (x ∷ xs) z (suc k, lt, e) = put_has x (in_order before xs) z (there x (in_order before xs) z (in_order_has xs z (k, omega arith, e)))

-- ---- in an order

-- one that goes before all goes to the front
pub put_front : {X : Type 0} (before : X → X → Bool) (x : X) (xs : List X) → list_all (before x) xs ≡ true → put before x xs ≡ x ∷ xs
unfolding put
put_front before x [] all = refl
put_front before x (y ∷ ys) all = rw ((and_parts (before x y) (list_all (before x) ys) all).0) refl

pub ascend_kept : {X : Type 0} (before : X → X → Bool) (q : X → Bool) (xs : List X) → ascend before xs ≡ true → ascend before (filter q xs) ≡ true
unfolding ascend
ascend_kept before q [] up = refl
ascend_kept before q (x ∷ xs) up = elim (cases_Bool (q x)) [
  | inl hit ↦ rw hit (and_from _ _ (all-filter (before x) q xs (and_parts _ _ up).0) (ascend_kept before q xs (and_parts _ _ up).1))
  | inr miss ↦ rw miss (ascend_kept before q xs (and_parts _ _ up).1)
]

module _ {X : Type 0} (before : X → X → Bool)
    (on : (a b c : X) → before a b ≡ true → before b c ≡ true → before a c ≡ true)
    (past : (w x y : X) → before w y ≡ true → before x y ≡ false → before w x ≡ true) where
  -- x goes before each of these
  abbrev pub Front : X → List X → Type 0
  Front x zs = AllByRecursion (λ z. before x z ≡ true) zs

  -- what goes before an element goes before those after it
  abbrev pub Ordered : List X → Type 0
  Ordered [] = Unit {0}
  Ordered (y ∷ ys) = ((x : X) → before x y ≡ true → Front x ys) × Ordered ys

  front : (x : X) (zs : List X) → Front x zs → put before x zs ≡ x ∷ zs
  unfolding put
  front x [] f = refl
  front x (z ∷ zs) f = rw f.0 refl

  pub ordered_put : (x : X) (ys : List X) → Ordered ys → Ordered (put before x ys)
  unfolding put
  ordered_put x [] o = ((λ w h. tt), tt)
  ordered_put x (y ∷ ys) o = elim (cases_Bool (before x y)) [
    | inl e ↦ rw e ((λ w h. (on w x y h e, o.0 w (on w x y h e))), o)
    | inr e ↦ rw e ((λ w h. all_put (λ z. before w z ≡ true) before x ys (past w x y h e) (o.0 w h)), ordered_put x ys o.1)
  ]

  pub ordered_part : (q : X → Bool) (ys : List X) → Ordered ys → Ordered (filter q ys)
  ordered_part q [] o = tt
  ordered_part q (y ∷ ys) o = elim (cases_Bool (q y)) [
    | inl e ↦ rw e ((λ x h. all_part (λ z. before x z ≡ true) q ys (o.0 x h)), ordered_part q ys o.1)
    | inr e ↦ rw e (ordered_part q ys o.1)
  ]

  pub put_cut : (q : X → Bool) (x : X) (ys : List X) → Ordered ys → filter q (put before x ys) ≡ cond (q x) (put before x (filter q ys)) (filter q ys)
  unfolding put
  put_cut q x [] o = refl
  put_cut q x (y ∷ ys) o = one (before x y) refl (put_cut q x ys o.1)
    where
      F : List X
      F = filter q (y ∷ ys)

      G : List X
      G = filter q ys

      two : before x y ≡ false → (a t : Bool) (Z : List X) → Z ≡ cond a (put before x G) G → cond t (y ∷ Z) Z ≡ cond a (put before x (cond t (y ∷ G) G)) (cond t (y ∷ G) G)
      two e true true Z z = ap (λ zs. y ∷ zs) z ∙ sym (ap (λ b. cond b (x ∷ y ∷ G) (y ∷ put before x G)) e)
      two e true false Z z = z
      two e false true Z z = ap (λ zs. y ∷ zs) z
      two e false false Z z = z

      one : (b : Bool) → before x y ≡ b → filter q (put before x ys) ≡ cond (q x) (put before x G) G →
          filter q (cond b (x ∷ y ∷ ys) (y ∷ put before x ys)) ≡ cond (q x) (put before x F) F
      one true e ih = ap (λ zs. cond (q x) zs F) (sym (front x F (all_part (λ z. before x z ≡ true) q (y ∷ ys) (e, o.0 x e))))
      one false e ih = two e (q x) (q y) (filter q (put before x ys)) ih

  pub ordered_all : (xs : List X) → Ordered (in_order before xs)
  unfolding in_order
  ordered_all [] = tt
  ordered_all (x ∷ xs) = ordered_put x (in_order before xs) (ordered_all xs)

  pub in_order_cut : (q : X → Bool) (xs : List X) → filter q (in_order before xs) ≡ in_order before (filter q xs)
  unfolding in_order
  in_order_cut q [] = refl
  in_order_cut q (x ∷ xs) = put_cut q x (in_order before xs) (ordered_all xs) ∙ one (q x) (in_order_cut q xs)
    where
      one : (b : Bool) → filter q (in_order before xs) ≡ in_order before (filter q xs) →
          cond b (put before x (filter q (in_order before xs))) (filter q (in_order before xs)) ≡ in_order before (cond b (x ∷ filter q xs) (filter q xs))
      one true ih = ap (put before x) ih
      one false ih = ih

module _ {X : Type 0} (before : X → X → Bool)
    (on : (a b c : X) → before a b ≡ true → before b c ≡ true → before a c ≡ true)
    (one_way : (a b : X) → before a b ≡ true → before b a ≡ false) where
  -- of two that are apart it does not matter which is put first
  pub put_swap : (x r : X) (zs : List X) → before x r ≡ true → put before x (put before r zs) ≡ put before r (put before x zs)
  unfolding put
  put_swap x r [] h = rw (h, one_way x r h) refl
  put_swap x r (z ∷ zs) h = one (before r z) refl (before x z) refl (put_swap x r zs h)
    where
      one : (p : Bool) → before r z ≡ p → (q : Bool) → before x z ≡ q → put before x (put before r zs) ≡ put before r (put before x zs) →
          put before x (cond p (r ∷ z ∷ zs) (z ∷ put before r zs)) ≡ put before r (cond q (x ∷ z ∷ zs) (z ∷ put before x zs))
      one true e true f ih = rw (h, one_way x r h, e) refl
      one true e false f ih = absurd (false≢true (sym f ∙ on x r z h e))
      one false e true f ih = rw (f, one_way x r h, e) refl
      one false e false f ih = rw (f, e) (ap (λ ys. z ∷ ys) ih)

  -- each of these is apart from r
  abbrev pub Apart : X → List X → Type 0
  Apart r [] = Unit {0}
  Apart r (x ∷ xs) = ((before x r ≡ true) ⊎ (before r x ≡ true)) × Apart r xs

  -- one more at the end is put in its place
  pub in_order_more : (xs : List X) (r : X) → Apart r xs → in_order before (xs ++ r ∷ []) ≡ put before r (in_order before xs)
  unfolding in_order put
  in_order_more [] r a = refl
  in_order_more (x ∷ xs) r a = ap (put before x) (in_order_more xs r a.1) ∙ one a.0
    where
      one : (before x r ≡ true) ⊎ (before r x ≡ true) → put before x (put before r (in_order before xs)) ≡ put before r (put before x (in_order before xs))
      one (inl h) = put_swap x r (in_order before xs) h
      one (inr h) = sym (put_swap r x (in_order before xs) h)

-- ---- by another order

module _ {X Y : Type 0} (f : X → Y) (before : Y → Y → Bool) where
  pub put_map : (x : X) (ys : List X) → map f (put (λ a b. before (f a) (f b)) x ys) ≡ put before (f x) (map f ys)
  unfolding put
  put_map x [] = refl
  put_map x (y ∷ ys) = elim (cases_Bool (before (f x) (f y))) [ inl first ↦ rw first refl | inr later ↦ rw later (ap (λ l. f y ∷ l) (put_map x ys)) ]

  pub in_order_map : (xs : List X) → map f (in_order (λ a b. before (f a) (f b)) xs) ≡ in_order before (map f xs)
  unfolding in_order
  in_order_map [] = refl
  in_order_map (x ∷ xs) = put_map x (in_order (λ a b. before (f a) (f b)) xs) ∙ ap (put before (f x)) (in_order_map xs)

-- two orders that agree on what is kept
module _ {X : Type 0} (p r : X → X → Bool) (q : X → Bool) (agree : (a b : X) → q a ≡ true → q b ≡ true → p a b ≡ r a b) where
  put_same : (x : X) (ys : List X) → q x ≡ true → list_all q ys ≡ true → put p x ys ≡ put r x ys
  unfolding put
  put_same x [] h k = refl
  put_same x (y ∷ ys) h k = let both : (q y ≡ true) × (list_all q ys ≡ true) = and_parts _ _ k in rw (agree x y h both.0, put_same x ys h both.1) refl

  pub in_order_same : (xs : List X) → list_all q xs ≡ true → in_order p xs ≡ in_order r xs
  unfolding in_order
  in_order_same [] k = refl
  in_order_same (x ∷ xs) k =
      let both : (q x ≡ true) × (list_all q xs ≡ true) = and_parts _ _ k in
      ap (put p x) (in_order_same xs both.1) ∙ put_same x (in_order r xs) both.0 (tests_in_order r q xs both.1)
