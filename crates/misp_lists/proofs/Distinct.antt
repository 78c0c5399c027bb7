-- Lists of which no two elements are alike.
use Rattle.std.proofs.Common.{◌≡◌, List, [], ◌∷◌, ◌++◌, Bool, true, false, refl, sym, ◌∙◌, cond, map, inl, inr, filter, Contains}
use Rattle.std.proofs.lemmas.Bool.{cases_Bool, or_parts, false≢true, false_from_ne_true}
use Rattle.misp_lists.specs.Prelude.{AllByRecursion, IsDistinct, in_order, list_any, put}
use Rattle.misp_lists.proofs.Elements.{here, there, of_part}
use Rattle.misp_lists.proofs.All.{all_implied, all_of, all_among, all_map, all_part, all_last}
use Rattle.misp_lists.proofs.Ordering.{all_put, all_in_order}

module _ {X : Type 0} (e : X → X → Bool) (back : (a b : X) → e a b ≡ false → e b a ≡ false) where
  pub apart_part : (q : X → Bool) (xs : List X) → IsDistinct e xs → IsDistinct e (filter q xs)
  unfolding IsDistinct
  apart_part q [] d = tt
  apart_part q (x ∷ xs) d = elim (cases_Bool (q x)) [ inl hit ↦ rw hit (all_part (λ y. e x y ≡ false) q xs d.0, apart_part q xs d.1) | inr miss ↦ rw miss (apart_part q xs d.1) ]

  pub apart_put : (before : X → X → Bool) (x : X) (ys : List X) → AllByRecursion (λ y. e x y ≡ false) ys → IsDistinct e ys → IsDistinct e (put before x ys)
  unfolding IsDistinct put
  apart_put before x [] a d = (tt, tt)
  apart_put before x (y ∷ ys) a d = elim (cases_Bool (before x y)) [
    | inl first ↦ rw first (a, d)
    | inr later ↦ rw later (all_put (λ z. e y z ≡ false) before x ys (back x y a.0) d.0, apart_put before x ys a.1 d.1)
  ]

  -- what is apart is so in any order
  pub apart_in_order : (before : X → X → Bool) (xs : List X) → IsDistinct e xs → IsDistinct e (in_order before xs)
  unfolding IsDistinct in_order
  apart_in_order before [] d = tt
  apart_in_order before (x ∷ xs) d = apart_put before x (in_order before xs) (all_in_order (λ y. e x y ≡ false) before xs d.0) (apart_in_order before xs d.1)

module _ {X : Type 0} (e : X → X → Bool) where
  pub distinct_none : IsDistinct e []
  unfolding IsDistinct
  distinct_none = tt

  -- one more that no element equals
  pub distinct_last : (xs : List X) (x : X) → IsDistinct e xs → list_any (λ y. e y x) xs ≡ false → IsDistinct e (xs ++ x ∷ [])
  unfolding IsDistinct
  distinct_last [] x d new = (tt, tt)
  distinct_last (y ∷ ys) x d new = let parts = or_parts (e y x) (list_any (λ z. e z x) ys) new in (all_last (λ z. e y z ≡ false) ys x d.0 parts.0, distinct_last ys x d.1 parts.1)

  -- ---- by two tests

  pub distinct_weaker : (f : X → X → Bool) → ((a b : X) → f a b ≡ false → e a b ≡ false) → (xs : List X) → IsDistinct f xs → IsDistinct e xs
  unfolding IsDistinct
  distinct_weaker f h [] d = tt
  distinct_weaker f h (x ∷ xs) d = (all_implied (λ y. f x y ≡ false) (λ y. e x y ≡ false) (λ y. h x y) xs d.0, distinct_weaker f h xs d.1)

  -- what differs differs still where two tests give it
  pub distinct_part : (f : X → X → Bool) (p : X → Bool) (xs : List X) →
      ((a b : X) → Contains xs a → Contains xs b → p a ≡ true → p b ≡ true → f a b ≡ true → e a b ≡ true) → IsDistinct e xs → IsDistinct f (filter p xs)
  unfolding IsDistinct
  distinct_part f p [] h d = tt
  distinct_part f p (x ∷ xs) h d = one (p x) refl (distinct_part f p xs (λ a b m n. h a b (there x xs a m) (there x xs b n)) d.1)
    where
      other : p x ≡ true → (y : X) → Contains (filter p xs) y → f x y ≡ false
      other k y m =
          let n : (p y ≡ true) × Contains xs y = of_part p xs y m in
          false_from_ne_true (f x y) (λ t. false≢true (sym (all_of (λ z. e x z ≡ false) xs y d.0 n.1) ∙ h x y (here x xs) (there x xs y n.1) k n.0 t))

      one : (b : Bool) → p x ≡ b → IsDistinct f (filter p xs) → IsDistinct f (cond b (x ∷ filter p xs) (filter p xs))
      one true k ih = (all_among (λ y. f x y ≡ false) (filter p xs) (other k), ih)
      one false k ih = ih

module _ {X Y : Type 0} (g : X → Y) where
  pub distinct_map : (f : X → X → Bool) (e : Y → Y → Bool) → ((a b : X) → f a b ≡ false → e (g a) (g b) ≡ false) → (xs : List X) → IsDistinct f xs → IsDistinct e (map g xs)
  unfolding IsDistinct
  distinct_map f e h [] d = tt
  distinct_map f e h (x ∷ xs) d = (all_map g (λ y. f x y ≡ false) (λ y. e (g x) y ≡ false) (λ y. h x y) xs d.0, distinct_map f e h xs d.1)

  pub distinct_from_map : (e : Y → Y → Bool) (xs : List X) → IsDistinct e (map g xs) → IsDistinct (λ a b. e (g a) (g b)) xs
  unfolding IsDistinct
  distinct_from_map e [] d = tt
  distinct_from_map e (x ∷ xs) d = (all xs d.0, distinct_from_map e xs d.1)
    where
      all : (ys : List X) → AllByRecursion (λ y. e (g x) y ≡ false) (map g ys) → AllByRecursion (λ y. e (g x) (g y) ≡ false) ys
      all [] a = tt
      all (y ∷ ys) a = (a.0, all ys a.1)
