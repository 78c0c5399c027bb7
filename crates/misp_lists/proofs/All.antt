-- What holds of each element of a list.
use Rattle.std.proofs.Common.{◌≡◌, ℕ, zero, suc, ◌<◌, ◌≤◌, Bool, true, List, [], ◌∷◌, ◌++◌, length, get_or, take, drop, set, map, find, Some, inl, inr, refl, subst, arith, filter, insert, Contains}
use Rattle.std.specs.List.{list_all, AllWithin, AllByRecursion}
use Rattle.std.proofs.lemmas.Bool.{cases_Bool, and_from}
use Rattle.misp_lists.proofs.Elements.{here, there, found_among}

pub all_implied : {X : Type 0} (P Q : X → Type 0) → ((x : X) → P x → Q x) → (xs : List X) → AllByRecursion P xs → AllByRecursion Q xs
all_implied P Q implies [] all = tt
all_implied P Q implies (x ∷ xs) all = (implies x all.0, all_implied P Q implies xs all.1)

pub all_both : {X : Type 0} (P Q : X → Type 0) (xs : List X) → AllByRecursion P xs → AllByRecursion Q xs → AllByRecursion (λ x. P x × Q x) xs
all_both P Q [] a b = tt
all_both P Q (x ∷ xs) a b = ((a.0, b.0), all_both P Q xs a.1 b.1)

pub all_map : {X Y : Type 0} (f : X → Y) (P : X → Type 0) (Q : Y → Type 0) → ((x : X) → P x → Q (f x)) → (xs : List X) → AllByRecursion P xs → AllByRecursion Q (map f xs)
all_map f P Q h [] a = tt
all_map f P Q h (x ∷ xs) a = (h x a.0, all_map f P Q h xs a.1)

pub all_true : {X : Type 0} (p : X → Bool) (xs : List X) → AllByRecursion (λ x. p x ≡ true) xs → list_all p xs ≡ true
all_true p [] all = refl
all_true p (x ∷ xs) all = and_from _ _ all.0 (all_true p xs all.1)

module _ {X : Type 0} (P : X → Type 0) where
  -- ---- at each place, and of each element

  pub all_at : (xs : List X) (k : ℕ) (d : X) → k < length xs → AllByRecursion P xs → P (get_or xs k d)
  all_at [] k d below all = absurd (omega arith)
  all_at (x ∷ xs) zero d below all = all.0
  all_at (x ∷ xs) (suc k) d below all = all_at xs k d (omega arith) all.1

  pub all_from : (xs : List X) → ((k : ℕ) (d : X) → k < length xs → P (get_or xs k d)) → AllByRecursion P xs
  all_from [] each = tt
  all_from (x ∷ xs) each = (each zero x (omega arith), all_from xs (λ k d below. each (suc k) d (omega arith)))

  pub all_of : (xs : List X) (x : X) → AllByRecursion P xs → Contains xs x → P x
  all_of [] x a m = let lt = m.1 in absurd (omega arith)
  all_of (y ∷ xs) x a (zero, lt, e) = subst P e a.0
  all_of (y ∷ xs) x a (suc k, lt, e) = all_of xs x a.1 (k, omega arith, e)

  pub all_among : (xs : List X) → ((x : X) → Contains xs x → P x) → AllByRecursion P xs
  all_among [] h = tt
  all_among (x ∷ xs) h = (h x (here x xs), all_among xs (λ y m. h y (there x xs y m)))

  pub all_found : (q : X → Bool) (xs : List X) (x : X) → AllByRecursion P xs → find q xs ≡ Some x → P x
  all_found q xs x all e = all_of xs x all (found_among q xs x e)

  -- ---- of a part

  pub all_front : (xs : List X) (i : ℕ) → i ≤ length xs → AllWithin P xs 0 i → AllByRecursion P (take i xs)
  all_front xs zero within each = tt
  all_front [] (suc i) within each = tt
  all_front (x ∷ xs) (suc i) within each = (each zero x (omega arith) (omega arith), all_front xs i (omega arith) (λ k d low high. each (suc k) d (omega arith) (omega arith)))

  pub all_back : (xs : List X) (i : ℕ) → AllWithin P xs i (length xs) → AllByRecursion P (drop i xs)
  all_back [] zero each = tt
  all_back [] (suc i) each = tt
  all_back (x ∷ xs) zero each = (each zero x (omega arith) (omega arith), all_back xs zero (λ k d low high. each (suc k) d (omega arith) (omega arith)))
  all_back (x ∷ xs) (suc i) each = all_back xs i (λ k d low high. each (suc k) d (omega arith) (omega arith))

  pub all_take : (n : ℕ) (xs : List X) → AllByRecursion P xs → AllByRecursion P (take n xs)
  all_take zero xs a = tt
  all_take (suc n) [] a = tt
  all_take (suc n) (x ∷ xs) a = (a.0, all_take n xs a.1)

  pub all_part : (q : X → Bool) (xs : List X) → AllByRecursion P xs → AllByRecursion P (filter q xs)
  all_part q [] a = tt
  all_part q (x ∷ xs) a = elim (cases_Bool (q x)) [ inl hit ↦ rw hit (a.0, all_part q xs a.1) | inr miss ↦ rw miss (all_part q xs a.1) ]

  -- what a test gives holds of what it keeps
  pub all_kept : (q : X → Bool) → ((x : X) → q x ≡ true → P x) → (xs : List X) → AllByRecursion P (filter q xs)
  all_kept q h [] = tt
  all_kept q h (x ∷ xs) = elim (cases_Bool (q x)) [ inl hit ↦ rw hit (h x hit, all_kept q h xs) | inr miss ↦ rw miss (all_kept q h xs) ]

  pub middle : (xs ys : List X) (x : X) → AllByRecursion P (xs ++ x ∷ ys) → P x
  middle [] ys x all = all.0
  middle (y ∷ xs) ys x all = middle xs ys x all.1

  -- ---- with one element more, or another one

  pub all_last : (xs : List X) (x : X) → AllByRecursion P xs → P x → AllByRecursion P (xs ++ x ∷ [])
  all_last [] x all is = (is, tt)
  all_last (y ∷ ys) x all is = (all.0, all_last ys x all.1 is)

  pub all_insert : (xs : List X) (i : ℕ) (x : X) → P x → AllByRecursion P xs → AllByRecursion P (insert xs i x)
  all_insert xs zero x here all = (here, all)
  all_insert [] (suc i) x here all = (here, tt)
  all_insert (y ∷ ys) (suc i) x here all = (all.0, all_insert ys i x here all.1)

  pub all_set : (xs : List X) (i : ℕ) (x : X) → P x → AllByRecursion P xs → AllByRecursion P (set xs i x)
  all_set [] i x here all = tt
  all_set (y ∷ ys) zero x here all = (here, all.1)
  all_set (y ∷ ys) (suc i) x here all = (all.0, all_set ys i x here all.1)

-- of a part, what holds and what it is kept by
pub all_filter : {X : Type 0} (P : X → Type 0) (q : X → Bool) (xs : List X) → AllByRecursion P xs → AllByRecursion (λ x. P x × (q x ≡ true)) (filter q xs)
all_filter P q xs all = all_both P (λ x. q x ≡ true) (filter q xs) (all_part P q xs all) (all_kept (λ x. q x ≡ true) q (λ x h. h) xs)
