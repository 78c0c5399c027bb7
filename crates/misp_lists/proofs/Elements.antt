-- Elements of a list, and tests that agree on the elements of a list.
use Rattle.std.proofs.Common.{◌≡◌, zero, suc, List, [], ◌∷◌, Bool, true, false, refl, ap, sym, ◌∙◌, cond, arith, Some, None, map, inl, inr, Option, ◌⊎◌, filter, find, Contains}
use Rattle.std.specs.List.{list_any, list_all}
use Rattle.std.proofs.lemmas.Bool.{and_parts, or_cases, or_left, or_right, false≢true}

module _ {X : Type 0} where
  pub here : (x : X) (xs : List X) → Contains (x ∷ xs) x
  here x xs = (0, omega arith, refl)

  pub there : (x : X) (xs : List X) (y : X) → Contains xs y → Contains (x ∷ xs) y
  there x xs y m = let lt = m.1 in (suc m.0, omega arith, m.2)

  -- an element of a list is its first, or one after it
  pub first_or : (y : X) (xs : List X) (x : X) → Contains (y ∷ xs) x → (y ≡ x) ⊎ Contains xs x
  first_or y xs x (zero, lt, e) = inl e
  first_or y xs x (suc k, lt, e) = inr (k, omega arith, e)

  -- an element that passes is found
  pub any_has : (p : X → Bool) (xs : List X) (x : X) → Contains xs x → p x ≡ true → list_any p xs ≡ true
  any_has p [] x m h = let lt = m.1 in absurd (omega arith)
  any_has p (y ∷ xs) x (zero, lt, e) h = or_left _ _ (ap p e ∙ h)
  any_has p (y ∷ xs) x (suc k, lt, e) h = or_right _ _ (any_has p xs x (k, omega arith, e) h)

  -- what is found is an element
  pub found_among : (p : X → Bool) (xs : List X) (x : X) → find p xs ≡ Some x → Contains xs x
  found_among p [] x h = absurd (false≢true (ap (λ (o : Option X). elim o [ None ↦ false | Some y ↦ true ]) h))
  found_among p (y ∷ xs) x h = one (p y) (found_among p xs x) h
    where
      some : Option X → X
      some o = elim o [ None ↦ x | Some z ↦ z ]

      one : (b : Bool) → (find p xs ≡ Some x → Contains xs x) → cond b (Some y) (find p xs) ≡ Some x → Contains (y ∷ xs) x
      one true ih h = (0, omega arith, ap some h)
      one false ih h = there y xs x (ih h)

  -- an element of what a test keeps passes it, and is an element of all
  pub of_part : (q : X → Bool) (xs : List X) (x : X) → Contains (filter q xs) x → (q x ≡ true) × Contains xs x
  of_part q [] x m = let lt = m.1 in absurd (omega arith)
  of_part q (y ∷ xs) x m = one (q y) refl (of_part q xs x) m
    where
      one : (b : Bool) → q y ≡ b → (Contains (filter q xs) x → (q x ≡ true) × Contains xs x) → Contains (cond b (y ∷ filter q xs) (filter q xs)) x → (q x ≡ true) × Contains (y ∷ xs) x
      one true e ih (zero, lt, s) = (ap q (sym s) ∙ e, (0, omega arith, s))
      one true e ih (suc k, lt, s) = let r : (q x ≡ true) × Contains xs x = ih (k, omega arith, s) in (r.0, there y xs x r.1)
      one false e ih m = let r : (q x ≡ true) × Contains xs x = ih m in (r.0, there y xs x r.1)

  -- a selection that implies the cut, where the tests agree on the elements that are kept
  pub filter_among : (p r q : X → Bool) (xs : List X) → ((x : X) → Contains xs x → q x ≡ true → p x ≡ r x) → ((x : X) → Contains xs x → r x ≡ true → q x ≡ true) → filter p (filter q xs) ≡ filter r xs
  filter_among p r q [] h k = refl
  filter_among p r q (x ∷ xs) h k = let e = h x (here x xs) in let d = k x (here x xs) in grind (arith, filter_among p r q xs (λ y m. h y (there x xs y m)) (λ y m. k y (there x xs y m)), e, d)

  -- a search likewise
  pub any_among : (p r q : X → Bool) (xs : List X) → ((x : X) → Contains xs x → q x ≡ true → p x ≡ r x) → ((x : X) → Contains xs x → r x ≡ true → q x ≡ true) → list_any p (filter q xs) ≡ list_any r xs
  any_among p r q [] h k = refl
  any_among p r q (x ∷ xs) h k = let e = h x (here x xs) in let d = k x (here x xs) in grind (arith, any_among p r q xs (λ y m. h y (there x xs y m)) (λ y m. k y (there x xs y m)), e, d)

  pub find_among : (p r q : X → Bool) (xs : List X) → ((x : X) → Contains xs x → q x ≡ true → p x ≡ r x) → ((x : X) → Contains xs x → r x ≡ true → q x ≡ true) → find p (filter q xs) ≡ find r xs
  find_among p r q [] h k = refl
  find_among p r q (x ∷ xs) h k = let e = h x (here x xs) in let d = k x (here x xs) in grind (arith, find_among p r q xs (λ y m. h y (there x xs y m)) (λ y m. k y (there x xs y m)), e, d)

-- an element of what is found
-- an element of what is found
pub found : {X : Type 0} (p : X → Bool) (xs : List X) → list_any p xs ≡ true → (x : X) × (Contains xs x × (p x ≡ true))
found {X = X} p [] h = absurd (false≢true h)
found {X = X} p (x ∷ xs) h = one (or_cases _ _ h) (found p xs)
  where
    one : (p x ≡ true) ⊎ (list_any p xs ≡ true) → (list_any p xs ≡ true → (y : X) × (Contains xs y × (p y ≡ true))) → (y : X) × (Contains (x ∷ xs) y × (p y ≡ true))
    one (inl e) f = (x, (here x xs, e))
    one (inr e) f = let g : (y : X) × (Contains xs y × (p y ≡ true)) = f e in (g.0, (there x xs g.0 g.1.0, g.1.1))

-- where all pass, each element does
pub all_has : {X : Type 0} (p : X → Bool) (xs : List X) (x : X) → list_all p xs ≡ true → Contains xs x → p x ≡ true
all_has p [] x h m = let lt = m.1 in absurd (omega arith)
all_has p (y ∷ xs) x h (zero, lt, e) = ap p (sym e) ∙ (and_parts _ _ h).0
all_has p (y ∷ xs) x h (suc k, lt, e) = all_has p xs x (and_parts _ _ h).1 (k, omega arith, e)

pub kept_has : {X : Type 0} (q : X → Bool) (xs : List X) (z : X) → Contains xs z → q z ≡ true → Contains (filter q xs) z
kept_has q [] z m h = m
kept_has q (x ∷ xs) z (zero, lt, e) h = one (q x) (ap q e ∙ h)
  where
    one : (b : Bool) → b ≡ true → Contains (cond b (x ∷ filter q xs) (filter q xs)) z
    one true k = (0, omega arith, e)
    one false k = absurd (false≢true k)
kept_has q (x ∷ xs) z (suc k, lt, e) h = one (q x) (kept_has q xs z (k, omega arith, e) h)
  where
    one : (b : Bool) → Contains (filter q xs) z → Contains (cond b (x ∷ filter q xs) (filter q xs)) z
    one true m = there x (filter q xs) z m
    one false m = m

pub map_has : {X Y : Type 0} (g : X → Y) (xs : List X) (x : X) → Contains xs x → Contains (map g xs) (g x)
map_has g [] x m = let lt = m.1 in absurd (omega arith)
map_has g (y ∷ xs) x (zero, lt, e) = (0, omega arith, ap g e)
map_has g (y ∷ xs) x (suc k, lt, e) = there (g y) (map g xs) (g x) (map_has g xs x (k, omega arith, e))

pub map_from : {X Y : Type 0} (g : X → Y) (xs : List X) (y : Y) → Contains (map g xs) y → (x : X) × (Contains xs x × (g x ≡ y))
map_from g [] y m = let lt = m.1 in absurd (omega arith)
map_from g (x ∷ xs) y (zero, lt, e) = (x, (here x xs, e))
map_from g (x ∷ xs) y (suc k, lt, e) = let f = map_from g xs y (k, omega arith, e) in (f.0, (there x xs f.0 f.1.0, f.1.1))
