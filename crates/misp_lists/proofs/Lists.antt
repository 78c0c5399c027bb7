-- Tests, searches and selections.
use Rattle.std.proofs.Common.{◌≡◌, ℕ, suc, ◌<◌, List, [], ◌∷◌, Bool, true, false, refl, ap, sym, ◌∙◌, map, length, get_or, Some, None, is_some, is_ok, Result, Ok, Err, arith, inl, inr, ◌&&◌, ◌||◌, not, MatchResult, filter, find, ◌++◌}
use Rattle.std.proofs.Common.{if◌then◌else◌, IsOk}
use Rattle.std.specs.List.{list_any, list_all, AllByRecursion}
use Rattle.std.proofs.lemmas.Bool.{cases_Bool, and_parts, and_from, false≢true, false_from_ne_true}
use Rattle.std.proofs.lemmas.List.Folds.{list_all-append}

-- ---- tests of one element

-- tests that imply each other agree
pub alike : (a b : Bool) → (a ≡ true → b ≡ true) → (b ≡ true → a ≡ true) → a ≡ b
alike true b h k = sym (h refl)
alike false b h k = sym (false_from_ne_true b (λ e. false≢true (k e)))

-- where one test holds, two others agree
pub and_where : (c a b : Bool) → (c ≡ true → a ≡ b) → (c && a) ≡ (c && b)
and_where true a b h = h refl
and_where false a b h = refl

pub and_where_last : (a b c : Bool) → (c ≡ true → a ≡ b) → (a && c) ≡ (b && c)
and_where_last a b true h = ap (λ x. x && true) (h refl)
and_where_last true true false h = refl
and_where_last true false false h = refl
and_where_last false true false h = refl
and_where_last false false false h = refl

module _ {X : Type 0} where
  -- ---- tests that imply each other, or agree

  pub any_implies : (p q : X → Bool) → ((x : X) → p x ≡ true → q x ≡ true) → (xs : List X) → list_any p xs ≡ true → list_any q xs ≡ true
  any_implies p q h [] e = e
  any_implies p q h (x ∷ xs) e = grind (arith, any_implies p q h xs, h x)

  pub all_implies : (p q : X → Bool) → ((x : X) → p x ≡ true → q x ≡ true) → (xs : List X) → list_all p xs ≡ true → list_all q xs ≡ true
  all_implies p q h [] e = e
  all_implies p q h (x ∷ xs) e = grind (arith, all_implies p q h xs, h x)

  pub any_weaker : (p q : X → Bool) → ((x : X) → p x ≡ false → q x ≡ false) → (xs : List X) → list_any p xs ≡ false → list_any q xs ≡ false
  any_weaker p q h [] e = refl
  any_weaker p q h (x ∷ xs) e = grind (arith, any_weaker p q h xs, h x)

  pub all_both_give : (p q r : X → Bool) → ((x : X) → p x ≡ true → q x ≡ true → r x ≡ true) → (xs : List X) → list_all p xs ≡ true → list_all q xs ≡ true → list_all r xs ≡ true
  all_both_give p q r h [] a b = refl
  all_both_give p q r h (x ∷ xs) a b = grind (arith, all_both_give p q r h xs, h x)

  pub any_by : (p r : X → Bool) → ((x : X) → p x ≡ r x) → (xs : List X) → list_any p xs ≡ list_any r xs
  any_by p r h [] = refl
  any_by p r h (x ∷ xs) = rw (h x, any_by p r h xs) refl

  pub find_by : (p r : X → Bool) → ((x : X) → p x ≡ r x) → (xs : List X) → find p xs ≡ find r xs
  find_by p r h [] = refl
  find_by p r h (x ∷ xs) = rw (h x, find_by p r h xs) refl

  pub all_alike : (p q : X → Bool) (xs : List X) → AllByRecursion (λ x. p x ≡ q x) xs → list_all p xs ≡ list_all q xs
  all_alike p q [] a = refl
  all_alike p q (x ∷ xs) a = λ i. a.0 i && all_alike p q xs a.1 i

  -- tests that agree where all elements pass a third one
  pub any_agree : (p r q : X → Bool) → ((x : X) → q x ≡ true → p x ≡ r x) → (xs : List X) → list_all q xs ≡ true → list_any p xs ≡ list_any r xs
  any_agree p r q h [] e = refl
  any_agree p r q h (x ∷ xs) e = grind (arith, any_agree p r q h xs, h x)

  pub filter_agree : (p r q : X → Bool) → ((x : X) → q x ≡ true → p x ≡ r x) → (xs : List X) → list_all q xs ≡ true → filter p xs ≡ filter r xs
  filter_agree p r q h [] e = refl
  filter_agree p r q h (x ∷ xs) e = grind (arith, filter_agree p r q h xs, h x)

  pub all_same : (p r q : X → Bool) → ((x : X) → q x ≡ true → p x ≡ r x) → (xs : List X) → list_all q xs ≡ true → list_all p xs ≡ list_all r xs
  all_same p r q h [] e = refl
  all_same p r q h (x ∷ xs) e = grind (arith, all_same p r q h xs, h x)

  pub filter_never : (q : X → Bool) → ((x : X) → q x ≡ false) → (xs : List X) → filter q xs ≡ []
  filter_never q h [] = refl
  filter_never q h (x ∷ xs) = grind (arith, filter_never q h xs, h x)

  -- ---- a list that was cut by a test

  -- a test that implies the cut finds the same
  -- a test that implies the cut finds the same
  pub any_cut : (p q : X → Bool) → ((x : X) → p x ≡ true → q x ≡ true) → (xs : List X) → list_any p (filter q xs) ≡ list_any p xs
  any_cut p q h [] = refl
  any_cut p q h (x ∷ xs) = grind (arith, any_cut p q h xs, h x)

  pub find_cut : (p q : X → Bool) → ((x : X) → p x ≡ true → q x ≡ true) → (xs : List X) → find p (filter q xs) ≡ find p xs
  find_cut p q h [] = refl
  find_cut p q h (x ∷ xs) = grind (arith, find_cut p q h xs, h x)

  -- where nothing passes, nothing passes of a part
  pub any_none_cut : (p q : X → Bool) → (xs : List X) → list_any p xs ≡ false → list_any p (filter q xs) ≡ false
  any_none_cut p q [] h = refl
  any_none_cut p q (x ∷ xs) h = grind (arith, any_none_cut p q xs)

  -- selections follow one another in either order, where their tests agree on what is kept
  pub filter_cut : (p r q : X → Bool) → ((x : X) → q x ≡ true → p x ≡ r x) → (xs : List X) → filter p (filter q xs) ≡ filter q (filter r xs)
  filter_cut p r q h [] = refl
  filter_cut p r q h (x ∷ xs) = grind (arith, filter_cut p r q h xs, h x)

  -- tests that agree on what is kept
  pub any_same : (p r q : X → Bool) → ((x : X) → q x ≡ true → p x ≡ r x) → (xs : List X) → list_any p (filter q xs) ≡ list_any r (filter q xs)
  any_same p r q h [] = refl
  any_same p r q h (x ∷ xs) = grind (arith, any_same p r q h xs, h x)

  -- a selection that implies the cut, where the tests agree on what is kept
  pub filter_within : (p r q : X → Bool) → ((x : X) → q x ≡ true → p x ≡ r x) → ((x : X) → r x ≡ true → q x ≡ true) → (xs : List X) → filter p (filter q xs) ≡ filter r xs
  filter_within p r q h k [] = refl
  filter_within p r q h k (x ∷ xs) = grind (arith, filter_within p r q h k xs, h x, k x)

  -- a search likewise
  pub any_within : (p r q : X → Bool) → ((x : X) → q x ≡ true → p x ≡ r x) → ((x : X) → r x ≡ true → q x ≡ true) → (xs : List X) → list_any p (filter q xs) ≡ list_any r xs
  any_within p r q h k xs = any_same p r q h xs ∙ any_cut r q k xs

  -- a search that implies the cut, where the tests agree on what is kept
  pub find_within : (p r q : X → Bool) → ((x : X) → q x ≡ true → p x ≡ r x) → ((x : X) → r x ≡ true → q x ≡ true) → (xs : List X) → find p (filter q xs) ≡ find r xs
  find_within p r q h k [] = refl
  find_within p r q h k (x ∷ xs) = grind (arith, find_within p r q h k xs, h x, k x)

  -- what is found first is found first among a part that has it, by a test that agrees on the part
  pub find_first : (p r q : X → Bool) → ((x : X) → q x ≡ true → p x ≡ r x) → (xs : List X) (x : X) → find r xs ≡ Some x → q x ≡ true → find p (filter q xs) ≡ Some x
  find_first p r q h [] x e k = e
  find_first p r q h (y ∷ xs) x e k = grind (arith, find_first p r q h xs x, h y)

  -- where nothing is found, nothing is found in a part
  pub find_none : (p r q : X → Bool) → ((x : X) → q x ≡ true → p x ≡ r x) → (xs : List X) → find r xs ≡ None → find p (filter q xs) ≡ None
  find_none p r q h [] e = e
  find_none p r q h (y ∷ xs) e = grind (arith, find_none p r q h xs, h y)

  -- nothing is kept of what is not to be kept
  pub filter_none : (p q : X → Bool) → ((x : X) → p x ≡ true → q x ≡ false) → (xs : List X) → filter q (filter p xs) ≡ []
  filter_none p q h [] = refl
  filter_none p q h (x ∷ xs) = grind (arith, filter_none p q h xs, h x)

  -- each of a part, where a test that agrees on the part passes all
  pub all_cut : (p r q : X → Bool) → ((x : X) → q x ≡ true → r x ≡ true → p x ≡ true) → (xs : List X) → list_all r xs ≡ true → list_all p (filter q xs) ≡ true
  all_cut p r q h [] e = refl
  all_cut p r q h (x ∷ xs) e = grind (arith, all_cut p r q h xs, h x)

  pub all_of_kept : (p q : X → Bool) → ((x : X) → q x ≡ true → p x ≡ true) → (xs : List X) → list_all p (filter q xs) ≡ true
  all_of_kept p q h [] = refl
  all_of_kept p q h (x ∷ xs) = grind (arith, all_of_kept p q h xs, h x)

  pub filter_all : (q : X → Bool) (xs : List X) → list_all q xs ≡ true → filter q xs ≡ xs
  filter_all q [] h = refl
  filter_all q (x ∷ xs) h = grind (arith, filter_all q xs)

  -- what is found in a part is found in all
  pub any_of_part : (p q : X → Bool) (xs : List X) → list_any p (filter q xs) ≡ true → list_any p xs ≡ true
  any_of_part p q [] h = h
  any_of_part p q (x ∷ xs) h = grind (arith, any_of_part p q xs)

  pub all-filter : (p q : X → Bool) (xs : List X) → list_all p xs ≡ true → list_all p (filter q xs) ≡ true
  all-filter p q [] h = refl
  all-filter p q (x ∷ xs) h = grind (arith, all-filter p q xs)

  -- a search among those that pass a test
  pub any_of_kept : (p q : X → Bool) (xs : List X) → list_any p (filter q xs) ≡ list_any (λ x. p x && q x) xs
  any_of_kept p q [] = refl
  any_of_kept p q (x ∷ xs) = grind (arith, any_of_kept p q xs)

  -- one passes if there is one of those that pass
  pub any_is : (p : X → Bool) (xs : List X) → list_any p xs ≡ list_any (λ x. true) (filter p xs)
  any_is p [] = refl
  any_is p (x ∷ xs) = grind (arith, any_is p xs)

  -- lists of which the same pass
  pub any_alike : (p : X → Bool) (xs ys : List X) → filter p xs ≡ filter p ys → list_any p xs ≡ list_any p ys
  any_alike p xs ys h = any_is p xs ∙ ap (list_any (λ x. true)) h ∙ sym (any_is p ys)

  -- one selection after another
  pub filter_twice : (p q : X → Bool) (xs : List X) → filter q (filter p xs) ≡ filter (λ x. p x && q x) xs
  filter_twice p q [] = refl
  filter_twice p q (x ∷ xs) = grind (arith, filter_twice p q xs)

  -- ---- what is found

  -- what a search finds passes its test
  pub find_passes : (p : X → Bool) (xs : List X) (x : X) → find p xs ≡ Some x → p x ≡ true
  find_passes p [] x h = grind arith
  find_passes p (y ∷ xs) x h = grind (arith, find_passes p xs x)

  -- some element passes exactly where one is found
  pub any_found : (p : X → Bool) (xs : List X) → list_any p xs ≡ is_some (find p xs)
  any_found p [] = refl
  any_found p (x ∷ xs) = elim (cases_Bool (p x)) [ inl hit ↦ rw hit refl | inr miss ↦ rw miss (any_found p xs) ]

  -- and where a search by halves ends at one that is found
  pub any_from_search : (p : X → Bool) (xs : List X) (d : X) (r : Result ℕ ℕ) → MatchResult r (λ i. (e : X) → find p xs ≡ Some (get_or xs i e)) (λ i. find p xs ≡ None) → is_ok r ≡ list_any p xs
  any_from_search p xs d (Ok i) found = sym (any_found p xs ∙ ap is_some (found d))
  any_from_search p xs d (Err i) none = sym (any_found p xs ∙ ap is_some none)

  pub any_never : (p : X → Bool) → ((x : X) → p x ≡ false) → (xs : List X) → list_any p xs ≡ false
  any_never p h [] = refl
  any_never p h (x ∷ xs) = rw (h x, any_never p h xs) refl

  -- none passes, where each fails
  pub any_none : (p : X → Bool) (xs : List X) → ((k : ℕ) (d : X) → k < length xs → p (get_or xs k d) ≡ false) → list_any p xs ≡ false
  any_none p [] h = refl
  any_none p (x ∷ xs) h = rw (h 0 x (omega arith)) (any_none p xs (λ k d lt. h (suc k) d (omega arith)))

  -- none with a mark and none without are none
  pub none_either : (p q : X → Bool) (xs : List X) → list_any (λ x. p x && not (q x)) xs ≡ false → list_any (λ x. p x && q x) xs ≡ false → list_any p xs ≡ false
  none_either p q [] h k = refl
  none_either p q (x ∷ xs) h k = grind (arith, none_either p q xs)

module _ {X Y : Type 0} where
  -- ---- a list that is mapped

  pub filter-map : (f : X → Y) (q : Y → Bool) (xs : List X) → filter q (map f xs) ≡ map f (filter (λ x. q (f x)) xs)
  filter-map f q [] = refl
  filter-map f q (x ∷ xs) = grind (arith, filter-map f q xs)

  pub any_map : (f : X → Y) (p : Y → Bool) (xs : List X) → list_any p (map f xs) ≡ list_any (λ x. p (f x)) xs
  any_map f p [] = refl
  any_map f p (x ∷ xs) = ap (λ t. p (f x) || t) (any_map f p xs)

  -- functions that agree on what passes
  pub map_where : (f g : X → Y) (q : X → Bool) → ((x : X) → q x ≡ true → f x ≡ g x) → (xs : List X) → list_all q xs ≡ true → map f xs ≡ map g xs
  map_where f g q h [] k = refl
  map_where f g q h (x ∷ xs) k = λ i. h x (and_parts _ _ k).0 i ∷ map_where f g q h xs (and_parts _ _ k).1 i

  pub map_same : (f g : X → Y) (q : X → Bool) → ((x : X) → q x ≡ true → f x ≡ g x) → (xs : List X) → map f (filter q xs) ≡ map g (filter q xs)
  map_same f g q h [] = refl
  map_same f g q h (x ∷ xs) = grind (arith, map_same f g q h xs, h x)

  pub all-map : (p : Y → Bool) (f : X → Y) → ((x : X) → p (f x) ≡ true) → (xs : List X) → list_all p (map f xs) ≡ true
  all-map p f h [] = refl
  all-map p f h (x ∷ xs) = and_from _ _ (h x) (all-map p f h xs)

-- one function after another
pub map_twice : {X Y Z : Type 0} (f : X → Y) (g : Y → Z) (h : X → Z) → ((x : X) → g (f x) ≡ h x) → (xs : List X) → map g (map f xs) ≡ map h xs
map_twice f g h same [] = refl
map_twice f g h same (x ∷ xs) = λ i. same x i ∷ map_twice f g h same xs i

-- the first of a conjunction
pub first_part : (a b : Bool) → (a && b) ≡ true → a ≡ true
first_part a b h = (and_parts a b h).0

module _ {X : Type 0} where
  pub all_both : (p : X → Bool) (xs ys : List X) → list_all p xs ≡ true → list_all p ys ≡ true → list_all p (xs ++ ys) ≡ true
  all_both p xs ys h k = list_all-append p xs ys ∙ and_from _ _ h k

abbrev pub head_of : List ℕ → ℕ
head_of [] = 0
head_of (x ∷ xs) = x

abbrev pub tail_of : List ℕ → List ℕ
tail_of [] = []
tail_of (x ∷ xs) = xs

pub none_not_some : {A : Type 0} {a : A} → None ≡ Some a → ⊥
none_not_some h = false≢true (ap (λ o. elim o [ None ↦ false | Some x ↦ true ]) h)

-- what is in a Some
pub some_same : {A : Type 0} (a b : A) → Some a ≡ Some b → a ≡ b
some_same a b h = ap (λ o. elim o [ None ↦ a | Some x ↦ x ]) h

-- of two values the first, where there was no error
pub where_ok : {A E B : Type 0} (r : Result A E) (x y : B) → IsOk r → (if is_ok r then x else y) ≡ x
where_ok (Ok a) x y ok = refl
where_ok (Err e) x y ok = absurd cc
