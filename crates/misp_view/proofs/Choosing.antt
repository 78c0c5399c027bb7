-- The row that none goes before, found in one pass.
use Rattle.std.proofs.Common.{◌≡◌, ℕ, ◌+◌, ◌<◌, ◌≤◌, length, get_or, take, Bool, true, false, refl, ap, sym, ◌∙◌, cond, List, [], ◌∷◌, ◌++◌, Option, Some, None, arith, ◌&&◌, ◌||◌, not, find, filter, take_all, append-nil}
use Rattle.std.specs.Option.{option_or}
use Rattle.std.proofs.lemmas.Bool.{false≢true, and_right, and_left, and_from, not-true, not_from_false}
use Rattle.std.proofs.lemmas.List.Folds.{find-append, list_any-append}
use Rattle.std.proofs.lemmas.List.Elements.{filter_more}
use Rattle.misp_lists.proofs.Lists.{any_weaker, find_passes, find_by}
use Rattle.misp_model.specs.Prelude.{Row, first_of_all, is_before, list_any}
use Rattle.misp_model.proofs.RowRanks.{before_not, before_on, before_past}
use Rattle.misp_view.specs.View.{IsBestOf, better}

module _ {X : Type 0} where
  -- nothing is found where every element fails by another test
  find_never : (p q : X → Bool) → ((x : X) → q x ≡ false → p x ≡ false) → (xs : List X) → list_any q xs ≡ false → find p xs ≡ None
  find_never p q h [] e = refl
  find_never p q h (x ∷ xs) e = grind (arith, find_never p q h xs, h x)

  -- what is found is still found by a stronger test that it passes
  find_still : (p r : X → Bool) → ((x : X) → r x ≡ false → p x ≡ false) → (xs : List X) (b : X) → find r xs ≡ Some b → p b ≡ true → find p xs ≡ Some b
  find_still p r h [] b e k = e
  find_still p r h (x ∷ xs) b e k = one (r x) refl e (find_still p r h xs b)
    where
      one : (t : Bool) → r x ≡ t → cond t (Some x) (find r xs) ≡ Some b → (find r xs ≡ Some b → p b ≡ true → find p xs ≡ Some b) → cond (p x) (Some x) (find p xs) ≡ Some b
      one true g f ih = let same : x ≡ b = cc in rw (ap p same ∙ k) f
      one false g f ih = rw (h x g) (ih f k)

-- nothing goes before the row of these
none_before : List Row → Row → Bool
none_before xs y = not (list_any (λ other. is_before other y) xs)

-- one row more
step : (xs : List Row) (x y : Row) → none_before (xs ++ x ∷ []) y ≡ (none_before xs y && not (is_before x y))
unfolding none_before
step xs x y = ap not (list_any-append (λ other. is_before other y) xs (x ∷ [])) ∙ one (list_any (λ other. is_before other y) xs) (is_before x y)
  where
    one : (a b : Bool) → not (a || (b || false)) ≡ (not a && not b)
    one true b = refl
    one false true = refl
    one false false = refl

first_step : (xs : List Row) (x : Row) → first_of_all (xs ++ x ∷ []) ≡ option_or (find (λ y. none_before xs y && not (is_before x y)) xs) (cond (none_before xs x && not (is_before x x)) (Some x) None)
unfolding first_of_all none_before
first_step xs x =
    find_by (none_before (xs ++ x ∷ [])) (λ y. none_before xs y && not (is_before x y)) (step xs x) (xs ++ x ∷ [])
    ∙ find-append (λ y. none_before xs y && not (is_before x y)) xs (x ∷ [])

-- one row more, that goes before the best of these
module _ (xs : List Row) (x b : Row) (h : is_before x b ≡ true) where
  -- it goes before each of these
  passed : (y : Row) → is_before y b ≡ false → (none_before xs y && not (is_before x y)) ≡ false
  passed y k = rw (before_past x y b h k) (and_right (none_before xs y) false refl)

  -- none of these goes before it
  unpassed : (y : Row) → is_before y b ≡ false → is_before y x ≡ false
  unpassed y k = one (is_before y x) refl
    where
      one : (t : Bool) → is_before y x ≡ t → t ≡ false
      one true g = absurd (false≢true (sym k ∙ before_on y x b g h))
      one false g = refl

  none_goes : list_any (λ other. is_before other b) xs ≡ false → none_before xs x ≡ true
  unfolding none_before
  none_goes none = ap not (any_weaker (λ y. is_before y b) (λ y. is_before y x) unpassed xs none)

  goes_first : first_of_all xs ≡ Some b → first_of_all (xs ++ x ∷ []) ≡ Some x
  unfolding first_of_all
  goes_first e =
      let none : list_any (λ other. is_before other b) xs ≡ false = not-true _ (find_passes (λ y. not (list_any (λ other. is_before other y) xs)) xs b e) in
      first_step xs x
      ∙ rw (find_never (λ y. none_before xs y && not (is_before x y)) (λ y. is_before y b) passed xs none, before_not x, none_goes none) refl

-- one row more, that does not
stays_first : (xs : List Row) (x b : Row) → is_before x b ≡ false → first_of_all xs ≡ Some b → first_of_all (xs ++ x ∷ []) ≡ Some b
unfolding first_of_all none_before
stays_first xs x b h e =
    first_step xs x
    ∙ rw (
    find_still (λ y. none_before xs y && not (is_before x y)) (none_before xs) (λ y k. and_left _ (not (is_before x y)) k) xs b e
    (and_from _ _ (find_passes (none_before xs) xs b e) (not_from_false _ h))
    ) refl

alone : (x : Row) → first_of_all (x ∷ []) ≡ Some x
unfolding first_of_all
alone x = rw (before_not x) refl

apart : (x : Row) → Some x ≡ None → ⊥
apart x e = cc

pub best_step : (xs : List Row) (x : Row) (best : Option Row) → IsBestOf best xs → IsBestOf (better best x true) (xs ++ x ∷ [])
best_step xs x None h = record { is = sym (ap (λ ys. first_of_all (ys ++ x ∷ [])) (h.none refl) ∙ alone x); none = λ e. absurd (apart x e) }
best_step xs x (Some b) h = one (is_before x b) refl
  where
    one : (t : Bool) → is_before x b ≡ t → IsBestOf (cond t (Some x) (Some b)) (xs ++ x ∷ [])
    one true e = record { is = sym (goes_first xs x b e (sym h.is)); none = λ k. absurd (apart x k) }
    one false e = record { is = sym (stays_first xs x b e (sym h.is)); none = λ k. absurd (apart b k) }

-- a row that does not count
best_skip : (xs : List Row) (x : Row) (best : Option Row) → IsBestOf best xs → IsBestOf (better best x false) xs
best_skip xs x None h = h
best_skip xs x (Some b) h = h

pub best_more : (q : Row → Bool) (rows : List Row) (i : ℕ) (row : Row) (best new : Option Row) (counts : Bool) → i < length rows → row ≡ get_or rows i row →
    IsBestOf best (filter q (take i rows)) → counts ≡ q row → new ≡ better best row counts → IsBestOf new (filter q (take (i + 1) rows))
best_more q rows i row best new counts lt e h k g =
    let here : filter q (take (i + 1) rows) ≡ filter q (take i rows) ++ cond (q row) (row ∷ []) [] = filter_more q rows i row lt ∙ ap (λ r. filter q (take i rows) ++ cond (q r) (r ∷ []) []) (sym e) in
    rw (here, g, k) (one (q row))
  where
    one : (t : Bool) → IsBestOf (better best row t) (filter q (take i rows) ++ cond t (row ∷ []) [])
    one true = best_step (filter q (take i rows)) row best h
    one false = rw (append-nil (filter q (take i rows))) (best_skip (filter q (take i rows)) row best h)

pub best_all : (q : Row → Bool) (rows : List Row) (i : ℕ) (best : Option Row) → length rows ≤ i → IsBestOf best (filter q (take i rows)) → best ≡ first_of_all (filter q rows)
best_all q rows i best le h = h.is ∙ ap (λ xs. first_of_all (filter q xs)) (take_all i rows le)
