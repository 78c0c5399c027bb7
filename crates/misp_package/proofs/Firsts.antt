-- The row that none goes before, found in one pass.
use Rattle.std.proofs.Common.{◌≡◌, Bool, true, false, refl, ap, sym, ◌∙◌, cond, List, [], ◌∷◌, Option, Some, None, ◌||◌, not, find, filter}
use Rattle.std.proofs.lemmas.Bool.{false≢true, not-false}
use Rattle.misp_lists.proofs.Lists.{any_implies, find_by}
use Rattle.misp_model.specs.Prelude.{Row, first_of_all, is_before, list_any}
use Rattle.misp_model.proofs.RowRanks.{before_not, before_on, before_past}
use Rattle.misp_package.specs.Passing.{better}

-- nothing goes before the row of these
abbrev none_before : List Row → Row → Bool
none_before xs y = not (list_any (λ other. is_before other y) xs)

where_one : (a b : Bool) → (a ≡ true → b ≡ true) → (c : Bool) → (a || (b || c)) ≡ (b || c)
where_one true b h c = sym (ap (λ t. t || c) (h refl))
where_one false b h c = refl

where_other : (a b : Bool) → (b ≡ true → a ≡ true) → (c : Bool) → (a || (b || c)) ≡ (a || c)
where_other true b h c = refl
where_other false true h c = absurd (false≢true (h refl))
where_other false false h c = refl

none_passes : (a : Bool) → not (a || true) ≡ false
none_passes true = refl
none_passes false = refl

module _ (b x : Row) (xs : List Row) where
  -- of two rows in front the later goes before the other
  goes_first : is_before x b ≡ true → first_of_all (b ∷ x ∷ xs) ≡ first_of_all (x ∷ xs)
  unfolding first_of_all
  goes_first h =
      ap (λ t. cond t (Some b) (find (none_before (b ∷ x ∷ xs)) (x ∷ xs))) beaten
      ∙ find_by (none_before (b ∷ x ∷ xs)) (none_before (x ∷ xs)) (λ y. ap not (where_one (is_before b y) (is_before x y) (before_on x b y h) (list_any (λ other. is_before other y) xs))) (x ∷ xs)
    where
      beaten : none_before (b ∷ x ∷ xs) b ≡ false
      beaten = rw (before_not b, h) refl

  -- it does not
  stays_first : is_before x b ≡ false → first_of_all (b ∷ x ∷ xs) ≡ first_of_all (b ∷ xs)
  unfolding first_of_all
  stays_first k =
      find_by (none_before (b ∷ x ∷ xs)) (none_before (b ∷ xs)) (λ y. ap not (where_other (is_before b y) (is_before x y) (one y) (list_any (λ other. is_before other y) xs))) (b ∷ x ∷ xs)
      ∙ two (none_before (b ∷ xs) b) refl
    where
      one : (y : Row) → is_before x y ≡ true → is_before b y ≡ true
      one y h = three (is_before b y) refl
        where
          three : (t : Bool) → is_before b y ≡ t → t ≡ true
          three true e = refl
          three false e = absurd (false≢true (sym k ∙ before_past x b y h e))

      beaten : none_before (b ∷ xs) b ≡ false → none_before (b ∷ xs) x ≡ false
      beaten e =
          let some : list_any (λ other. is_before other b) xs ≡ true = not-false _ (sym (ap (λ t. not (t || list_any (λ other. is_before other b) xs)) (before_not b)) ∙ e) in
          ap (λ t. not (is_before b x || t)) (any_implies (λ other. is_before other b) (λ other. is_before other x) (λ w h. before_past w x b h k) xs some) ∙ none_passes (is_before b x)

      two : (t : Bool) → none_before (b ∷ xs) b ≡ t → cond t (Some b) (find (none_before (b ∷ xs)) (x ∷ xs)) ≡ cond t (Some b) (find (none_before (b ∷ xs)) xs)
      two true e = refl
      two false e = ap (λ t. cond t (Some x) (find (none_before (b ∷ xs)) xs)) (beaten e)

-- the best so far, and the rows that are left
abbrev pub with_best : Option Row → List Row → List Row
with_best None rows = rows
with_best (Some best) rows = best ∷ rows

-- one row more
pub best_more : (q : Row → Bool) (best new : Option Row) (row : Row) (rest : List Row) (counts : Bool) → counts ≡ q row → new ≡ better best row counts →
    first_of_all (with_best new (filter q rest)) ≡ first_of_all (with_best best (filter q (row ∷ rest)))
best_more q best new row rest counts e f =
    ap (λ (o : Option Row). first_of_all (with_best o (filter q rest))) f ∙ one best counts
    ∙ ap (λ t. first_of_all (with_best best (cond t (row ∷ filter q rest) (filter q rest)))) e
  where
    one : (o : Option Row) (t : Bool) → first_of_all (with_best (better o row t) (filter q rest)) ≡ first_of_all (with_best o (cond t (row ∷ filter q rest) (filter q rest)))
    one None true = refl
    one None false = refl
    one (Some b) false = refl
    one (Some b) true = two (is_before row b) refl
      where
        two : (t : Bool) → is_before row b ≡ t → first_of_all (with_best (cond t (Some row) (Some b)) (filter q rest)) ≡ first_of_all (b ∷ row ∷ filter q rest)
        two true h = sym (goes_first b row (filter q rest) h)
        two false k = sym (stays_first b row (filter q rest) k)

-- none is left
pub best_all : (best : Option Row) → first_of_all (with_best best []) ≡ best
unfolding first_of_all
best_all None = refl
best_all (Some b) = rw (before_not b) refl
