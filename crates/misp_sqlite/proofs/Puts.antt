-- A row that is put into the table is put among the rows that the table stands for.
use Rattle.std.proofs.Common.{◌≡◌, Bool, true, false, not, cond, List, [], ◌∷◌, map, refl, sym, ap, ◌∙◌, inl, inr, Ordering, Less, Equal, Greater, is_lt, is_eq, filter, ◌||◌}
use Rattle.std.specs.Ordering.{match_ordering}
use Rattle.sqlite_value.specs.Order.{Row, value_cmp}
use Rattle.sqlite_trees.specs.Tree.{rowid, put_row}
use Rattle.sqlite_rules.specs.Edit.{is_taken}
use Rattle.misp_lists.proofs.Prelude.{AllByRecursion, IsTotalOrder, cases_Bool, false≢true, less_of, ordering_reverse}
use Rattle.misp_lists.specs.Order.{in_order, put}
use Rattle.misp_lists.proofs.Ordering.{in_order_cut, put_swap}
use Rattle.misp_lists.proofs.Lists.{filter-map}
use Rattle.std.proofs.lemmas.Bool.{true_from_ne_false}
use Rattle.std.proofs.lemmas.List.Sorted.{ranks_by}

neither : (a b : Bool) → (a || b) ≡ false → (a ≡ false) × (b ≡ false)
neither true b h = absurd cc
neither false b h = (refl, h)

module _ {V : Type 0} (order : V → V → Ordering) (total : IsTotalOrder order) (view : Row → V) (is : Row → Bool) where
  abbrev before : V → V → Bool
  before a b = is_lt (order a b)

  -- what the rows stand for
  abbrev pub told : List Row → List V
  told rows = in_order before (map view (filter is rows))

  on : (a b c : V) → before a b ≡ true → before b c ≡ true → before a c ≡ true
  on a b c h k = ap is_lt (total.trans a b c (less_of _ h) (less_of _ k))

  one_way : (a b : V) → before a b ≡ true → before b a ≡ false
  one_way a b h = ap is_lt (total.antisymm b a) ∙ ap (λ o. is_lt (ordering_reverse o)) (less_of _ h)

  swapped : (x y : V) (zs : List V) → is_eq (order x y) ≡ false → put before x (put before y zs) ≡ put before y (put before x zs)
  swapped x y zs apart = one (order x y) refl
    where
      one : (o : Ordering) → order x y ≡ o → put before x (put before y zs) ≡ put before y (put before x zs)
      one Less e = put_swap before on one_way x y zs (ap is_lt e)
      one Equal e = absurd (let bad : true ≡ false = sym (ap is_eq e) ∙ apart in cc)
      one Greater e = sym (put_swap before on one_way y x zs (ap is_lt (total.antisymm y x ∙ ap ordering_reverse e)))

  pub told_put : (new : Row) (rest : List Row) → is new ≡ true → is_taken rest new ≡ false
      → AllByRecursion (λ r. is r ≡ true → is_eq (order (view r) (view new)) ≡ false) rest → told (put_row new rest) ≡ put before (view new) (told rest)
  unfolding in_order
  told_put new [] mine free apart = rw mine refl
  told_put new (r ∷ rs) mine free apart = go (told_put new rs mine (neither (is_eq (value_cmp (rowid r) (rowid new))) (is_taken rs new) free).1 apart.1) (value_cmp (rowid r) (rowid new)) (neither (is_eq (value_cmp (rowid r) (rowid new))) (is_taken rs new) free).0
    where
      go : told (put_row new rs) ≡ put before (view new) (told rs) → (o : Ordering) → is_eq o ≡ false → told (match_ordering o (r ∷ put_row new rs) (new ∷ rs) (new ∷ r ∷ rs)) ≡ put before (view new) (told (r ∷ rs))
      go rest_told Less h = elim (cases_Bool (is r)) [
        | inl hit ↦ rw hit (ap (put before (view r)) rest_told ∙ swapped (view r) (view new) (told rs) (apart.0 hit))
        | inr miss ↦ rw miss rest_told
      ]
      go rest_told Equal h = absurd cc
      go rest_told Greater h = rw mine refl

  -- a row that stands for nothing is nothing more
  pub told_other : (new : Row) (rest : List Row) → is new ≡ false → is_taken rest new ≡ false → told (put_row new rest) ≡ told rest
  unfolding in_order
  told_other new [] other free = rw other refl
  told_other new (r ∷ rs) other free = go (told_other new rs other (neither (is_eq (value_cmp (rowid r) (rowid new))) (is_taken rs new) free).1) (value_cmp (rowid r) (rowid new)) (neither (is_eq (value_cmp (rowid r) (rowid new))) (is_taken rs new) free).0
    where
      go : told (put_row new rs) ≡ told rs → (o : Ordering) → is_eq o ≡ false → told (match_ordering o (r ∷ put_row new rs) (new ∷ rs) (new ∷ r ∷ rs)) ≡ told (r ∷ rs)
      go rest_told Less h = elim (cases_Bool (is r)) [
        | inl hit ↦ rw hit (ap (put before (view r)) rest_told)
        | inr miss ↦ rw miss rest_told
      ]
      go rest_told Equal h = absurd cc
      go rest_told Greater h = rw other refl

  -- ---- a row in place of those that were not kept

  past : (w x y : V) → before w y ≡ true → before x y ≡ false → before w x ≡ true
  past w x y h k = true_from_ne_false _ (λ e. false≢true (sym ((ranks_by total (λ (v : V). v)).chain w x y e k) ∙ h))

  twice : (p : V → Bool) (keep : Row → Bool) (rows : List Row) → AllByRecursion (λ r. is r ≡ true → p (view r) ≡ keep r) rows
      → filter (λ r. p (view r)) (filter is rows) ≡ filter is (filter keep rows)
  twice p keep [] same = refl
  twice p keep (r ∷ rows) same = go (is r) refl (keep r) refl (twice p keep rows same.1)
    where
      go : (a : Bool) → is r ≡ a → (b : Bool) → keep r ≡ b → filter (λ s. p (view s)) (filter is rows) ≡ filter is (filter keep rows)
          → filter (λ s. p (view s)) (cond a (r ∷ filter is rows) (filter is rows)) ≡ filter is (cond b (r ∷ filter keep rows) (filter keep rows))
      go true e true k more = rw (e, same.0 e ∙ k) (ap (λ rs. r ∷ rs) more)
      go true e false k more = rw (same.0 e ∙ k) more
      go false e true k more = rw e more
      go false e false k more = more

  told_kept : (p : V → Bool) (keep : Row → Bool) (rows : List Row) → AllByRecursion (λ r. is r ≡ true → p (view r) ≡ keep r) rows → filter p (told rows) ≡ told (filter keep rows)
  told_kept p keep rows same =
      in_order_cut before on past p (map view (filter is rows)) ∙ ap (in_order before) (filter-map view p (filter is rows) ∙ ap (map view) (twice p keep rows same))

  pub apart_kept : (new : Row) (keep : Row → Bool) (rows : List Row) → AllByRecursion (λ r. is r ≡ true → is_eq (order (view r) (view new)) ≡ not (keep r)) rows
      → AllByRecursion (λ r. is r ≡ true → is_eq (order (view r) (view new)) ≡ false) (filter keep rows)
  apart_kept new keep [] same = tt
  apart_kept new keep (r ∷ rows) same = elim (cases_Bool (keep r)) [
    | inl hit ↦ rw hit ((λ mine. same.0 mine ∙ ap not hit), apart_kept new keep rows same.1)
    | inr miss ↦ rw miss (apart_kept new keep rows same.1)
  ]

  all_turned : (new : Row) (keep : Row → Bool) (rows : List Row) → AllByRecursion (λ r. is r ≡ true → is_eq (order (view r) (view new)) ≡ not (keep r)) rows
      → AllByRecursion (λ r. is r ≡ true → not (is_eq (order (view r) (view new))) ≡ keep r) rows
  all_turned new keep [] same = tt
  all_turned new keep (r ∷ rows) same = ((λ mine. ap not (same.0 mine) ∙ back (keep r)), all_turned new keep rows same.1)
    where
      back : (b : Bool) → not (not b) ≡ b
      back true = refl
      back false = refl

  -- where the rows of its name are those that were not kept
  pub told_in_place : (new : Row) (keep : Row → Bool) (rows : List Row) → is new ≡ true → is_taken (filter keep rows) new ≡ false
      → AllByRecursion (λ r. is r ≡ true → is_eq (order (view r) (view new)) ≡ not (keep r)) rows
      → told (put_row new (filter keep rows)) ≡ put before (view new) (filter (λ v. not (is_eq (order v (view new)))) (told rows))
  told_in_place new keep rows mine free same =
      told_put new (filter keep rows) mine free (apart_kept new keep rows same)
      ∙ ap (put before (view new)) (sym (told_kept (λ v. not (is_eq (order v (view new)))) keep rows (all_turned new keep rows same)))

  -- where each row that stands for something was kept
  pub told_as_before : (new : Row) (keep : Row → Bool) (rows : List Row) → is new ≡ false → is_taken (filter keep rows) new ≡ false
      → AllByRecursion (λ r. is r ≡ true → keep r ≡ true) rows → told (put_row new (filter keep rows)) ≡ told rows
  told_as_before new keep rows other free all =
      told_other new (filter keep rows) other free ∙ ap (λ rs. in_order before (map view rs)) (sym (twice (λ v. true) keep rows (turned rows all)) ∙ every (filter is rows))
    where
      turned : (rs : List Row) → AllByRecursion (λ r. is r ≡ true → keep r ≡ true) rs → AllByRecursion (λ r. is r ≡ true → true ≡ keep r) rs
      turned [] all = tt
      turned (r ∷ rs) all = ((λ mine. sym (all.0 mine)), turned rs all.1)

      every : (rs : List Row) → filter (λ r. true) rs ≡ rs
      every [] = refl
      every (r ∷ rs) = ap (λ qs. r ∷ qs) (every rs)
