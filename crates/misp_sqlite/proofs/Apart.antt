-- Rows of the table of which no two have one name, before a row was put and after it.
use Rattle.std.proofs.Common.{◌≡◌, ◌≤◌, Bool, true, false, not, List, [], ◌∷◌, length, map, refl, sym, ap, subst, ◌∙◌, inl, inr, arith, Ordering, Less, is_lt, is_eq, filter, Contains}
use Rattle.sqlite_value.specs.Order.{Row}
use Rattle.sqlite_trees.specs.Tree.{IsAscending, put_row}
use Rattle.sqlite_rules.specs.Edit.{is_taken}
use Rattle.misp_lists.specs.Order.{ascend, in_order, put}
use Rattle.misp_lists.proofs.All.{all_among, all_implied, all_kept, all_of}
use Rattle.misp_lists.proofs.Elements.{here, there, kept_has, map_from, map_has, of_part}
use Rattle.misp_lists.proofs.Ordering.{ascend_kept, from_in_order, in_order_has, put_has}
use Rattle.misp_lists.proofs.Prelude.{AllByRecursion, IsStrictlySortedBy, IsTotalOrder, cases_Bool, ordering_reverse}
use Rattle.misp_lists.proofs.Sorting.{ascend_put}
use Rattle.misp_sqlite.proofs.Ascending.{ascends, flips, one_way, strictly}
use Rattle.misp_sqlite.proofs.Puts.{apart_kept, told, told_put}
use Rattle.misp_sqlite.proofs.Values.{tied}

not_itself : (p : Bool) → not p ≡ p → ⊥
not_itself true h = absurd cc
not_itself false h = absurd cc

twice_not : (p : Bool) → not (not p) ≡ p
twice_not true = refl
twice_not false = refl

module _ {V : Type 0} (order : V → V → Ordering) (total : IsTotalOrder order) where
  abbrev before : V → V → Bool
  before a b = is_lt (order a b)

  -- among those that one was put into it has its place alone
  unput : (x : V) (ys : List V) → IsStrictlySortedBy order (put before x ys) → IsStrictlySortedBy order ys × AllByRecursion (λ y. is_eq (order x y) ≡ false) ys
  unfolding put IsStrictlySortedBy
  unput x [] up = (tt, tt)
  unput x (y ∷ ys) up = elim (cases_Bool (before x y)) [
    | inl first ↦
        let both : IsStrictlySortedBy order (x ∷ y ∷ ys) = rw first at up in
        (both.1, all_implied (λ z. order x z ≡ Less) (λ z. is_eq (order x z) ≡ false) (λ z less. ap is_eq less) (y ∷ ys) both.0)
    | inr later ↦
        let both : AllByRecursion (λ z. order y z ≡ Less) (put before x ys) × IsStrictlySortedBy order (put before x ys) = rw later at up in
        let more = unput x ys both.1 in
        let behind = λ (z : V) (m : Contains (x ∷ ys) z). all_of (λ w. order y w ≡ Less) (put before x ys) z both.0 (put_has before x ys z m) in
        ((all_among (λ z. order y z ≡ Less) ys (λ z m. behind z (there x ys z m)), more.0), (ap is_eq (total.antisymm x y ∙ ap ordering_reverse (behind x (here x ys))), more.1))
  ]

  -- one that is put in place of those that are tied with it
  pub ascend_after : (x : V) (ys : List V) → ascend before ys ≡ true → ascend before (put before x (filter (λ y. not (is_eq (order y x))) ys)) ≡ true
  ascend_after x ys up =
      let others = filter (λ y. not (is_eq (order y x))) ys in
      ascends order total _ (ascend_put order total before (one_way order total) (λ a b h. h) (λ a b. is_eq (order a b)) (λ a b. refl) x others
      (all_kept (λ y. is_eq (order x y) ≡ false) (λ y. not (is_eq (order y x))) (λ y other. flips order total x y ∙ not_true _ other) ys)
      (strictly order total others (ascend_kept before (λ y. not (is_eq (order y x))) ys up)))
    where
      not_true : (b : Bool) → not b ≡ true → b ≡ false
      not_true true h = absurd cc
      not_true false h = refl

  -- of two of which one is tied with a third and the other is not, neither is tied with the other
  unlike : (a b n : V) (p : Bool) → is_eq (order a n) ≡ not p → is_eq (order b n) ≡ p → is_eq (order a b) ≡ false
  unlike a b n p h k = elim (cases_Bool (is_eq (order a b))) [
    | inl same ↦ absurd (not_itself p (sym h ∙ ap is_eq (total.congr a b n (tied _ same)) ∙ k))
    | inr other ↦ other
  ]

  module _ (view : Row → V) (is : Row → Bool) where
    -- where both stand for something, they do not have one name
    abbrev IsApart : Row → Row → Type 0
    IsApart r s = is r ≡ true → is s ≡ true → is_eq (order (view r) (view s)) ≡ false

    abbrev AreApart : List Row → Type 0
    AreApart rows = IsAscending IsApart rows

    abbrev all : List Row → List V
    all rows = told order total view is rows

    of_told : (P : V → Type 0) (rows : List Row) → AllByRecursion P (all rows) → AllByRecursion (λ r. is r ≡ true → P (view r)) rows
    of_told P rows each = all_among (λ r. is r ≡ true → P (view r)) rows
        (λ r m mine. all_of P (all rows) (view r) each (in_order_has before (map view (filter is rows)) (view r) (map_has view (filter is rows) r (kept_has is rows r m mine))))

    to_told : (P : V → Type 0) (rows : List Row) → AllByRecursion (λ r. is r ≡ true → P (view r)) rows → AllByRecursion P (all rows)
    to_told P rows each = all_among P (all rows) (λ y m.
        let found = map_from view (filter is rows) y (from_in_order before (map view (filter is rows)) y m) in
        let part = of_part is rows found.0 found.1.0 in
        subst P found.1.1 (all_of (λ r. is r ≡ true → P (view r)) rows found.0 each part.1 part.0))

    -- what the rows stand for ascends strictly exactly where no two have one name
    apart_rows : (rows : List Row) → IsStrictlySortedBy order (all rows) → AreApart rows
    unfolding in_order
    apart_rows [] up = tt
    apart_rows (r ∷ rows) up = elim (cases_Bool (is r)) [
      | inl hit ↦
          let first : IsStrictlySortedBy order (put before (view r) (all rows)) = rw hit at up in
          let parts = unput (view r) (all rows) first in
          (all_implied (λ s. is s ≡ true → is_eq (order (view r) (view s)) ≡ false) (IsApart r) (λ s f mine. f) rows (of_told (λ y. is_eq (order (view r) y) ≡ false) rows parts.1), apart_rows rows parts.0)
      | inr miss ↦ (all_among (IsApart r) rows (λ s m mine its. absurd (let bad = sym miss ∙ mine in cc)), apart_rows rows (rw miss at up))
    ]

    rows_ascend : (rows : List Row) → AreApart rows → IsStrictlySortedBy order (all rows)
    unfolding in_order IsStrictlySortedBy
    rows_ascend [] apart = tt
    rows_ascend (r ∷ rows) apart = elim (cases_Bool (is r)) [
      | inl hit ↦
          let others = to_told (λ y. is_eq (order (view r) y) ≡ false) rows (all_implied (IsApart r) (λ s. is s ≡ true → is_eq (order (view r) (view s)) ≡ false) (λ s f. f hit) rows apart.0) in
          rw hit (ascend_put order total before (one_way order total) (λ x y h. h) (λ x y. is_eq (order x y)) (λ x y. refl) (view r) (all rows) others (rows_ascend rows apart.1))
      | inr miss ↦ rw miss (rows_ascend rows apart.1)
    ]

    -- ---- a row in place of at most one that was not kept

    module _ (new : V) (keep : Row → Bool) where
      -- it has the name of the new one exactly where it was not kept
      abbrev IsKept : Row → Type 0
      IsKept r = is r ≡ true → is_eq (order (view r) new) ≡ not (keep r)

      abbrev gone : Row → Bool
      gone r = not (keep r)

      one_kept : (r s : Row) (p : Bool) → IsKept r → IsKept s → keep r ≡ p → keep s ≡ not p → IsApart r s
      one_kept r s p h k first second mine its = unlike (view r) (view s) new p (h mine ∙ ap not first) (k its ∙ ap not second ∙ twice_not p)

      beside_kept : (r : Row) → IsKept r → keep r ≡ true → (rows : List Row) → AllByRecursion IsKept rows → AllByRecursion (IsApart r) (filter keep rows) → AllByRecursion (IsApart r) rows
      beside_kept r h e [] each apart = tt
      beside_kept r h e (s ∷ rows) each apart = elim (cases_Bool (keep s)) [
        | inl hit ↦
            let both : IsApart r s × AllByRecursion (IsApart r) (filter keep rows) = rw hit at apart in
            (both.0, beside_kept r h e rows each.1 both.1)
        | inr miss ↦ (one_kept r s true h each.0 e miss, beside_kept r h e rows each.1 (rw miss at apart))
      ]

      beside_gone : (r : Row) → IsKept r → keep r ≡ false → (rows : List Row) → AllByRecursion IsKept rows → length (filter gone rows) ≤ 0 → AllByRecursion (IsApart r) rows
      beside_gone r h e [] each none = tt
      beside_gone r h e (s ∷ rows) each none = elim (cases_Bool (keep s)) [
        | inl hit ↦ (one_kept r s false h each.0 e hit, beside_gone r h e rows each.1 (rw hit at none))
        | inr miss ↦ absurd (let more = rw miss at none in omega (arith, more))
      ]

      with_gone : (rows : List Row) → AllByRecursion IsKept rows → length (filter gone rows) ≤ 1 → AreApart (filter keep rows) → AreApart rows
      with_gone [] each few apart = tt
      with_gone (r ∷ rows) each few apart = elim (cases_Bool (keep r)) [
        | inl hit ↦
            let both : AllByRecursion (IsApart r) (filter keep rows) × AreApart (filter keep rows) = rw hit at apart in
            (beside_kept r each.0 hit rows each.1 both.0, with_gone rows each.1 (rw hit at few) both.1)
        | inr miss ↦
            let more = rw miss at few in
            let none : length (filter gone rows) ≤ 0 = omega (arith, more) in
            (beside_gone r each.0 miss rows each.1 none, with_gone rows each.1 (omega (arith, none)) (rw miss at apart))
      ]

    -- where no two rows have one name once the row is put, no two had before
    pub before_put : (new : Row) (keep : Row → Bool) (rows : List Row) → is new ≡ true → is_taken (filter keep rows) new ≡ false
        → AllByRecursion (λ r. is r ≡ true → is_eq (order (view r) (view new)) ≡ not (keep r)) rows → length (filter (λ r. not (keep r)) rows) ≤ 1
        → ascend before (all (put_row new (filter keep rows))) ≡ true → ascend before (all rows) ≡ true
    before_put new keep rows mine free each few up =
        let put_is = told_put order total view is new (filter keep rows) mine free (apart_kept order total view is new keep rows each) in
        let parts = unput (view new) (all (filter keep rows)) (strictly order total _ (subst (λ l. ascend before l ≡ true) put_is up)) in
        ascends order total (all rows) (rows_ascend rows (with_gone (view new) keep rows each few (apart_rows (filter keep rows) parts.0)))
