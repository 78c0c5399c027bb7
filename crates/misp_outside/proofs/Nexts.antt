-- The first of the rows of one event whose name is not before given bytes.
use Rattle.std.proofs.Common.{◌≡◌, ℕ, Bool, true, false, not, ◌==◌, List, [], ◌∷◌, Some, None, refl, sym, ap, subst, ◌∙◌, inl, inr, arith, Ordering, Less, Equal, Greater, nat_cmp, is_le, is_ge, is_lt, filter, eqb-true, eq-eqb, true≢false}
use Rattle.misp_lists.proofs.Prelude.{all_implies, and_from, and_parts, ascend, cases_Bool, false_from_ne_true, list_all, nat_list_cmp_total, nat_tests, ordering_reverse, ordering_then, slice_cmp}
use Rattle.misp_ids.specs.declared.uid.EventId.{EventId}
use Rattle.misp_outside.specs.declared.row.RawRow.{RawRow}
use Rattle.misp_outside.specs.Held.{raw_name, is_from, next_row, comes_before}
use Rattle.misp_outside.specs.Stored.{raw_row, raw_rows}
use Rattle.misp_outside.proofs.Rows.{Key, Cells, Ascend, le_then, same_number, no_rows}
use Rattle.misp_outside.proofs.Rows as PR
use Rattle.misp_outside.proofs.Named.{IsFrom, stands_from, part, part_rows, from_part}

-- ---- orders

-- an order that is not less is turned to one that is not greater
turned_ge : (o : Ordering) → is_le (ordering_reverse o) ≡ is_ge o
turned_ge Less = refl
turned_ge Equal = refl
turned_ge Greater = refl

-- bytes are not before others exactly where the others are not after them
not_before : (a b : List ℕ) → is_ge (slice_cmp nat_cmp a b) ≡ is_le (slice_cmp nat_cmp b a)
not_before a b = sym (ap is_le (nat_list_cmp_total.antisymm b a) ∙ turned_ge (slice_cmp nat_cmp a b))

-- where the numbers are the same, what follows decides
then_same : (x y : ℕ) (p : Ordering) → is_le (ordering_then (nat_cmp x y) p) ≡ true → y ≡ x → is_le p ≡ true
then_same x y p least same = grind (arith, nat_tests)

-- what comes after a greater number is greater
number_past : (x y z : ℕ) (p q : Ordering) → is_le (ordering_then (nat_cmp x y) p) ≡ true → is_lt (ordering_then (nat_cmp y z) q) ≡ true → z ≡ x → y ≡ x
number_past x y z p q least less same = grind (arith, nat_tests)

-- ---- rows

module _ (event : EventId) (from : List ℕ) where
  abbrev fits : RawRow → Bool
  fits row = is_from event from (raw_name row)

  fits_from : (row : RawRow) → fits row ≡ true → stands_from event from row ≡ true
  fits_from row is =
      let both : ((row.event.0.0 == event.0.0) ≡ true) × (is_ge (slice_cmp nat_cmp row.name from) ≡ true) = and_parts _ _ is in
      le_then (nat_cmp event.0.0 row.event.0.0) (slice_cmp nat_cmp from row.name) (same_number event.0.0 row.event.0.0 (sym (eqb-true _ _ both.0))) (sym (not_before row.name from) ∙ both.1)

  -- a row of the event from these bytes on is one
  here_fits : (row : RawRow) → stands_from event from row ≡ true → row.event.0.0 ≡ event.0.0 → fits row ≡ true
  here_fits row stands here =
      and_from _ _ (eq-eqb _ _ here) (not_before row.name from ∙ then_same event.0.0 row.event.0.0 (slice_cmp nat_cmp from row.name) stands here)

  -- after a row of a later event none is of this one
  past_misses : (row next : RawRow) → stands_from event from row ≡ true → comes_before row next ≡ true → (row.event.0.0 == event.0.0) ≡ false → fits next ≡ false
  unfolding comes_before
  past_misses row next stands before other =
      false_from_ne_true (fits next)
      (λ is. true≢false
      (sym (eq-eqb row.event.0.0 event.0.0 (number_past event.0.0 row.event.0.0 next.event.0.0 (slice_cmp nat_cmp from row.name) (slice_cmp nat_cmp row.name next.name) stands before
      (eqb-true next.event.0.0 event.0.0 (and_parts _ _ is).0)))
      ∙ other))

  none_fits : (rows : List RawRow) → list_all (λ row. not (fits row)) rows ≡ true → next_row event from rows ≡ None
  unfolding next_row
  none_fits [] none = refl
  none_fits (row ∷ rows) none = elim (cases_Bool (fits row)) [
    | inl hit ↦ absurd (true≢false (sym (and_parts _ _ none).0 ∙ ap not hit))
    | inr miss ↦ rw miss (none_fits rows (and_parts _ _ none).1)
  ]

  first_fits : (row : RawRow) (rows : List RawRow) → fits row ≡ true → next_row event from (row ∷ rows) ≡ Some row
  unfolding next_row
  first_fits row rows is = rw is refl

  -- where the first from these bytes on is of a later event, there is none
  past_none : (row : RawRow) (rows : List RawRow) → IsFrom event from (row ∷ rows) → (row.event.0.0 == event.0.0) ≡ false → next_row event from (row ∷ rows) ≡ None
  unfolding ascend
  past_none row rows are other =
      let stands : stands_from event from row ≡ true = (and_parts _ _ are.from).0 in
      let behind : list_all (λ next. not (fits next)) rows ≡ true =
      all_implies (comes_before row) (λ next. not (fits next)) (λ next before. ap not (past_misses row next stands before other)) rows (and_parts _ _ are.up).0 in
      let first : fits row ≡ false = false_from_ne_true (fits row) (λ is. true≢false (sym (and_parts _ _ is).0 ∙ other)) in
      none_fits (row ∷ rows) (and_from _ _ (ap not first) behind)

  -- rows that stand before these bytes are none
  next_kept : (rows : List RawRow) → next_row event from (filter (stands_from event from) rows) ≡ next_row event from rows
  unfolding next_row
  next_kept [] = refl
  next_kept (row ∷ rows) = elim (cases_Bool (fits row)) [
    | inl hit ↦ rw (fits_from row hit, hit) refl
    | inr miss ↦ elim (cases_Bool (stands_from event from row)) [
      | inl here ↦ rw (here, miss) (next_kept rows)
      | inr before ↦ rw (before, miss) (next_kept rows)
    ]
  ]

  no_next : next_row event from [] ≡ None
  unfolding next_row
  no_next = refl

  -- ---- a part of a table

  next_part : (low : Key) (cells : Cells) → low.0 ≡ event.0.0 → low.1.items ≡ from → next_row event from (raw_rows (part event from low cells)) ≡ next_row event from (raw_rows cells)
  next_part low cells here is = ap (next_row event from) (part_rows event from low cells here is) ∙ next_kept (raw_rows cells)

  module _ (low : Key) (cells left : Cells) (here : low.0 ≡ event.0.0) (is : low.1.items ≡ from) (up : Ascend cells) (parts : left ≡ part event from low cells) where
    from_left : IsFrom event from (raw_rows left)
    from_left = subst (λ part. IsFrom event from (raw_rows part)) (sym parts) (from_part event from low cells here is up)

    of_left : next_row event from (raw_rows left) ≡ next_row event from (raw_rows cells)
    of_left = ap (λ part. next_row event from (raw_rows part)) parts ∙ next_part low cells here is

    -- the first key from these bytes on is one of the event
    pub first_here : (cell : Key × List ℕ) (rest : Cells) → left ≡ cell ∷ rest → cell.0.0 ≡ event.0.0 → next_row event from (raw_rows cells) ≡ Some (raw_row cell)
    first_here cell rest next same =
        let rows : raw_rows left ≡ raw_row cell ∷ raw_rows rest = ap raw_rows next ∙ PR.next_row cell rest in
        let are : IsFrom event from (raw_row cell ∷ raw_rows rest) = subst (IsFrom event from) rows from_left in
        sym of_left ∙ ap (next_row event from) rows
        ∙ first_fits (raw_row cell) (raw_rows rest) (here_fits (raw_row cell) (and_parts _ _ are.from).0 same)

    -- it is one of a later event
    pub first_past : (cell : Key × List ℕ) (rest : Cells) → left ≡ cell ∷ rest → ¬ (cell.0.0 ≡ event.0.0) → None ≡ next_row event from (raw_rows cells)
    first_past cell rest next other =
        let rows : raw_rows left ≡ raw_row cell ∷ raw_rows rest = ap raw_rows next ∙ PR.next_row cell rest in
        sym (sym of_left ∙ ap (next_row event from) rows
        ∙ past_none (raw_row cell) (raw_rows rest) (subst (IsFrom event from) rows from_left) (false_from_ne_true _ (λ same. other (eqb-true _ _ same))))

    -- there is no key
    pub no_first : left ≡ [] → None ≡ next_row event from (raw_rows cells)
    no_first none = sym (sym of_left ∙ ap (next_row event from) (ap raw_rows none ∙ no_rows) ∙ no_next)
