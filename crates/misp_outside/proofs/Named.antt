-- The rows of one event whose names begin with given bytes stand together.
use Rattle.std.proofs.Common.{◌≡◌, ℕ, Bool, true, false, not, ◌==◌, nat_eq, List, [], ◌∷◌, ◌++◌, refl, sym, ap, subst, ◌∙◌, inl, inr, arith, Ordering, Less, nat_cmp, is_le, filter, eqb-true, eq-eqb, true≢false, append-nil}
use Rattle.std.specs.List.{starts_with}
use Rattle.std.specs.declared.ops.Bound.TheVariants.{Included, Unbounded}
use Rattle.std.specs.BTreeMap.Range.{entries_between}
use Rattle.misp_lists.proofs.Prelude.{all_implies, and_from, and_parts, ascend, cases_Bool, false_from_ne_true, less_of, list_all, nat_tests, ordering_then, slice_cmp}
use Rattle.misp_ids.specs.declared.uid.EventId.{EventId}
use Rattle.misp_lists.proofs.Ordering.{ascend_kept}
use Rattle.misp_outside.specs.declared.row.RawRow.{RawRow}
use Rattle.misp_outside.specs.Held.{name_order, raw_name, is_named, rows_named, comes_before}
use Rattle.misp_outside.specs.Stored.{raw_row, raw_rows, key_order}
use Rattle.misp_outside.proofs.Rows.{Key, Cells, Ascend, raw_ascend, next_row, no_rows, le_then, same_number}

-- ---- bytes

-- where two that are equal stand round a third, it is equal, and what follows decides
record Between (x y : ℕ) (p q : Ordering) : Type 0 where
  same : x ≡ y
  least : is_le p ≡ true
  less : q ≡ Less

between : (x y z : ℕ) (p q : Ordering) → is_le (ordering_then (nat_cmp x y) p) ≡ true → ordering_then (nat_cmp y z) q ≡ Less → z ≡ x → Between x y p q
between x y z p q least less same = record {
  same = grind (arith, nat_tests);
  least = grind (arith, nat_tests);
  less = grind (arith, nat_tests);
}

-- what stands between the bytes and others that begin with them begins with them
begins_between : (front a b : List ℕ) → is_le (slice_cmp nat_cmp front a) ≡ true → slice_cmp nat_cmp a b ≡ Less → starts_with nat_eq b front ≡ true → starts_with nat_eq a front ≡ true
begins_between [] a b least less begins = refl
begins_between (x ∷ front) [] b least less begins = absurd cc
begins_between (x ∷ front) (y ∷ a) [] least less begins = absurd cc
begins_between (x ∷ front) (y ∷ a) (z ∷ b) least less begins =
    let both : (nat_eq x z ≡ true) × (starts_with nat_eq b front ≡ true) = and_parts _ _ begins in
    let there = between x y z (slice_cmp nat_cmp front a) (slice_cmp nat_cmp a b) least less (sym (eqb-true x z both.0)) in
    and_from _ _ (eq-eqb x y there.same) (begins_between front a b there.least there.less both.1)

-- the bytes stand before all that begins with them
begins_after : (front a : List ℕ) → starts_with nat_eq a front ≡ true → is_le (slice_cmp nat_cmp front a) ≡ true
begins_after [] [] begins = refl
begins_after [] (y ∷ a) begins = refl
begins_after (x ∷ front) [] begins = absurd cc
begins_after (x ∷ front) (y ∷ a) begins =
    let both : (nat_eq x y ≡ true) × (starts_with nat_eq a front ≡ true) = and_parts _ _ begins in
    le_then (nat_cmp x y) (slice_cmp nat_cmp front a) (same_number x y (eqb-true x y both.0)) (begins_after front a both.1)

-- ---- rows

module _ (event : EventId) (front : List ℕ) where
  -- the row stands under the event and these bytes, or after them
  abbrev pub stands_from : RawRow → Bool
  stands_from row = is_le (name_order (event.0.0, front) (raw_name row))

  abbrev named : RawRow → Bool
  named row = is_named event front (raw_name row)

  named_from : (row : RawRow) → named row ≡ true → stands_from row ≡ true
  named_from row is =
      let both : ((row.event.0.0 == event.0.0) ≡ true) × (starts_with nat_eq row.name front ≡ true) = and_parts _ _ is in
      le_then (nat_cmp event.0.0 row.event.0.0) (slice_cmp nat_cmp front row.name) (same_number event.0.0 row.event.0.0 (sym (eqb-true _ _ both.0))) (begins_after front row.name both.1)

  -- what comes before a row that is so named is so named
  named_between : (row next : RawRow) → stands_from row ≡ true → comes_before row next ≡ true → named next ≡ true → named row ≡ true
  unfolding comes_before
  named_between row next from before is =
      let both : ((next.event.0.0 == event.0.0) ≡ true) × (starts_with nat_eq next.name front ≡ true) = and_parts _ _ is in
      let there = between event.0.0 row.event.0.0 next.event.0.0 (slice_cmp nat_cmp front row.name) (slice_cmp nat_cmp row.name next.name) from (less_of _ before) (eqb-true _ _ both.0) in
      and_from _ _ (eq-eqb row.event.0.0 event.0.0 (sym there.same)) (begins_between front row.name next.name there.least there.less both.1)

  -- rows that ascend from the event and these bytes on
  pub record IsFrom (rows : List RawRow) : Type 0 where
    pub up : ascend comes_before rows ≡ true
    pub from : list_all stands_from rows ≡ true

  none_named : (rows : List RawRow) → list_all (λ row. not (named row)) rows ≡ true → rows_named event front rows ≡ []
  unfolding rows_named
  none_named [] none = refl
  none_named (row ∷ rows) none = elim (cases_Bool (named row)) [
    | inl hit ↦ absurd (true≢false (sym (and_parts _ _ none).0 ∙ ap not hit))
    | inr miss ↦ rw miss (none_named rows (and_parts _ _ none).1)
  ]

  -- after one that is not so named none is
  named_end : (row : RawRow) (rows : List RawRow) → IsFrom (row ∷ rows) → named row ≡ false → rows_named event front (row ∷ rows) ≡ []
  unfolding ascend
  named_end row rows are other =
      let behind : list_all (λ next. not (named next)) rows ≡ true =
      all_implies (comes_before row) (λ next. not (named next))
      (λ next before. ap not (false_from_ne_true (named next) (λ is. true≢false (sym (named_between row next (and_parts _ _ are.from).0 before is) ∙ other)))) rows
      (and_parts _ _ are.up).0 in
      none_named (row ∷ rows) (and_from _ _ (ap not other) behind)

  named_more : (row : RawRow) (rows : List RawRow) → named row ≡ true → rows_named event front (row ∷ rows) ≡ row ∷ rows_named event front rows
  unfolding rows_named
  named_more row rows is = rw is refl

  named_none : rows_named event front [] ≡ []
  unfolding rows_named
  named_none = refl

  from_rest : (row : RawRow) (rows : List RawRow) → IsFrom (row ∷ rows) → IsFrom rows
  unfolding ascend
  from_rest row rows are = record { up = (and_parts _ _ are.up).1; from = (and_parts _ _ are.from).1 }

  pub named_ascend : (rows : List RawRow) → ascend comes_before rows ≡ true → ascend comes_before (rows_named event front rows) ≡ true
  unfolding rows_named
  named_ascend rows up = ascend_kept comes_before named rows up

  -- ---- a part of a table

  named_kept : (rows : List RawRow) → rows_named event front (filter stands_from rows) ≡ rows_named event front rows
  unfolding rows_named
  named_kept [] = refl
  named_kept (row ∷ rows) = elim (cases_Bool (named row)) [
    | inl hit ↦ rw (named_from row hit, hit) (ap (λ more. row ∷ more) (named_kept rows))
    | inr miss ↦ elim (cases_Bool (stands_from row)) [
      | inl here ↦ rw (here, miss) (named_kept rows)
      | inr before ↦ rw (before, miss) (named_kept rows)
    ]
  ]

  kept_from : (rows : List RawRow) → list_all stands_from (filter stands_from rows) ≡ true
  kept_from [] = refl
  kept_from (row ∷ rows) = elim (cases_Bool (stands_from row)) [
    | inl here ↦ rw here (and_from _ _ here (kept_from rows))
    | inr before ↦ rw before (kept_from rows)
  ]

  abbrev pub part : Key → Cells → Cells
  part low cells = entries_between (key_order nat_cmp) (Included low) Unbounded cells

  pub part_rows : (low : Key) (cells : Cells) → low.0 ≡ event.0.0 → low.1.items ≡ front → raw_rows (part low cells) ≡ filter stands_from (raw_rows cells)
  unfolding raw_rows
  part_rows low [] here is = refl
  part_rows low (cell ∷ cells) here is =
      let same : is_le (key_order nat_cmp low cell.0) ≡ stands_from (raw_row cell) = λ i. is_le (name_order (here i, is i) (raw_name (raw_row cell))) in
      elim (cases_Bool (stands_from (raw_row cell))) [
        | inl hit ↦ rw (same, hit) (ap (λ more. raw_row cell ∷ more) (part_rows low cells here is))
        | inr miss ↦ rw (same, miss) (part_rows low cells here is)
      ]

  -- from the event and these bytes on there are all rows that are so named
  pub named_part : (low : Key) (cells : Cells) → low.0 ≡ event.0.0 → low.1.items ≡ front → rows_named event front (raw_rows (part low cells)) ≡ rows_named event front (raw_rows cells)
  named_part low cells here is = ap (rows_named event front) (part_rows low cells here is) ∙ named_kept (raw_rows cells)

  pub from_part : (low : Key) (cells : Cells) → low.0 ≡ event.0.0 → low.1.items ≡ front → Ascend cells → IsFrom (raw_rows (part low cells))
  from_part low cells here is up = rw (part_rows low cells here is) (record {
    up = ascend_kept comes_before stands_from (raw_rows cells) (raw_ascend cells up);
    from = kept_from (raw_rows cells);
  })

  -- ---- a loop over it

  -- the first key is so named
  pub next_named : (cell : Key × List ℕ) (cells : Cells) → is_named event front (cell.0.0, cell.0.1.items) ≡ true → rows_named event front (raw_rows (cell ∷ cells)) ≡ raw_row cell ∷ rows_named event front (raw_rows cells)
  next_named cell cells is = ap (rows_named event front) (next_row cell cells) ∙ named_more (raw_row cell) (raw_rows cells) is

  pub rest_from : (cell : Key × List ℕ) (cells left : Cells) → left ≡ cell ∷ cells → IsFrom (raw_rows left) → IsFrom (raw_rows cells)
  rest_from cell cells left next are =
      from_rest (raw_row cell) (raw_rows cells) (subst IsFrom (ap raw_rows next ∙ next_row cell cells) are)

  -- it is not, and so none is
  pub last_named : (cell : Key × List ℕ) (cells left : Cells) → left ≡ cell ∷ cells → IsFrom (raw_rows left) → is_named event front (cell.0.0, cell.0.1.items) ≡ false → rows_named event front (raw_rows left) ≡ []
  last_named cell cells left next are other =
      let same : raw_rows left ≡ raw_row cell ∷ raw_rows cells = ap raw_rows next ∙ next_row cell cells in
      ap (rows_named event front) same ∙ named_end (raw_row cell) (raw_rows cells) (subst IsFrom same are) other

  -- no key is left
  pub none_left : (left : Cells) → left ≡ [] → rows_named event front (raw_rows left) ≡ []
  none_left left none = ap (rows_named event front) (ap raw_rows none ∙ no_rows) ∙ named_none

  -- where none is left that is so named, all were found
  pub all_named : (found all : List RawRow) (left : Cells) → rows_named event front (raw_rows left) ≡ [] → found ++ rows_named event front (raw_rows left) ≡ all → found ≡ all
  all_named found all left none so_far = sym (append-nil found) ∙ ap (λ rows. found ++ rows) (sym none) ∙ so_far
