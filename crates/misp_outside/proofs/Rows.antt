-- The rows in a table, as a table and as rows are put.
use Rattle.std.proofs.Common.{◌≡◌, ℕ, ◌+◌, Bool, true, false, not, ◌==◌, List, [], ◌∷◌, length, map, refl, sym, ap, ◌∙◌, inl, inr, arith, Ordering, Less, Equal, Greater, nat_cmp, is_le, is_gt, filter, eqb-true, eq-eqb}
use Rattle.std.specs.Global.{Vec}
use Rattle.std.specs.declared.ops.Bound.{Bound}
use Rattle.std.specs.declared.ops.Bound.TheVariants.{Included, Excluded, Unbounded}
use Rattle.std.specs.BTreeMap.Range.{range_contains, entries_between, IsLeBy}
use Rattle.misp_lists.proofs.Prelude.{IsStrictlySortedBy, IsTotalOrder, and_from, ascend, cases_Bool, insert_entry, keys_of, nat_cmp_total, nat_tests, ordering_then, slice_cmp}
use Rattle.misp_ids.specs.declared.uid.EventId.{EventId}
use Rattle.misp_lists.proofs.Ordering.{ascend_kept}
use Rattle.misp_lists.proofs.Orders.{greater, less}
use Rattle.misp_outside.specs.declared.row.RawRow.{RawRow}
use Rattle.misp_outside.specs.declared.row.AdminRow.{AdminRow}
use Rattle.misp_outside.specs.declared.row.RawBatch.{RawBatch}
use Rattle.misp_outside.specs.Held.{Held, raw_name, admin_name, comes_before, admin_before, same_raw, same_admin, put_raw, put_admin, put_rows, put_admins, with_batch, rows_of}
use Rattle.misp_outside.specs.Stored.{raw_row, admin_row, raw_rows, admin_rows, key_order, Spans}
use Rattle.misp_outside.proofs.Names.{names_exact, order, total, put_by_order}
use Rattle.misp_outside.proofs.Tables.{keys_total, rows_ascend, rows_inserted}

-- a number and a name
abbrev pub Key : Type 0
Key = ℕ × Vec ℕ

-- what a table of either kind has for each key
abbrev pub Cells : Type 0
Cells = List (Key × List ℕ)

-- the keys ascend
abbrev pub Ascend : Cells → Type 0
Ascend cells = IsStrictlySortedBy (key_order nat_cmp) (keys_of cells)

key_cmp_total : IsTotalOrder (key_order nat_cmp)
key_cmp_total = keys_total nat_cmp nat_cmp_total

-- keys that the order does not tell apart stand for the same
same_key : (k q : Key) → key_order nat_cmp k q ≡ Equal → ◌≡◌ {A = ℕ × List ℕ} (q.0, q.1.items) (k.0, k.1.items)
same_key k q equal = sym (names_exact (k.0, k.1.items) (q.0, q.1.items) equal)

-- ---- rows of events

same_raw_row : (k q : Key) (x : List ℕ) → key_order nat_cmp k q ≡ Equal → raw_row (q, x) ≡ raw_row (k, x)
same_raw_row k q x equal i = record { event = record { 0 = record { 0 = (same_key k q equal i).0 } }; name = (same_key k q equal i).1; bytes = x }

-- rows ascend as keys do
pub raw_ascend : (cells : Cells) → Ascend cells → ascend comes_before (raw_rows cells) ≡ true
unfolding raw_rows comes_before
raw_ascend cells up = rows_ascend (key_order nat_cmp) key_cmp_total raw_row (order raw_name) (total raw_name) (λ e f. refl) same_raw_row cells up

-- a row whose key is inserted is put
raw_put : (row : RawRow) (name : Vec ℕ) (cells after : Cells) → name.items ≡ row.name → Ascend cells → after ≡ insert_entry (key_order nat_cmp) cells (row.event.0.0, name) row.bytes → raw_rows after ≡ put_raw row (raw_rows cells)
unfolding raw_rows put_raw comes_before same_raw
raw_put row name cells after same up inserted =
    let is : raw_row ((row.event.0.0, name), row.bytes) ≡ row = λ i. record { event = row.event; name = same i; bytes = row.bytes } in
    ap (map raw_row) inserted
    ∙ rows_inserted (key_order nat_cmp) key_cmp_total raw_row (order raw_name) (total raw_name) (λ e f. refl) same_raw_row cells (row.event.0.0, name) row.bytes up
    ∙ put_by_order raw_name (raw_row ((row.event.0.0, name), row.bytes)) (map raw_row cells)
    ∙ ap (λ new. put_raw new (map raw_row cells)) is

-- one row more is put, and the rest is left
pub more_raw : (row : RawRow) (left rest : List RawRow) (name : Vec ℕ) (cells after : Cells) (all : List RawRow) → left ≡ row ∷ rest → name.items ≡ row.name → Ascend cells
    → after ≡ insert_entry (key_order nat_cmp) cells (row.event.0.0, name) row.bytes → put_rows left (raw_rows cells) ≡ all → put_rows rest (raw_rows after) ≡ all
unfolding put_rows
more_raw row left rest name cells after all next same up inserted so_far =
    ap (put_rows rest) (raw_put row name cells after same up inserted) ∙ ap (λ rows. put_rows rows (raw_rows cells)) (sym next) ∙ so_far

pub no_rows : raw_rows [] ≡ []
unfolding raw_rows
no_rows = refl

pub next_row : (cell : Key × List ℕ) (cells : Cells) → raw_rows (cell ∷ cells) ≡ raw_row cell ∷ raw_rows cells
unfolding raw_rows
next_row cell cells = refl

-- ---- rows of the administration

same_admin_row : (k q : Key) (x : List ℕ) → key_order nat_cmp k q ≡ Equal → admin_row (q, x) ≡ admin_row (k, x)
same_admin_row k q x equal i = record { kind = (same_key k q equal i).0; name = (same_key k q equal i).1; bytes = x }

pub admin_ascend : (cells : Cells) → Ascend cells → ascend admin_before (admin_rows cells) ≡ true
unfolding admin_rows admin_before
admin_ascend cells up = rows_ascend (key_order nat_cmp) key_cmp_total admin_row (order admin_name) (total admin_name) (λ e f. refl) same_admin_row cells up

admin_put : (row : AdminRow) (name : Vec ℕ) (cells after : Cells) → name.items ≡ row.name → Ascend cells → after ≡ insert_entry (key_order nat_cmp) cells (row.kind, name) row.bytes → admin_rows after ≡ put_admin row (admin_rows cells)
unfolding admin_rows put_admin admin_before same_admin
admin_put row name cells after same up inserted =
    let is : admin_row ((row.kind, name), row.bytes) ≡ row = λ i. record { kind = row.kind; name = same i; bytes = row.bytes } in
    ap (map admin_row) inserted
    ∙ rows_inserted (key_order nat_cmp) key_cmp_total admin_row (order admin_name) (total admin_name) (λ e f. refl) same_admin_row cells (row.kind, name) row.bytes up
    ∙ put_by_order admin_name (admin_row ((row.kind, name), row.bytes)) (map admin_row cells)
    ∙ ap (λ new. put_admin new (map admin_row cells)) is

pub more_admin : (row : AdminRow) (left rest : List AdminRow) (name : Vec ℕ) (cells after : Cells) (all : List AdminRow) → left ≡ row ∷ rest → name.items ≡ row.name → Ascend cells
    → after ≡ insert_entry (key_order nat_cmp) cells (row.kind, name) row.bytes → put_admins left (admin_rows cells) ≡ all → put_admins rest (admin_rows after) ≡ all
unfolding put_admins
more_admin row left rest name cells after all next same up inserted so_far =
    ap (put_admins rest) (admin_put row name cells after same up inserted) ∙ ap (λ rows. put_admins rows (admin_rows cells)) (sym next) ∙ so_far

pub no_admins : admin_rows [] ≡ []
unfolding admin_rows
no_admins = refl

pub next_admin : (cell : Key × List ℕ) (cells : Cells) → admin_rows (cell ∷ cells) ≡ admin_row cell ∷ admin_rows cells
unfolding admin_rows
next_admin cell cells = refl

-- ---- both

-- what two tables hold
abbrev pub held_in : Cells → Cells → Held
held_in rows admin = record { rows = raw_rows rows; admin = admin_rows admin }

-- the same entries hold the same
pub same_held : (rows same_rows admin same_admin : Cells) → same_rows ≡ rows → same_admin ≡ admin → held_in same_rows same_admin ≡ held_in rows admin
same_held rows same_rows admin same_admin same also i = held_in (same i) (also i)

pub held_with_batch : (batch : RawBatch) (rows rows_after admin admin_after : Cells) → raw_rows rows_after ≡ put_rows batch.rows (raw_rows rows)
    → admin_rows admin_after ≡ put_admins batch.admin (admin_rows admin) → held_in rows_after admin_after ≡ with_batch batch (held_in rows admin)
unfolding with_batch
held_with_batch batch rows rows_after admin admin_after put put_admin i = record { rows = put i; admin = put_admin i }

-- ---- rows of one event

module _ (event : EventId) where
  -- a part of the table that has all keys of the event has all its rows
  rows_in : (p : Key → Bool) → ((key : Key) → key.0 ≡ event.0.0 → p key ≡ true) → (cells : Cells) → rows_of event (raw_rows (filter (λ cell. p cell.0) cells)) ≡ rows_of event (raw_rows cells)
  unfolding rows_of raw_rows
  rows_in p spans [] = refl
  rows_in p spans (cell ∷ cells) = elim (cases_Bool (cell.0.0 == event.0.0)) [
    | inl here ↦ rw (spans cell.0 (eqb-true _ _ here), here) (ap (λ rows. raw_row cell ∷ rows) (rows_in p spans cells))
    | inr other ↦ elim (cases_Bool (p cell.0)) [
      | inl hit ↦ rw (hit, other) (rows_in p spans cells)
      | inr miss ↦ rw (miss, other) (rows_in p spans cells)
    ]
  ]

  pub rows_between : (low high : Bound Key) → Spans event low high → (cells : Cells) → rows_of event (raw_rows (entries_between (key_order nat_cmp) low high cells)) ≡ rows_of event (raw_rows cells)
  rows_between low high spans cells = rows_in (range_contains (key_order nat_cmp) low high) spans cells

  -- the first key is one of the event
  pub next_here : (cell : Key × List ℕ) (cells : Cells) → cell.0.0 ≡ event.0.0 → rows_of event (raw_rows (cell ∷ cells)) ≡ raw_row cell ∷ rows_of event (raw_rows cells)
  unfolding rows_of raw_rows
  next_here cell cells here = rw (eq-eqb cell.0.0 event.0.0 here) refl

  -- it is not
  pub next_other : (cell : Key × List ℕ) (cells : Cells) → (cell.0.0 == event.0.0) ≡ false → rows_of event (raw_rows (cell ∷ cells)) ≡ rows_of event (raw_rows cells)
  unfolding rows_of raw_rows
  next_other cell cells other = rw other refl

  pub none_here : rows_of event (raw_rows []) ≡ []
  unfolding rows_of raw_rows
  none_here = refl

  -- they ascend as all rows do
  pub ascend_rows_of : (rows : List RawRow) → ascend comes_before rows ≡ true → ascend comes_before (rows_of event rows) ≡ true
  unfolding rows_of
  ascend_rows_of rows up = ascend_kept comes_before _ rows up

-- ---- the keys of one event

pub le_then : (o p : Ordering) → o ≡ Equal → is_le p ≡ true → is_le (ordering_then o p) ≡ true
le_then Less p same least = refl
le_then Equal p same least = least
le_then Greater p same least = absurd cc

past_then : (o p : Ordering) → o ≡ Greater → is_le (ordering_then o p) ≡ false
past_then Less p more = absurd cc
past_then Equal p more = absurd cc
past_then Greater p more = refl

before_then : (o p : Ordering) → o ≡ Less → is_gt (ordering_then o p) ≡ false
before_then Less p less = refl
before_then Equal p less = absurd cc
before_then Greater p less = absurd cc

no_bytes_first : (xs ys : List ℕ) → xs ≡ [] → is_le (slice_cmp nat_cmp xs ys) ≡ true
no_bytes_first [] [] none = refl
no_bytes_first [] (y ∷ ys) none = refl
no_bytes_first (x ∷ xs) ys none = absurd (omega (arith, ap length none))

pub same_number : (m n : ℕ) → m ≡ n → nat_cmp m n ≡ Equal
same_number m n same = grind (arith, nat_tests)

first_key : (event : EventId) (low key : Key) → low.0 ≡ event.0.0 → low.1.items ≡ [] → key.0 ≡ event.0.0 → is_le (key_order nat_cmp low key) ≡ true
first_key event low key here none same =
    le_then (nat_cmp low.0 key.0) (slice_cmp nat_cmp low.1.items key.1.items) (same_number low.0 key.0 (here ∙ sym same)) (no_bytes_first low.1.items key.1.items none)

pub spans_next : (event : EventId) (low high : Key) → low.0 ≡ event.0.0 → low.1.items ≡ [] → high.0 ≡ event.0.0 + 1 → Spans event (Included low) (Excluded high)
spans_next event low high here none next key same =
    and_from _ _ (first_key event low key here none same)
    (ap not (past_then (nat_cmp high.0 key.0) (slice_cmp nat_cmp high.1.items key.1.items) (greater high.0 key.0 (omega (arith, next, same)))))

pub spans_rest : (event : EventId) (low : Key) → low.0 ≡ event.0.0 → low.1.items ≡ [] → Spans event (Included low) Unbounded
spans_rest event low here none key same = and_from _ _ (first_key event low key here none same) refl

pub forward_next : (event : EventId) (low high : Key) → low.0 ≡ event.0.0 → high.0 ≡ event.0.0 + 1 → IsLeBy (key_order nat_cmp) low high
forward_next event low high here next =
    before_then (nat_cmp low.0 high.0) (slice_cmp nat_cmp low.1.items high.1.items) (less low.0 high.0 (omega (arith, here, next)))
