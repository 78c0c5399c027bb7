-- Rows that are put anew: they stay in their places, and say what they said.
use Rattle.std.proofs.Common.{◌≡◌, ℕ, List, [], ◌∷◌, ◌++◌, true, false, refl, sym, ap, subst, ◌∙◌, map, filter, length, Option, Some, None, is_some, Result, Ok, Err, IfSome, IsOk, IsTrue, inl, inr, is_lt}
use Rattle.std.specs.Option.{option_map_or}
use Rattle.std.proofs.lemmas.Bool.{cases_Bool}
use Rattle.std.proofs.lemmas.Cmp.{tied_itself}
use Rattle.std.proofs.lemmas.List.{length-map}
use Rattle.misp_lists.proofs.Prelude.{ascend, less_of}
use Rattle.misp_outside.specs.Reporting.{WhereReported}
use Rattle.misp_outside.specs.Held.{Held, comes_before, name_order, put_admins, put_raw, put_rows, raw_name, same_raw, with_batch}
use Rattle.misp_outside.proofs.Names.{names_total, order, put_by_order, total}
use Rattle.misp_outside.proofs.Places.{put_above, put_over}
use Rattle.misp_effects.specs.Prelude.{RawRow}
use Rattle.misp_model.proofs.Prelude.{IsRow, Row, and_from, and_parts, list_all}
use Rattle.misp_store.specs.Raw.{onto, raw_row, row_in, rows_in}
use Rattle.misp_store.specs.Renewing.{IsRead, is_old, put_anew, renewed, renewed_row, rewritten, rows_alone}
use Rattle.misp_store.proofs.HeldRows.{row_again}
use Rattle.misp_store.proofs.OwnNames.{event_under, name_under}

-- ---- names

-- a row that is put anew has its name
rewritten_named : (raw : RawRow) → raw_name (rewritten raw) ≡ raw_name raw
unfolding rewritten raw_row
rewritten_named raw = by_read (row_in raw) refl
  where
    by_read : (read : Option Row) → row_in raw ≡ read → raw_name (option_map_or raw_row read raw) ≡ raw_name raw
    by_read None is = refl
    by_read (Some r) is = λ i. ((event_under raw r is i).0.0, sym (name_under raw r is) i)

-- ---- putting

-- what goes behind a row leaves it in front
first_stays : (d n : RawRow) (ys : List RawRow) → comes_before d n ≡ true → put_raw n (d ∷ ys) ≡ d ∷ put_raw n ys
unfolding put_raw comes_before same_raw
first_stays d n ys before =
    sym (put_by_order raw_name n (d ∷ ys))
    ∙ put_above (order raw_name) (total raw_name) n d ys (less_of _ before)
    ∙ ap (λ rows. d ∷ rows) (put_by_order raw_name n ys)

after_first : (d : RawRow) (news ys : List RawRow) → list_all (comes_before d) news ≡ true → put_rows news (d ∷ ys) ≡ d ∷ put_rows news ys
unfolding put_rows
after_first d [] ys all = refl
after_first d (n ∷ news) ys all =
    ap (put_rows news) (first_stays d n ys (and_parts _ _ all).0) ∙ after_first d news (put_raw n ys) (and_parts _ _ all).1

-- rows are before each other by their names
before_named : (d x y : RawRow) → raw_name y ≡ raw_name x → comes_before d x ≡ true → comes_before d y ≡ true
unfolding comes_before
before_named d x y same before = (λ i. is_lt (name_order (raw_name d) (same i))) ∙ before

named_before : (x y d : RawRow) → raw_name y ≡ raw_name x → comes_before x d ≡ true → comes_before y d ≡ true
unfolding comes_before
named_before x y d same before = (λ i. is_lt (name_order (same i) (raw_name d))) ∙ before

all_after : (x y : RawRow) (xs : List RawRow) → raw_name y ≡ raw_name x → list_all (comes_before x) xs ≡ true → list_all (comes_before y) xs ≡ true
all_after x y [] same all = refl
all_after x y (d ∷ xs) same all = and_from _ _ (named_before x y d same (and_parts _ _ all).0) (all_after x y xs same (and_parts _ _ all).1)

anew_after : (d : RawRow) (xs : List RawRow) → list_all (comes_before d) xs ≡ true → list_all (comes_before d) (put_anew xs) ≡ true
unfolding put_anew
anew_after d [] all = refl
anew_after d (x ∷ xs) all = elim (cases_Bool (is_old x)) [
  | inl old ↦ rw old (and_from _ _ (before_named d x (rewritten x) (rewritten_named x) (and_parts _ _ all).0) (anew_after d xs (and_parts _ _ all).1))
  | inr not_old ↦ rw not_old (anew_after d xs (and_parts _ _ all).1)
]

-- a row over the first, of its name
over_first : (x y : RawRow) (xs : List RawRow) → raw_name y ≡ raw_name x → list_all (comes_before x) xs ≡ true → put_raw y (x ∷ xs) ≡ y ∷ xs
unfolding put_raw comes_before same_raw
over_first x y xs same all =
    sym (put_by_order raw_name y (x ∷ xs))
    ∙ put_over (order raw_name) (total raw_name) y x xs (all_after x y xs same all) ((λ i. name_order (raw_name x) (same i)) ∙ tied_itself names_total (raw_name x))

-- each row that is put anew is put in its place
pub put_there : (raws : List RawRow) → ascend comes_before raws ≡ true → put_rows (put_anew raws) raws ≡ map renewed_row raws
unfolding put_rows put_anew ascend
put_there [] up = refl
put_there (x ∷ xs) up =
    let all : list_all (comes_before x) xs ≡ true = (and_parts _ _ up).0 in
    let rest : put_rows (put_anew xs) xs ≡ map renewed_row xs = put_there xs (and_parts _ _ up).1 in
    elim (cases_Bool (is_old x)) [
      | inl old ↦
          rw old (
          ap (put_rows (put_anew xs)) (over_first x (rewritten x) xs (rewritten_named x) all)
          ∙ after_first (rewritten x) (put_anew xs) xs (anew_after (rewritten x) xs (all_after x (rewritten x) xs (rewritten_named x) all))
          ∙ ap (λ rows. rewritten x ∷ rows) rest
          )
      | inr not_old ↦
          rw not_old (after_first x (put_anew xs) xs (anew_after x xs all) ∙ ap (λ rows. x ∷ rows) rest)
    ]

-- ---- one after another

pub none_anew : put_anew [] ≡ []
unfolding put_anew
none_anew = refl

-- one more
pub more_anew : (raws : List RawRow) (raw : RawRow) → put_anew (raws ++ raw ∷ []) ≡ put_anew raws ++ put_anew (raw ∷ [])
unfolding put_anew
more_anew [] raw = refl
more_anew (x ∷ xs) raw = elim (cases_Bool (is_old x)) [
  | inl old ↦ rw old (ap (λ rows. rewritten x ∷ rows) (more_anew xs raw))
  | inr not_old ↦ rw not_old (more_anew xs raw)
]

-- as many as are old
pub anew_many : (raws : List RawRow) → length (put_anew raws) ≡ length (filter is_old raws)
unfolding put_anew
anew_many raws = length-map (filter is_old raws) rewritten

-- ---- what is read

-- where the rest is so, all are
pub record Reads (raws rest : List RawRow) : Type 0 where
  pub bad : (name : List ℕ) → rows_in rest ≡ Err name → rows_in raws ≡ Err name
  pub good : IsOk (rows_in rest) → IsOk (rows_in raws)
  pub same : rows_in (map renewed_row rest) ≡ rows_in rest → rows_in (map renewed_row raws) ≡ rows_in raws

pub reads_first : (raws : List RawRow) → Reads raws raws
reads_first raws = record { bad = λ name is. is; good = λ ok. ok; same = λ is. is }

module _ (raws rest : List RawRow) (raw : RawRow) (reads : Reads raws (raw ∷ rest)) where
  -- the first is none
  pub reads_bad : row_in raw ≡ None → rows_in raws ≡ Err raw.name
  unfolding rows_in
  reads_bad none = reads.bad raw.name (ap (λ found. onto raw.name found (rows_in rest)) none)

  -- it is one
  pub reads_next : IsRead raw → Reads raws rest
  unfolding rows_in
  reads_next is = by_read (row_in raw) refl
    where
      name_same : (renewed_row raw).name ≡ raw.name
      name_same = elim (cases_Bool (is_old raw)) [
        | inl old ↦ rw old (ap (λ (n : ℕ × List ℕ). n.1) (rewritten_named raw))
        | inr not_old ↦ rw not_old refl
      ]

      by_read : (found : Option Row) → row_in raw ≡ found → Reads raws rest
      by_read None none = let no_ : is_some (row_in raw) ≡ true = is.some in absurd (let clash : is_some (row_in raw) ≡ false = ap is_some none in cc)
      by_read (Some r) some = record {
        bad = λ name err. reads.bad name (ap (λ found. onto raw.name found (rows_in rest)) some ∙ ap (onto raw.name (Some r)) err);
        good = λ ok. reads.good (subst (λ found. IsOk (onto raw.name found (rows_in rest))) (sym some) (onto_ok (rows_in rest) ok));
        same = λ still. reads.same (
            (λ i. onto (name_same i) (is.again i) (still i))
            );
      }
        where
          onto_ok : (others : Result (List Row) (List ℕ)) → IsOk others → IsOk (onto raw.name (Some r) others)
          onto_ok (Ok rows) ok = refl
          onto_ok (Err name) ok = absurd cc

pub reads_all : (raws : List RawRow) → Reads raws [] → IsOk (rows_in raws) × (rows_in (map renewed_row raws) ≡ rows_in raws)
unfolding rows_in
reads_all raws reads = (reads.good refl, reads.same refl)

-- ---- what is held

-- a row says what it said, when it is put anew
pub read_anew : (raw : RawRow) (r : Row) → IsRow r → row_in raw ≡ Some r → IsRead raw
unfolding rewritten
read_anew raw r is read = record {
  some = ap is_some read;
  again = elim (cases_Bool (is_old raw)) [
    | inl old ↦ rw old (ap (λ found. row_in (option_map_or raw_row found raw)) read ∙ row_again r is ∙ sym read)
    | inr not_old ↦ rw not_old refl
  ];
}

-- nothing is put of nothing
pub nothing_put : (held : Option Held) → WhereReported held held (λ old new. new ≡ with_batch (rows_alone []) old)
unfolding with_batch put_rows put_admins
nothing_put None = tt
nothing_put (Some held) = refl

-- what was loaded is put anew in its places
pub renewed_held : (held new : Option Held) (raws anew : List RawRow) → IfSome held (λ told. raws ≡ told.rows) → IfSome held (λ told. IsTrue (ascend comes_before raws)) → anew ≡ put_anew raws
    → WhereReported held new (λ old new. new ≡ with_batch (rows_alone anew) old) → WhereReported held new (λ old new. new ≡ renewed old)
unfolding with_batch put_admins renewed
renewed_held None None raws anew found up is put = tt
renewed_held None (Some now) raws anew found up is put = absurd put
renewed_held (Some told) None raws anew found up is put = tt
renewed_held (Some told) (Some now) raws anew found up is put =
    let there : put_rows anew told.rows ≡ map renewed_row told.rows =
    ap (λ rows. put_rows rows told.rows) (is ∙ ap put_anew found) ∙ put_there told.rows (subst (λ rows. ascend comes_before rows ≡ true) found up) in
    put ∙ (λ i. record { rows = there i; admin = told.admin })
