-- Rows that are held so, as they are read of a keeper that was given more of them.
use Rattle.std.proofs.Common.{◌≡◌, ℕ, ◌==◌, ◌&&◌, ◌||◌, Bool, true, false, not, cond, bytes_eq, List, [], ◌∷◌, filter, map, Option, Some, None, Result, Ok, refl, sym, ap, subst, ◌∙◌, arith}
use Rattle.std.specs.List.{list_all}
use Rattle.misp_lists.proofs.Prelude.{put}
use Rattle.misp_lists.proofs.Lists.{any_of_kept}
use Rattle.misp_lists.proofs.Ordering.{any_put}
use Rattle.misp_outside.specs.Held.{comes_before, put_raw, put_rows, same_raw}
use Rattle.misp_outside.specs.declared.row.RawRow.{RawRow}
use Rattle.misp_model.proofs.NameOrder.{same_in_bytes}
use Rattle.misp_model.proofs.Prelude.{AreRows, IsRow, Row, and_parts, event_of, list_any, name_bytes, put_all, put_row, same_key, same_org, stands_before}
use Rattle.misp_model.specs.Machine.{event_number}
use Rattle.misp_store.specs.Raw.{onto, raw_row, row_in, rows_in}
use Rattle.misp_store.proofs.HeldRows.{rows_again, rows_filtered}
use Rattle.misp_store.proofs.OwnNames.{event_under, name_under}
use Rattle.misp_store.proofs.TableRows.{onto_parts}

-- ---- rows that are read

row_there : (r : Row) → IsRow r → row_in (raw_row r) ≡ Some r
unfolding rows_in
row_there r is = one (row_in (raw_row r)) (rows_again (r ∷ []) (is, tt))
  where
    one : (found : Option Row) → onto (raw_row r).name found (Ok []) ≡ Ok (r ∷ []) → found ≡ Some r
    one None h = absurd cc
    one (Some x) h = let same : x ≡ r = cc in ap Some same

-- the two are held under one event and name
abbrev same_held : Row → Row → Bool
same_held a b = (event_number a == event_number b) && bytes_eq (name_bytes a) (name_bytes b)

one_more : (b : Bool) (raw : RawRow) (raws : List RawRow) (s : Row) (rows : List Row) → row_in raw ≡ Some s → rows_in raws ≡ Ok rows → rows_in (cond b (raw ∷ raws) raws) ≡ Ok (cond b (s ∷ rows) rows)
unfolding rows_in
one_more true raw raws s rows is are = ap (λ found. onto raw.name found (rows_in raws)) is ∙ ap (onto raw.name (Some s)) are
one_more false raw raws s rows is are = are

-- ---- a row is put

-- rows that are held so are read, and this one is held so
module _ (within : RawRow → Bool) (r : Row) (is : IsRow r) (there : within (raw_row r) ≡ true) where
  abbrev pub other_raw : RawRow → Bool
  other_raw raw = not (same_raw raw (raw_row r))

  abbrev pub other_row : Row → Bool
  other_row s = not (same_held s r)

  other_read : (raw : RawRow) (s : Row) → row_in raw ≡ Some s → other_raw raw ≡ other_row s
  unfolding same_raw raw_row event_number
  other_read raw s read = λ i. not ((sym (event_under raw s read) i).0.0 == (event_of r.key).0.0 && bytes_eq (name_under raw s read i) (name_bytes r))

  -- without the row of its name
  pub others_read : (raws : List RawRow) (rows : List Row) → rows_in (filter within raws) ≡ Ok rows → rows_in (filter within (filter other_raw raws)) ≡ Ok (filter other_row rows)
  unfolding rows_in
  others_read [] rows h = one rows h
    where
      one : (rows : List Row) → ◌≡◌ {A = Result (List Row) (List ℕ)} (Ok []) (Ok rows) → ◌≡◌ {A = Result (List Row) (List ℕ)} (Ok []) (Ok (filter other_row rows))
      one [] h = refl
      one (s ∷ rows) h = absurd cc
  others_read (raw ∷ raws) rows h = one (others_read raws) (within raw) (other_raw raw) refl refl h
    where
      one : ((rows : List Row) → rows_in (filter within raws) ≡ Ok rows → rows_in (filter within (filter other_raw raws)) ≡ Ok (filter other_row rows))
          → (b c : Bool) → within raw ≡ b → other_raw raw ≡ c → rows_in (cond b (raw ∷ filter within raws) (filter within raws)) ≡ Ok rows
          → rows_in (filter within (cond c (raw ∷ filter other_raw raws) (filter other_raw raws))) ≡ Ok (filter other_row rows)
      one ih false true k l h = rw k (ih rows h)
      one ih false false k l h = ih rows h
      one ih true c k l h =
          let p = onto_parts raw.name (row_in raw) (rows_in (filter within raws)) rows h in
          let rest : rows_in (filter within (filter other_raw raws)) ≡ Ok (filter other_row p.0.1) = ih p.0.1 p.2 in
          subst (λ rs. rows_in (filter within (cond c (raw ∷ filter other_raw raws) (filter other_raw raws))) ≡ Ok (filter other_row rs)) p.3
          (two c p.0.0 p.0.1 (sym l ∙ other_read raw p.0.0 p.1) k p.1 rest)
        where
          two : (c : Bool) (s : Row) (rows : List Row) → c ≡ other_row s → within raw ≡ true → row_in raw ≡ Some s → rows_in (filter within (filter other_raw raws)) ≡ Ok (filter other_row rows)
              → rows_in (filter within (cond c (raw ∷ filter other_raw raws) (filter other_raw raws))) ≡ Ok (filter other_row (s ∷ rows))
          two true s rows same k read rest = rw (sym same, k) (one_more true raw _ s _ read rest)
          two false s rows same k read rest = rw (sym same) rest

  -- with it in its place
  abbrev pub IsPut : List Row → List Row → Type 0
  IsPut rows more = (q : Row → Bool) → list_any q more ≡ (q r || list_any q rows)

  swap : (a b c : Bool) → (a || (b || c)) ≡ (b || (a || c))
  swap a b c = grind arith

  pub put_read : (raws : List RawRow) (rows : List Row) → rows_in (filter within raws) ≡ Ok rows
      → (more : List Row) × (rows_in (filter within (put comes_before (raw_row r) raws)) ≡ Ok more) × IsPut rows more × (AreRows rows → AreRows more)
  unfolding put rows_in
  put_read [] rows h = one rows h
    where
      one : (rows : List Row) → ◌≡◌ {A = Result (List Row) (List ℕ)} (Ok []) (Ok rows) → (more : List Row) × (rows_in (filter within (raw_row r ∷ [])) ≡ Ok more) × IsPut rows more × (AreRows rows → AreRows more)
      one [] h = (r ∷ [], rw there (one_more true (raw_row r) [] r [] (row_there r is) refl), λ q. refl, λ are. (is, tt))
      one (s ∷ rows) h = absurd cc
  put_read (raw ∷ raws) rows h = one (put_read raws) (comes_before (raw_row r) raw)
    where
      Again : Type 0
      Again = (rows : List Row) → rows_in (filter within raws) ≡ Ok rows → (more : List Row) × (rows_in (filter within (put comes_before (raw_row r) raws)) ≡ Ok more) × IsPut rows more × (AreRows rows → AreRows more)

      first : (more : List Row) × (rows_in (filter within (raw_row r ∷ raw ∷ raws)) ≡ Ok more) × IsPut rows more × (AreRows rows → AreRows more)
      first = (r ∷ rows, rw there (one_more true (raw_row r) (filter within (raw ∷ raws)) r rows (row_there r is) h), λ q. refl, λ are. (is, are))

      later : Again → (b : Bool) → within raw ≡ b → rows_in (cond b (raw ∷ filter within raws) (filter within raws)) ≡ Ok rows
          → (more : List Row) × (rows_in (cond b (raw ∷ filter within (put comes_before (raw_row r) raws)) (filter within (put comes_before (raw_row r) raws))) ≡ Ok more) × IsPut rows more × (AreRows rows → AreRows more)
      later ih false k h = ih rows h
      later ih true k h =
          let p = onto_parts raw.name (row_in raw) (rows_in (filter within raws)) rows h in
          let rest = ih p.0.1 p.2 in (
            p.0.0 ∷ rest.0,
            one_more true raw _ p.0.0 rest.0 p.1 rest.1,
            λ q. ap (λ b. q p.0.0 || b) (rest.2 q) ∙ swap (q p.0.0) (q r) (list_any q p.0.1) ∙ ap (λ rs. q r || list_any q rs) p.3,
            λ are. let both : AreRows (p.0.0 ∷ p.0.1) = subst AreRows (sym p.3) are in (both.0, rest.3 both.1),
          )

      one : Again → (b : Bool) → (more : List Row) × (rows_in (filter within (cond b (raw_row r ∷ raw ∷ raws) (raw ∷ put comes_before (raw_row r) raws))) ≡ Ok more) × IsPut rows more × (AreRows rows → AreRows more)
      one ih true = first
      one ih false = later ih (within raw) refl h

-- ---- rows that are put

-- every test finds the same in both
abbrev pub Alike : List Row → List Row → Type 0
Alike xs ys = (q : Row → Bool) → list_any q xs ≡ list_any q ys

-- the rows that are held so are read, are rows, and tests find the same in them
abbrev pub ReadAlike : (RawRow → Bool) → List RawRow → List Row → Type 0
ReadAlike within raws ys = (more : List Row) × (rows_in (filter within raws) ≡ Ok more) × AreRows more × Alike more ys

-- of rows two tests that agree on rows leave the same
left_same : (f g : Row → Bool) → ((s : Row) → IsRow s → f s ≡ g s) → (rows : List Row) → AreRows rows → filter f rows ≡ filter g rows
left_same f g h [] are = refl
left_same f g h (s ∷ rows) are = λ i. cond (h s are.0 i) (s ∷ left_same f g h rows are.1 i) (left_same f g h rows are.1 i)

module _ (within : RawRow → Bool) (r : Row) (is : IsRow r) (there : within (raw_row r) ≡ true) where
  -- of another owner or key
  abbrev other_cell : Row → Bool
  other_cell s = not (same_org s.owner r.owner && same_key s.key r.key)

  others_same : (rows : List Row) → AreRows rows → filter (other_row within r is there) rows ≡ filter other_cell rows
  others_same rows are = left_same (other_row within r is there) other_cell (λ s s_is. ap not (sym (same_in_bytes s r s_is is))) rows are

  row_read_alike : (raws : List RawRow) (xs ys : List Row) → rows_in (filter within raws) ≡ Ok xs → AreRows xs → Alike xs ys → ReadAlike within (put_raw (raw_row r) raws) (put_row r ys)
  unfolding put_raw put_row
  row_read_alike raws xs ys read are alike =
      let k = put_read within r is there (filter (other_raw within r is there) raws) (filter (other_row within r is there) xs) (others_read within r is there raws xs read) in (
        k.0,
        k.1,
        k.3 (rows_filtered (other_row within r is there) xs are),
        λ q.
            k.2 q
            ∙ ap (λ rows. q r || list_any q rows) (others_same xs are)
            ∙ ap (λ b. q r || b) (any_of_kept q other_cell xs ∙ alike (λ s. q s && other_cell s) ∙ sym (any_of_kept q other_cell ys))
            ∙ sym (any_put stands_before q r (filter other_cell ys)),
      )

-- the same of all that are put
pub rows_read_alike : (within : RawRow → Bool) (rs : List Row) → AreRows rs → list_all (λ row. within (raw_row row)) rs ≡ true → (raws : List RawRow) (xs ys : List Row)
    → rows_in (filter within raws) ≡ Ok xs → AreRows xs → Alike xs ys → ReadAlike within (put_rows (map raw_row rs) raws) (put_all rs ys)
unfolding put_rows put_all
rows_read_alike within [] of_rs there raws xs ys read are alike = (xs, read, are, alike)
rows_read_alike within (r ∷ rs) of_rs there raws xs ys read are alike =
    let both = and_parts (within (raw_row r)) (list_all (λ row. within (raw_row row)) rs) there in
    let one = row_read_alike within r of_rs.0 both.0 raws xs ys read are alike in
    rows_read_alike within rs of_rs.1 both.1 (put_raw (raw_row r) raws) one.0 (put_row r ys) one.1 one.2 one.3
