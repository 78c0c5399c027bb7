-- A row that was put into the table was put among the rows that are held.
use Rattle.std.proofs.Common.{◌≡◌, ◌<◌, ◌^◌, ℕ, ℤ, pos, negsuc, ◌&&◌, Bool, true, false, not, List, [], ◌∷◌, filter, refl, sym, ap, ap₂, subst, ◌∙◌, inl, inr, eqb-true, arith, Ordering, Less, Equal, Greater, is_eq}
use Rattle.std.specs.List.{AllByRecursion}
use Rattle.std.specs.Prelude.{bytes_eq, nat_lt}
use Rattle.std.proofs.lemmas.Bool.{cases_Bool, lt-ltb}
use Rattle.sqlite_value.specs.declared.value.Value.{Value}
use Rattle.sqlite_value.specs.declared.value.Value.TheVariants.{Null, Int, Real, Text, Blob}
use Rattle.sqlite_value.specs.Order.{Row, bytes, column}
use Rattle.sqlite_sql.specs.Ops.{is_null}
use Rattle.sqlite_trees.specs.Tree.{rowid}
use Rattle.misp_lists.specs.Order.{ascend}
use Rattle.misp_lists.proofs.Lists.{alike}
use Rattle.misp_lists.proofs.Prelude.{and_parts, ordering_reverse}
use Rattle.misp_outside.specs.declared.row.RawRow.{RawRow}
use Rattle.misp_outside.specs.declared.row.AdminRow.{AdminRow}
use Rattle.misp_outside.specs.Held.{Held, raw_name, admin_name, comes_before, admin_before, name_order, put_raw, put_admin, same_raw, same_admin}
use Rattle.misp_outside.proofs.Names.{names_exact, names_total, order, put_by_order, total}
use Rattle.misp_sqlite.specs.Putting.{stored_row, IsNamed, HasPut, with_row, with_admin_row}
use Rattle.misp_sqlite.specs.Stored.{event_bytes, event_in, is_blob, kind_in, is_event, is_no_event, has_texts, as_raw, is_raw, as_admin, is_admin, held_in}
use Rattle.misp_sqlite.proofs.Apart.{ascend_after, before_put}
use Rattle.misp_sqlite.proofs.Puts.{told_in_place, told_as_before}
use Rattle.misp_sqlite.proofs.Stored.{parts_of, from_parts, read_back, same_bytes}
use Rattle.misp_sqlite.proofs.Values.{tied}

-- ---- values

pub blob_is : (v : Value) → is_blob v ≡ true → v ≡ Blob (bytes v)
blob_is Null h = absurd cc
blob_is (Int n) h = absurd cc
blob_is (Real x) h = absurd cc
blob_is (Text t) h = absurd cc
blob_is (Blob b) h = refl

pub kind_is : (v : Value) (k : ℕ) → k < 256 → kind_in v ≡ k → v ≡ Int (pos k)
kind_is Null k low h = absurd (omega arith)
kind_is (Int (pos n)) k low h = ap (λ m. Int (pos m)) h
kind_is (Int (negsuc n)) k low h = absurd (omega arith)
kind_is (Real x) k low h = absurd (omega arith)
kind_is (Text t) k low h = absurd (omega arith)
kind_is (Blob b) k low h = absurd (omega arith)

same_name : (n : ℕ × List ℕ) → is_eq (name_order n n) ≡ true
same_name n = go (name_order n n) (names_total.antisymm n n)
  where
    go : (o : Ordering) → o ≡ ordering_reverse o → is_eq o ≡ true
    go Less h = absurd cc
    go Equal h = refl
    go Greater h = absurd cc

no_bytes : (n : ℕ) → (bytes_eq (event_bytes n) [] ≡ false) × (bytes_eq [] (event_bytes n) ≡ false)
unfolding event_bytes
no_bytes n = (refl, refl)

-- what is known of each row: that it was kept or has the name, and that it has the name only where it has no rowid
each_row : (N Q : Row → Type 0) (keep : Row → Bool) (rows : List Row) → AllByRecursion (λ r. keep r ≡ false → N r) rows → AllByRecursion (λ r. N r → is_null (rowid r) ≡ true) (filter keep rows)
    → ((r : Row) → (keep r ≡ false → N r) → (keep r ≡ true → N r → is_null (rowid r) ≡ true) → Q r) → AllByRecursion Q rows
each_row N Q keep [] gone apart f = tt
each_row N Q keep (r ∷ rows) gone apart f = elim (cases_Bool (keep r)) [
  | inl hit ↦ let both = rw hit at apart in (f r gone.0 (λ k. both.0), each_row N Q keep rows gone.1 both.1 f)
  | inr miss ↦ let rest = rw miss at apart in (f r gone.0 (λ k. absurd (let bad = sym miss ∙ k in cc)), each_row N Q keep rows gone.1 rest f)
]

raw_ascend : (row : RawRow) (rows : List RawRow) → ascend comes_before rows ≡ true → ascend comes_before (put_raw row rows) ≡ true
unfolding put_raw comes_before same_raw
raw_ascend row rows up = subst (λ l. ascend comes_before l ≡ true) (put_by_order raw_name row rows) (ascend_after (order raw_name) (total raw_name) row rows up)

-- ---- a row of an event

module _ (n : ℕ) (fits : n < 2 ^ 128) (name body : List ℕ) where
  abbrev pub raw : RawRow
  raw = record { event = record { 0 = record { 0 = n } }; name = name; bytes = body }

  abbrev Named : Row → Type 0
  Named = IsNamed (event_bytes n) (pos 0) name

  stands : (id : ℤ) → (is_raw (stored_row id (event_bytes n) (pos 0) name body) ≡ true) × (as_raw (stored_row id (event_bytes n) (pos 0) name body) ≡ raw)
  unfolding as_raw
  stands id = (
    from_parts (stored_row id (event_bytes n) (pos 0) name body) (record { blob = refl; spelled = ap event_bytes (sym (read_back n fits)); kind = refl; numbered = refl; name = refl; body = refl }),
    ap (λ e. record { event = record { 0 = record { 0 = e } }; name = name; bytes = body }) (read_back n fits),
  )

  named_raw : (r : Row) → Named r → raw_name (as_raw r) ≡ raw_name raw
  unfolding as_raw
  named_raw r named = rw (named.event_is, named.name_is) (ap (λ e. (e, name)) (read_back n fits))

  raw_named : (r : Row) → is_raw r ≡ true → raw_name (as_raw r) ≡ raw_name raw → Named r
  unfolding as_raw
  raw_named r mine same =
      let p = parts_of r mine in
      record {
        event_is = blob_is (column r 1) p.blob ∙ ap (λ b. Blob b) (p.spelled ∙ ap (λ (m : ℕ × List ℕ). event_bytes m.0) same);
        kind_is = kind_is (column r 2) 0 (omega arith) (eqb-true _ _ p.kind);
        name_is = blob_is (column r 3) p.name ∙ ap (λ (m : ℕ × List ℕ). Blob m.1) same;
      }

  raw_row : (keep : Row → Bool) (r : Row) → (keep r ≡ false → Named r) → (keep r ≡ true → Named r → is_null (rowid r) ≡ true) → is_raw r ≡ true → is_eq (order raw_name (as_raw r) raw) ≡ not (keep r)
  raw_row keep r gone apart mine = elim (cases_Bool (keep r)) [
    | inl hit ↦ elim (cases_Bool (is_eq (order raw_name (as_raw r) raw))) [
      | inl same ↦
          let null = apart hit (raw_named r mine (names_exact (raw_name (as_raw r)) (raw_name raw) (tied _ same))) in
          absurd (let bad = ap not (sym null) ∙ (parts_of r mine).numbered in cc)
      | inr other ↦ other ∙ ap not (sym hit)
    ]
    | inr miss ↦ ap (λ m. is_eq (name_order m (raw_name raw))) (named_raw r (gone miss)) ∙ same_name (raw_name raw) ∙ ap not (sym miss)
  ]

  is_no_admin : (r : Row) → column r 1 ≡ Blob (event_bytes n) → is_admin r ≡ false
  unfolding is_admin is_no_event
  is_no_admin r is = rw (is, (no_bytes n).0) refl

  -- a row of an event has the name exactly where it was not kept
  raw_rows : (old new : List Row) → (h : HasPut (event_bytes n) (pos 0) name body old new)
      → AllByRecursion (λ r. is_raw r ≡ true → is_eq (order raw_name (as_raw r) (as_raw (stored_row h.id (event_bytes n) (pos 0) name body))) ≡ not (h.keep r)) old
  raw_rows old new h = each_row Named (λ r. is_raw r ≡ true → is_eq (order raw_name (as_raw r) (as_raw (stored_row h.id (event_bytes n) (pos 0) name body))) ≡ not (h.keep r)) h.keep old h.gone h.apart
      (λ r gone apart. subst (λ v. is_raw r ≡ true → is_eq (order raw_name (as_raw r) v) ≡ not (h.keep r)) (sym (stands h.id).1) (raw_row h.keep r gone apart))

  pub raw_put : (old new : List Row) → HasPut (event_bytes n) (pos 0) name body old new → held_in new ≡ with_row raw (held_in old)
  unfolding held_in put_raw comes_before same_raw admin_before
  raw_put old new h =
      let row = stored_row h.id (event_bytes n) (pos 0) name body in
      let mine = stands h.id in
      let others = each_row Named (λ r. is_admin r ≡ true → h.keep r ≡ true) h.keep old h.gone h.apart (λ r gone apart admin. elim (cases_Bool (h.keep r)) [
        | inl hit ↦ hit
        | inr miss ↦ absurd (let bad = sym admin ∙ is_no_admin r (gone miss).event_is in cc)
      ]) in
      let rows = told_in_place (order raw_name) (total raw_name) as_raw is_raw row h.keep old mine.0 h.free (raw_rows old new h) in
      let admins = told_as_before (order admin_name) (total admin_name) as_admin is_admin row h.keep old (is_no_admin row refl) h.free others in
      ap held_in h.rows ∙ ap₂ (λ a b. record { rows = a; admin = b }) (rows ∙ put_by_order raw_name (as_raw row) (held_in old).rows ∙ ap (λ r. put_raw r (held_in old).rows) mine.1) admins

  -- where no two rows of events have one name once it is put, no two had before
  raw_apart : (old new : List Row) → HasPut (event_bytes n) (pos 0) name body old new → ascend comes_before (held_in new).rows ≡ true → ascend comes_before (held_in old).rows ≡ true
  unfolding held_in comes_before
  raw_apart old new h up =
      before_put (order raw_name) (total raw_name) as_raw is_raw (stored_row h.id (event_bytes n) (pos 0) name body) h.keep old (stands h.id).0 h.free (raw_rows old new h) h.once
      (subst (λ rows. ascend comes_before (held_in rows).rows ≡ true) h.rows up)

  -- no two rows of events have one name once it is put exactly where no two had before
  pub raw_alike : (old new : List Row) → HasPut (event_bytes n) (pos 0) name body old new → ascend comes_before (held_in new).rows ≡ ascend comes_before (held_in old).rows
  raw_alike old new h = alike (ascend comes_before (held_in new).rows) (ascend comes_before (held_in old).rows) (raw_apart old new h)
      (λ up. subst (λ held. ascend comes_before held.rows ≡ true) (sym (raw_put old new h)) (raw_ascend raw (held_in old).rows up))

-- ---- a row of the administration

module _ (k : ℕ) (low : k < 256) (name body : List ℕ) where
  abbrev pub admin : AdminRow
  admin = record { kind = k; name = name; bytes = body }

  abbrev NamedAdmin : Row → Type 0
  NamedAdmin = IsNamed [] (pos k) name

  admin_stands : (id : ℤ) → is_admin (stored_row id [] (pos k) name body) ≡ true
  unfolding is_admin is_no_event
  admin_stands id = rw (lt-ltb k 256 low) refl

  as_admin_is : (id : ℤ) → as_admin (stored_row id [] (pos k) name body) ≡ admin
  unfolding as_admin
  as_admin_is id = refl

  named_admin : (r : Row) → NamedAdmin r → admin_name (as_admin r) ≡ admin_name admin
  unfolding as_admin
  named_admin r named = rw (named.kind_is, named.name_is) refl

  admin_named : (r : Row) → is_admin r ≡ true → admin_name (as_admin r) ≡ admin_name admin → NamedAdmin r
  unfolding is_admin is_no_event as_admin
  admin_named r mine same =
      let outer = and_parts (is_no_event (column r 1)) (nat_lt (kind_in (column r 2)) 256 && has_texts (column r 0) (column r 3) (column r 4)) mine in
      let event = and_parts (is_blob (column r 1)) (bytes_eq (bytes (column r 1)) []) outer.0 in
      let inner = and_parts (nat_lt (kind_in (column r 2)) 256) (has_texts (column r 0) (column r 3) (column r 4)) outer.1 in
      let texts = and_parts (not (is_null (column r 0))) (is_blob (column r 3) && is_blob (column r 4)) inner.1 in
      record {
        event_is = blob_is (column r 1) event.0 ∙ ap (λ b. Blob b) (same_bytes _ _ event.1);
        kind_is = kind_is (column r 2) k low (ap (λ (m : ℕ × List ℕ). m.0) same);
        name_is = blob_is (column r 3) (and_parts (is_blob (column r 3)) (is_blob (column r 4)) texts.1).0 ∙ ap (λ (m : ℕ × List ℕ). Blob m.1) same;
      }

  has_number : (r : Row) → is_admin r ≡ true → not (is_null (rowid r)) ≡ true
  unfolding is_admin
  has_number r mine =
      let outer = and_parts (is_no_event (column r 1)) (nat_lt (kind_in (column r 2)) 256 && has_texts (column r 0) (column r 3) (column r 4)) mine in
      let inner = and_parts (nat_lt (kind_in (column r 2)) 256) (has_texts (column r 0) (column r 3) (column r 4)) outer.1 in
      (and_parts (not (is_null (column r 0))) (is_blob (column r 3) && is_blob (column r 4)) inner.1).0

  admin_row : (keep : Row → Bool) (r : Row) → (keep r ≡ false → NamedAdmin r) → (keep r ≡ true → NamedAdmin r → is_null (rowid r) ≡ true) → is_admin r ≡ true
      → is_eq (order admin_name (as_admin r) admin) ≡ not (keep r)
  admin_row keep r gone apart mine = elim (cases_Bool (keep r)) [
    | inl hit ↦ elim (cases_Bool (is_eq (order admin_name (as_admin r) admin))) [
      | inl same ↦
          let null = apart hit (admin_named r mine (names_exact (admin_name (as_admin r)) (admin_name admin) (tied _ same))) in
          absurd (let bad = ap not (sym null) ∙ has_number r mine in cc)
      | inr other ↦ other ∙ ap not (sym hit)
    ]
    | inr miss ↦ ap (λ m. is_eq (name_order m (admin_name admin))) (named_admin r (gone miss)) ∙ same_name (admin_name admin) ∙ ap not (sym miss)
  ]

  is_no_raw : (r : Row) → column r 1 ≡ Blob [] → is_raw r ≡ false
  unfolding is_raw is_event
  is_no_raw r is = rw (is, (no_bytes (event_in [])).1) refl

  pub admin_put : (old new : List Row) → HasPut [] (pos k) name body old new → held_in new ≡ with_admin_row admin (held_in old)
  unfolding held_in put_admin comes_before same_admin admin_before
  admin_put old new h =
      let row = stored_row h.id [] (pos k) name body in
      let mine = as_admin_is h.id in
      let each = each_row NamedAdmin (λ r. is_admin r ≡ true → is_eq (order admin_name (as_admin r) (as_admin row)) ≡ not (h.keep r)) h.keep old h.gone h.apart
      (λ r gone apart. subst (λ v. is_admin r ≡ true → is_eq (order admin_name (as_admin r) v) ≡ not (h.keep r)) (sym mine) (admin_row h.keep r gone apart)) in
      let others = each_row NamedAdmin (λ r. is_raw r ≡ true → h.keep r ≡ true) h.keep old h.gone h.apart (λ r gone apart raw. elim (cases_Bool (h.keep r)) [
        | inl hit ↦ hit
        | inr miss ↦ absurd (let bad = sym raw ∙ is_no_raw r (gone miss).event_is in cc)
      ]) in
      let admins = told_in_place (order admin_name) (total admin_name) as_admin is_admin row h.keep old (admin_stands h.id) h.free each in
      let rows = told_as_before (order raw_name) (total raw_name) as_raw is_raw row h.keep old (is_no_raw row refl) h.free others in
      ap held_in h.rows ∙ ap₂ (λ a b. record { rows = a; admin = b }) rows (admins ∙ put_by_order admin_name (as_admin row) (held_in old).admin ∙ ap (λ r. put_admin r (held_in old).admin) mine)

  -- the rows of events are as before
  pub admin_alike : (old new : List Row) → HasPut [] (pos k) name body old new → ascend comes_before (held_in new).rows ≡ ascend comes_before (held_in old).rows
  admin_alike old new h = ap (λ (held : Held). ascend comes_before held.rows) (admin_put old new h)
