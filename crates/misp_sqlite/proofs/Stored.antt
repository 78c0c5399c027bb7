-- The rows that the selections answer are those that are held.
use Rattle.std.proofs.Common.{◌≡◌, ◌<◌, ◌^◌, ℕ, ◌==◌, ◌&&◌, Bool, true, false, not, List, [], ◌∷◌, map, refl, sym, ap, ap₂, subst, ◌∙◌, eqb-true, eq-eqb, filter, Contains, IsPermutation, Ordering, Less, Equal, Greater, is_lt, is_eq, nat_cmp, int_cmp, pos, negsuc}
use Rattle.std.specs.Prelude.{bytes_eq, nat_lt}
use Rattle.std.specs.List.{list_all}
use Rattle.std.specs.Ordering.{is_ne}
use Rattle.std.proofs.lemmas.List.Sorted.{Contains-permutation, IsPermutation-map}
use Rattle.std.proofs.lemmas.Slice.Eq.{bytes_eq-Decides}
use Rattle.uuid.proofs.OrderLemmas.{from_be_bytes-to_be_bytes_16}
use Rattle.sqlite_value.specs.declared.value.Value.{Value}
use Rattle.sqlite_value.specs.declared.value.Value.TheVariants.{Null, Int, Real, Text, Blob}
use Rattle.sqlite_value.specs.declared.keys.Collation.TheVariants.{Binary}
use Rattle.sqlite_value.specs.Order.{Row, bytes, column, value_cmp}
use Rattle.sqlite_value.proofs.OrderLemmas.{value_cmp-Blob, value_cmp-Int, value_cmp-Null, value_cmp-apart}
use Rattle.sqlite_sql.specs.declared.ops.BinaryOp.TheVariants.{Compare, Is}
use Rattle.sqlite_sql.specs.declared.ops.CompareOp.{CompareOp}
use Rattle.sqlite_sql.specs.declared.ops.CompareOp.TheVariants.{Eq, Ne}
use Rattle.sqlite_sql.specs.declared.ops.UnaryOp.TheVariants.{Not}
use Rattle.sqlite_sql.specs.Ops.{binary, unary, is_null, is_true, from_truth, test}
use Rattle.std.proofs.Common.{Some}
use Rattle.misp_lists.specs.Order.{ascend, in_order}
use Rattle.misp_lists.proofs.Prelude.{and_from, and_parts, false≢true, is_eq-slice_cmp, less_of, slice_cmp}
use Rattle.std.proofs.lemmas.Bool.{true_from_ne_false}
use Rattle.std.proofs.lemmas.List.Sorted.{ranks_by}
use Rattle.misp_lists.proofs.Elements.{all_has, filter_among, kept_has, map_has}
use Rattle.misp_lists.proofs.Lists.{alike, filter-map, map_same, map_twice}
use Rattle.misp_lists.proofs.Ordering.{in_order_cut}
use Rattle.misp_ids.specs.declared.uid.EventId.{EventId}
use Rattle.misp_outside.specs.declared.row.RawRow.{RawRow}
use Rattle.misp_outside.specs.declared.row.AdminRow.{AdminRow}
use Rattle.misp_outside.specs.Held.{raw_name, admin_name, comes_before, admin_before, rows_of}
use Rattle.misp_outside.proofs.Names.{names_total, order, total}
use Rattle.misp_sqlite.specs.Kept.{one_query, all_query}
use Rattle.misp_sqlite.specs.Stored.{event_bytes, event_in, is_blob, kind_in, is_event, is_no_event, has_texts, raw_from, as_raw, is_raw, admin_from, as_admin, is_admin, is_event_row, is_admin_row, is_any_row, admin_shown, any_shown, held_in, is_wanted, shown_of, IsSelected}
use Rattle.misp_sqlite.proofs.Ascending.{in_order_is}

-- ---- tests of values

truth_of : (b : Bool) → is_true (from_truth (Some b)) ≡ b
truth_of true = refl
truth_of false = refl

-- a value is equal to a blob where it is that blob
pub equal_blob : (v : Value) (e : List ℕ) → is_true (binary (Compare Eq Binary) v (Blob e)) ≡ (is_blob v && bytes_eq (bytes v) e)
unfolding binary
equal_blob Null e = refl
equal_blob (Int n) e = ap (λ o. is_true (from_truth (Some (is_eq o)))) (value_cmp-apart (Int n) (Blob e) (λ same. absurd cc))
equal_blob (Real x) e = ap (λ o. is_true (from_truth (Some (is_eq o)))) (value_cmp-apart (Real x) (Blob e) (λ same. absurd cc))
equal_blob (Text t) e = ap (λ o. is_true (from_truth (Some (is_eq o)))) (value_cmp-apart (Text t) (Blob e) (λ same. absurd cc))
equal_blob (Blob b) e = truth_of (is_eq (value_cmp (Blob b) (Blob e))) ∙ ap is_eq (value_cmp-Blob b e) ∙ is_eq-slice_cmp b e

pub with_true : (b : Bool) → (b && true) ≡ b
with_true true = refl
with_true false = refl

-- two blobs are compared by their bytes
pub blob_tested : (by : CompareOp) (v : Value) (e : List ℕ) → is_blob v ≡ true → is_true (binary (Compare by Binary) v (Blob e)) ≡ test by (slice_cmp nat_cmp (bytes v) e)
unfolding binary
blob_tested by Null e h = absurd cc
blob_tested by (Int n) e h = absurd cc
blob_tested by (Real x) e h = absurd cc
blob_tested by (Text t) e h = absurd cc
blob_tested by (Blob b) e h = truth_of (test by (value_cmp (Blob b) (Blob e))) ∙ ap (test by) (value_cmp-Blob b e)

-- a value that reads as the kind 0 is that number
pub kind_tested : (v : Value) → (kind_in v == 0) ≡ true → is_true (binary (Compare Eq Binary) v (Int (pos 0))) ≡ true
unfolding binary
kind_tested Null h = absurd cc
kind_tested (Int (pos n)) h =
    let zero_kind : n ≡ 0 = eqb-true _ _ h in
    truth_of (is_eq (value_cmp (Int (pos n)) (Int (pos 0)))) ∙ ap is_eq (value_cmp-Int (pos n) (pos 0)) ∙ ap (λ k. is_eq (int_cmp (pos k) (pos 0))) zero_kind
kind_tested (Int (negsuc n)) h = absurd cc
kind_tested (Real x) h = absurd cc
kind_tested (Text t) h = absurd cc
kind_tested (Blob b) h = absurd cc

not_truth : (b : Bool) → is_true (unary Not (from_truth (Some b))) ≡ not b
unfolding unary
not_truth true = refl
not_truth false = refl

-- a value is not NULL
pub is_numbered : (v : Value) → is_true (unary Not (binary (Is Binary) v Null)) ≡ not (is_null v)
unfolding binary
is_numbered Null = not_truth (is_eq (value_cmp Null Null)) ∙ ap (λ o. not (is_eq o)) (value_cmp-Null Null)
is_numbered (Int n) = not_truth (is_eq (value_cmp (Int n) Null)) ∙ ap (λ o. not (is_eq o)) (value_cmp-apart (Int n) Null (λ same. absurd cc))
is_numbered (Real x) = not_truth (is_eq (value_cmp (Real x) Null)) ∙ ap (λ o. not (is_eq o)) (value_cmp-apart (Real x) Null (λ same. absurd cc))
is_numbered (Text t) = not_truth (is_eq (value_cmp (Text t) Null)) ∙ ap (λ o. not (is_eq o)) (value_cmp-apart (Text t) Null (λ same. absurd cc))
is_numbered (Blob b) = not_truth (is_eq (value_cmp (Blob b) Null)) ∙ ap (λ o. not (is_eq o)) (value_cmp-apart (Blob b) Null (λ same. absurd cc))

pub same_bytes : (xs ys : List ℕ) → bytes_eq xs ys ≡ true → xs ≡ ys
same_bytes xs ys h = (bytes_eq-Decides xs ys).0 h

pub bytes_same : (xs ys : List ℕ) → xs ≡ ys → bytes_eq xs ys ≡ true
bytes_same xs ys h = (bytes_eq-Decides xs ys).1 h

-- ---- orders

pub raw_on : (a b c : RawRow) → comes_before a b ≡ true → comes_before b c ≡ true → comes_before a c ≡ true
unfolding comes_before
raw_on a b c h k = ap is_lt ((total raw_name).trans a b c (less_of _ h) (less_of _ k))

pub raw_past : (w x y : RawRow) → comes_before w y ≡ true → comes_before x y ≡ false → comes_before w x ≡ true
unfolding comes_before
raw_past w x y h k = true_from_ne_false _ (λ e. false≢true (sym ((ranks_by names_total raw_name).chain w x y e k) ∙ h))

admin_on : (a b c : AdminRow) → admin_before a b ≡ true → admin_before b c ≡ true → admin_before a c ≡ true
unfolding admin_before
admin_on a b c h k = ap is_lt ((total admin_name).trans a b c (less_of _ h) (less_of _ k))

admin_past : (w x y : AdminRow) → admin_before w y ≡ true → admin_before x y ≡ false → admin_before w x ≡ true
unfolding admin_before
admin_past w x y h k = true_from_ne_false _ (λ e. false≢true (sym ((ranks_by names_total admin_name).chain w x y e k) ∙ h))

-- ---- rows of the table

pub record RawParts (r : Row) : Type 0 where
  pub blob : is_blob (column r 1) ≡ true
  pub spelled : bytes (column r 1) ≡ event_bytes (event_in (bytes (column r 1)))
  pub kind : (kind_in (column r 2) == 0) ≡ true
  pub numbered : not (is_null (column r 0)) ≡ true
  pub name : is_blob (column r 3) ≡ true
  pub body : is_blob (column r 4) ≡ true

pub parts_of : (r : Row) → is_raw r ≡ true → RawParts r
unfolding is_raw is_event
parts_of r h =
    let outer = and_parts (is_event (column r 1)) ((kind_in (column r 2) == 0) && has_texts (column r 0) (column r 3) (column r 4)) h in
    let event = and_parts (is_blob (column r 1)) (bytes_eq (bytes (column r 1)) (event_bytes (event_in (bytes (column r 1))))) outer.0 in
    let inner = and_parts (kind_in (column r 2) == 0) (has_texts (column r 0) (column r 3) (column r 4)) outer.1 in
    let texts = and_parts (not (is_null (column r 0))) (is_blob (column r 3) && is_blob (column r 4)) inner.1 in
    let both = and_parts (is_blob (column r 3)) (is_blob (column r 4)) texts.1 in
    record { blob = event.0; spelled = same_bytes _ _ event.1; kind = inner.0; numbered = texts.0; name = both.0; body = both.1 }

pub from_parts : (r : Row) → RawParts r → is_raw r ≡ true
unfolding is_raw is_event
from_parts r p =
    and_from (is_event (column r 1)) ((kind_in (column r 2) == 0) && has_texts (column r 0) (column r 3) (column r 4))
    (and_from (is_blob (column r 1)) (bytes_eq (bytes (column r 1)) (event_bytes (event_in (bytes (column r 1))))) p.blob (bytes_same _ _ p.spelled))
    (and_from (kind_in (column r 2) == 0) (has_texts (column r 0) (column r 3) (column r 4)) p.kind
    (and_from (not (is_null (column r 0))) (is_blob (column r 3) && is_blob (column r 4)) p.numbered (and_from (is_blob (column r 3)) (is_blob (column r 4)) p.name p.body)))

-- ---- rows of one event

-- a stored row that has a rowid and the bytes of the event n
pub record IsOf (n : ℕ) (r : Row) : Type 0 where
  pub blob : is_blob (column r 1) ≡ true
  pub same : bytes (column r 1) ≡ event_bytes n
  pub numbered : not (is_null (column r 0)) ≡ true

abbrev pub has_bytes : ℕ → Row → Bool
has_bytes n r = is_blob (column r 1) && bytes_eq (bytes (column r 1)) (event_bytes n)

pub is_of : (n : ℕ) (r : Row) → has_bytes n r ≡ true → not (is_null (column r 0)) ≡ true → IsOf n r
is_of n r has numbered =
    let event = and_parts (is_blob (column r 1)) (bytes_eq (bytes (column r 1)) (event_bytes n)) has in
    record { blob = event.0; same = same_bytes _ _ event.1; numbered = numbered }

-- what the selections of one event show of a row
abbrev pub shown : Row → Row
shown r = column r 2 ∷ column r 3 ∷ column r 4 ∷ []

module _ (n : ℕ) (fits : n < 2 ^ 128) where
  pub read_back : event_in (event_bytes n) ≡ n
  unfolding event_in event_bytes
  read_back = from_be_bytes-to_be_bytes_16 n fits

  pub is_its : (r : Row) → IsOf n r → event_in (bytes (column r 1)) ≡ n
  is_its r of = ap event_in of.same ∙ read_back

  -- a row of an event is one of this event where it has its bytes
  pub raw_has_bytes : (r : Row) → is_raw r ≡ true → ((as_raw r).event.0.0 == n) ≡ has_bytes n r
  unfolding as_raw
  raw_has_bytes r raw =
      let p = parts_of r raw in
      alike (event_in (bytes (column r 1)) == n) (has_bytes n r)
      (λ e. let k : event_in (bytes (column r 1)) ≡ n = eqb-true _ _ e in
      and_from (is_blob (column r 1)) (bytes_eq (bytes (column r 1)) (event_bytes n)) p.blob (bytes_same _ _ (p.spelled ∙ ap event_bytes k)))
      (λ has. eq-eqb _ _ (is_its r (is_of n r has p.numbered)))

  -- where the stored rows that are wanted are those that stand for what is asked for
  module _ (wanted : Row → Bool) (its : RawRow → Bool) (of : (r : Row) → wanted r ≡ true → IsOf n r) (to : (r : Row) → is_raw r ≡ true → its (as_raw r) ≡ wanted r) where
    abbrev from : Row → RawRow
    from r = raw_from n (column r 1) (column r 2)

    pub wanted_raw : (r : Row) → wanted r ≡ true → is_event_row (shown r) ≡ true → is_raw r ≡ true
    wanted_raw r w fine =
        let p = of r w in
        let shape = and_parts (kind_in (column r 2) == 0) (is_blob (column r 3) && is_blob (column r 4)) fine in
        let both = and_parts (is_blob (column r 3)) (is_blob (column r 4)) shape.1 in
        from_parts r (record { blob = p.blob; spelled = p.same ∙ ap event_bytes (sym (is_its r p)); kind = shape.0; numbered = p.numbered; name = both.0; body = both.1 })

    shown_are : (stored : List Row) → map from (map shown (filter wanted stored)) ≡ map as_raw (filter wanted stored)
    unfolding as_raw
    shown_are stored = map_twice shown from (λ r. raw_from n (column r 3) (column r 4)) (λ r. refl) (filter wanted stored)
        ∙ map_same (λ r. raw_from n (column r 3) (column r 4)) (λ r. raw_from (event_in (bytes (column r 1))) (column r 3) (column r 4)) wanted (λ r w. ap (λ e. raw_from e (column r 3) (column r 4)) (sym (is_its r (of r w)))) stored

    -- the rows that are answered and ascend are those that are held and asked for
    pub its_held : (stored rows : List Row) (found : List RawRow) → IsPermutation (map shown (filter wanted stored)) rows
        → list_all is_event_row rows ≡ true → found ≡ map from rows → ascend comes_before found ≡ true
        → found ≡ filter its (held_in stored).rows
    unfolding held_in comes_before
    its_held stored rows found selected each is up =
        let fine = λ (r : Row) (m : Contains stored r) (w : wanted r ≡ true).
        all_has is_event_row rows (shown r) each (Contains-permutation _ rows (shown r) selected (map_has shown (filter wanted stored) r (kept_has wanted stored r m w))) in
        let mine = map as_raw (filter wanted stored) in
        let moved = subst (λ all. IsPermutation all (map from rows)) (shown_are stored) (IsPermutation-map from (map shown (filter wanted stored)) rows selected) in
        let are = filter_among (λ r. its (as_raw r)) wanted is_raw stored (λ r m raw. to r raw) (λ r m w. wanted_raw r w (fine r m w)) in
        let kept : filter its (map as_raw (filter is_raw stored)) ≡ mine = filter-map as_raw its (filter is_raw stored) ∙ ap (map as_raw) are in
        sym (in_order_cut comes_before raw_on raw_past its (map as_raw (filter is_raw stored))
        ∙ ap (in_order comes_before) kept
        ∙ in_order_is (order raw_name) (total raw_name) mine found (subst (IsPermutation mine) (sym is) moved) up)

-- ---- one event

module _ (event : EventId) (fits : event.0.0 < 2 ^ 128) where
  abbrev asked : Row
  asked = Blob (event_bytes event.0.0) ∷ []

  abbrev wanted : Row → Bool
  wanted = is_wanted one_query asked

  wanted_is : (r : Row) → wanted r ≡ (has_bytes event.0.0 r && (not (is_null (column r 0)) && true))
  wanted_is r = ap₂ (λ a b. a && (b && true)) (equal_blob (column r 1) (event_bytes event.0.0)) (is_numbered (column r 0))

  wanted_of : (r : Row) → wanted r ≡ true → IsOf event.0.0 r
  wanted_of r w =
      let outer = and_parts (has_bytes event.0.0 r) (not (is_null (column r 0)) && true) (sym (wanted_is r) ∙ w) in
      is_of event.0.0 r outer.0 (and_parts (not (is_null (column r 0))) true outer.1).0

  its_row : (r : Row) → is_raw r ≡ true → ((as_raw r).event.0.0 == event.0.0) ≡ wanted r
  its_row r raw = raw_has_bytes event.0.0 fits r raw ∙ sym (wanted_is r ∙ rw (parts_of r raw).numbered (with_true (has_bytes event.0.0 r)))

  -- the rows of an event that are answered and ascend are those that are held
  pub event_held : (stored rows : List Row) (found : List RawRow) → IsSelected one_query asked stored rows
      → list_all is_event_row rows ≡ true → found ≡ map (λ r. raw_from event.0.0 (column r 1) (column r 2)) rows → ascend comes_before found ≡ true
      → found ≡ rows_of event (held_in stored).rows
  unfolding rows_of
  event_held stored rows found selected each is up =
      its_held event.0.0 fits wanted (λ row. row.event.0.0 == event.0.0) wanted_of its_row stored rows found selected each is up

-- ---- the administration

abbrev none_asked : Row
none_asked = Blob [] ∷ []

admin_wanted_is : (r : Row) → is_wanted one_query none_asked r ≡ ((is_blob (column r 1) && bytes_eq (bytes (column r 1)) []) && (not (is_null (column r 0)) && true))
admin_wanted_is r = ap₂ (λ a b. a && (b && true)) (equal_blob (column r 1) []) (is_numbered (column r 0))

-- where the rows that are wanted are shown as rows of the administration, they are those
admins_are : (stored : List Row) → ((r : Row) → Contains stored r → is_wanted one_query none_asked r ≡ true → is_admin_row (shown_of one_query none_asked r) ≡ true)
    → filter (λ r. true) (filter is_admin stored) ≡ filter (is_wanted one_query none_asked) stored
unfolding is_admin is_no_event
admins_are stored fine = filter_among (λ r. true) wanted is_admin stored to from
  where
    wanted : Row → Bool
    wanted = is_wanted one_query none_asked

    to : (r : Row) → Contains stored r → is_admin r ≡ true → true ≡ wanted r
    to r m h =
        let outer = and_parts (is_no_event (column r 1)) (nat_lt (kind_in (column r 2)) 256 && has_texts (column r 0) (column r 3) (column r 4)) h in
        let inner = and_parts (nat_lt (kind_in (column r 2)) 256) (has_texts (column r 0) (column r 3) (column r 4)) outer.1 in
        let texts = and_parts (not (is_null (column r 0))) (is_blob (column r 3) && is_blob (column r 4)) inner.1 in
        sym (admin_wanted_is r ∙ and_from (is_blob (column r 1) && bytes_eq (bytes (column r 1)) []) (not (is_null (column r 0)) && true) outer.0 (and_from (not (is_null (column r 0))) true texts.0 refl))

    from : (r : Row) → Contains stored r → wanted r ≡ true → is_admin r ≡ true
    from r m w =
        let outer = and_parts (is_blob (column r 1) && bytes_eq (bytes (column r 1)) []) (not (is_null (column r 0)) && true) (sym (admin_wanted_is r) ∙ w) in
        let shape = and_parts (nat_lt (kind_in (column r 2)) 256) (is_blob (column r 3) && is_blob (column r 4)) (fine r m w) in
        and_from (is_no_event (column r 1)) (nat_lt (kind_in (column r 2)) 256 && has_texts (column r 0) (column r 3) (column r 4)) outer.0
        (and_from (nat_lt (kind_in (column r 2)) 256) (has_texts (column r 0) (column r 3) (column r 4)) shape.0
        (and_from (not (is_null (column r 0))) (is_blob (column r 3) && is_blob (column r 4)) (and_parts (not (is_null (column r 0))) true outer.1).0 shape.1))

all_kept : {X : Type 0} (xs : List X) → filter (λ x. true) xs ≡ xs
all_kept [] = refl
all_kept (x ∷ xs) = ap (λ ys. x ∷ ys) (all_kept xs)

-- the rows of the administration that are answered and ascend are those that are held
pub admin_held : (stored rows : List Row) (found : List AdminRow) → IsSelected one_query (Blob [] ∷ []) stored rows
    → list_all is_admin_row rows ≡ true → found ≡ map admin_shown rows → ascend admin_before found ≡ true
    → found ≡ (held_in stored).admin
unfolding held_in admin_before as_admin
admin_held stored rows found selected each is up =
    let wanted = is_wanted one_query none_asked in
    let show = shown_of one_query none_asked in
    let fine : (r : Row) → Contains stored r → wanted r ≡ true → is_admin_row (show r) ≡ true =
    λ r m w. all_has is_admin_row rows (show r) each (Contains-permutation _ rows (show r) selected (map_has show (filter wanted stored) r (kept_has wanted stored r m w))) in
    let mine = map as_admin (filter wanted stored) in
    let moved = subst (λ all. IsPermutation all (map admin_shown rows)) (shown_admins (filter wanted stored)) (IsPermutation-map admin_shown (map show (filter wanted stored)) rows selected) in
    let kept : map as_admin (filter is_admin stored) ≡ mine = ap (map as_admin) (sym (all_kept (filter is_admin stored)) ∙ admins_are stored fine) in
    sym (ap (in_order admin_before) kept
    ∙ in_order_is (order admin_name) (total admin_name) mine found (subst (IsPermutation mine) (sym is) moved) up)
  where
    shown_admins : (rs : List Row) → map admin_shown (map (shown_of one_query none_asked) rs) ≡ map as_admin rs
    shown_admins rs = map_twice (shown_of one_query none_asked) admin_shown (λ r. admin_from (column r 2) (column r 3) (column r 4)) (λ r. refl) rs

-- ---- all events

-- a value that is a blob is another than no bytes where it has some
other_blob : (v : Value) → is_blob v ≡ true → is_true (binary (Compare Ne Binary) v (Blob [])) ≡ not (bytes_eq (bytes v) [])
other_blob v h = blob_tested Ne v [] h ∙ unequal (slice_cmp nat_cmp (bytes v) []) ∙ ap not (is_eq-slice_cmp (bytes v) [])
  where
    unequal : (o : Ordering) → is_ne o ≡ not (is_eq o)
    unequal Less = refl
    unequal Equal = refl
    unequal Greater = refl

some_bytes : (n : ℕ) → bytes_eq (event_bytes n) [] ≡ false
unfolding event_bytes
some_bytes n = refl

all_wanted : (r : Row) → is_raw r ≡ true → is_wanted all_query [] r ≡ true
all_wanted r h =
    let p = parts_of r h in
    let differs = other_blob (column r 1) p.blob ∙ ap (λ b. not (bytes_eq b [])) p.spelled ∙ ap not (some_bytes (event_in (bytes (column r 1)))) in
    and_from _ _ differs (and_from _ _ (is_numbered (column r 0) ∙ p.numbered) refl)

alls_are : (stored : List Row) → ((r : Row) → Contains stored r → is_wanted all_query [] r ≡ true → is_any_row (shown_of all_query [] r) ≡ true)
    → filter (λ r. true) (filter is_raw stored) ≡ filter (is_wanted all_query []) stored
unfolding is_raw
alls_are stored fine = filter_among (λ r. true) (is_wanted all_query []) is_raw stored (λ r m h. sym (all_wanted r h)) from
  where
    from : (r : Row) → Contains stored r → is_wanted all_query [] r ≡ true → is_raw r ≡ true
    from r m w =
        let shape = and_parts (is_event (column r 1)) ((kind_in (column r 2) == 0) && (is_blob (column r 3) && is_blob (column r 4))) (fine r m w) in
        let inner = and_parts (kind_in (column r 2) == 0) (is_blob (column r 3) && is_blob (column r 4)) shape.1 in
        let numbered = sym (is_numbered (column r 0)) ∙ (and_parts _ true (and_parts (is_true (binary (Compare Ne Binary) (column r 1) (Blob []))) _ w).1).0 in
        and_from (is_event (column r 1)) ((kind_in (column r 2) == 0) && has_texts (column r 0) (column r 3) (column r 4)) shape.0
        (and_from (kind_in (column r 2) == 0) (has_texts (column r 0) (column r 3) (column r 4)) inner.0
        (and_from (not (is_null (column r 0))) (is_blob (column r 3) && is_blob (column r 4)) numbered inner.1))

-- the rows of all events that are answered and ascend are those that are held
pub all_held : (stored rows : List Row) (found : List RawRow) → IsSelected all_query [] stored rows
    → list_all is_any_row rows ≡ true → found ≡ map any_shown rows → ascend comes_before found ≡ true
    → found ≡ (held_in stored).rows
unfolding held_in comes_before as_raw
all_held stored rows found selected each is up =
    let wanted = is_wanted all_query [] in
    let show = shown_of all_query [] in
    let fine : (r : Row) → Contains stored r → wanted r ≡ true → is_any_row (show r) ≡ true =
    λ r m w. all_has is_any_row rows (show r) each (Contains-permutation _ rows (show r) selected (map_has show (filter wanted stored) r (kept_has wanted stored r m w))) in
    let mine = map as_raw (filter wanted stored) in
    let moved = subst (λ all. IsPermutation all (map any_shown rows)) (shown_alls (filter wanted stored)) (IsPermutation-map any_shown (map show (filter wanted stored)) rows selected) in
    let kept : map as_raw (filter is_raw stored) ≡ mine = ap (map as_raw) (sym (all_kept (filter is_raw stored)) ∙ alls_are stored fine) in
    sym (ap (in_order comes_before) kept
    ∙ in_order_is (order raw_name) (total raw_name) mine found (subst (IsPermutation mine) (sym is) moved) up)
  where
    shown_alls : (rs : List Row) → map any_shown (map (shown_of all_query []) rs) ≡ map as_raw rs
    shown_alls rs = map_twice (shown_of all_query []) any_shown (λ r. raw_from (event_in (bytes (column r 1))) (column r 3) (column r 4)) (λ r. refl) rs
