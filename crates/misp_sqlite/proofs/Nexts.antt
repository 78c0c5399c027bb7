-- The first of the rows of an event whose names are not before given bytes, and the selection of it.
use Rattle.std.proofs.Common.{◌≡◌, ◌⊎◌, ◌<◌, ◌^◌, ◌==◌, ◌&&◌, ℕ, suc, pos, Bool, true, false, not, List, [], ◌∷◌, map, take, refl, sym, ap, ap₂, subst, ◌∙◌, inl, inr, arith, eqb-true, Option, Some, None, slice_get, Ordering, Equal, is_lt, nat_cmp, filter, find, Contains, IsPermutation, true≢false}
use Rattle.std.specs.Prelude.{IsSorted}
use Rattle.std.specs.Int.{w128, to_be_bytes}
use Rattle.std.specs.List.{list_all}
use Rattle.std.specs.Ordering.{is_ge}
use Rattle.std.proofs.lemmas.Cmp.{tied_itself}
use Rattle.std.proofs.lemmas.List.Sorted.{Contains-permutation, IsPermutation-sym, ranks_by, sorted_far}
use Rattle.sqlite_value.specs.declared.value.Value.TheVariants.{Int, Blob}
use Rattle.sqlite_value.specs.declared.keys.Collation.TheVariants.{Binary}
use Rattle.sqlite_value.specs.Order.{Row, bytes, column, value_cmp}
use Rattle.sqlite_value.proofs.OrderLemmas.{value_cmp-Blob}
use Rattle.sqlite_sql.specs.declared.ops.BinaryOp.TheVariants.{Compare}
use Rattle.sqlite_sql.specs.declared.ops.CompareOp.TheVariants.{Eq, Ge}
use Rattle.sqlite_sql.specs.Ops.{binary, is_null, is_true}
use Rattle.sqlite_sql.specs.Query.{Output, output_cmp}
use Rattle.sqlite_sql.proofs.QueryLemmas.{key_cmp_total}
use Rattle.misp_lists.specs.Order.{ascend, in_order}
use Rattle.misp_lists.proofs.All.{all_of}
use Rattle.misp_lists.proofs.Elements.{first_or, here, kept_has, map_from, map_has, of_part, there}
use Rattle.misp_lists.proofs.Ordering.{Ordered, from_in_order, in_order_has, ordered_all}
use Rattle.misp_lists.proofs.Orders.{then_equal}
use Rattle.misp_lists.proofs.Prelude.{and_parts, cases_Bool, ordering_then, slice_cmp}
use Rattle.misp_ids.specs.declared.uid.EventId.{EventId}
use Rattle.misp_outside.specs.declared.row.RawRow.{RawRow}
use Rattle.misp_outside.specs.Held.{comes_before, is_from, next_row, raw_name}
use Rattle.misp_outside.proofs.Names.{names_total}
use Rattle.misp_outside.proofs.Rows.{same_number}
use Rattle.misp_sqlite.specs.Kept.{next_query, rising}
use Rattle.misp_sqlite.specs.Stored.{event_bytes, event_of, kind_in, is_blob, as_raw, is_raw, is_event_row, raw_from, held_in, is_wanted, output_of, IsPaged}
use Rattle.misp_sqlite.proofs.Stored.{IsOf, has_bytes, is_of, is_its, parts_of, raw_has_bytes, raw_on, raw_past, wanted_raw, equal_blob, blob_tested, kind_tested, is_numbered, with_true}
use Rattle.misp_sqlite.proofs.Told.{blob_is, kind_is}
use Rattle.misp_sqlite.proofs.Values.{same_value}

-- ---- lists

none_in : {X : Type 0} (x : X) → Contains [] x → ⊥
none_in x m = let lt = m.1 in omega arith

-- where no element passes, none is found
find_none : {X : Type 0} (its : X → Bool) (xs : List X) → ((y : X) → Contains xs y → its y ≡ true → ⊥) → find its xs ≡ None
find_none its [] none = refl
find_none its (y ∷ ys) none = elim (cases_Bool (its y)) [
  | inl hit ↦ absurd (none y (here y ys) hit)
  | inr miss ↦ rw miss (find_none its ys (λ z m. none z (there y ys z m)))
]

-- an element that goes before all others that pass is the first of these
module _ {X : Type 0} (before : X → X → Bool) (on : (a b c : X) → before a b ≡ true → before b c ≡ true → before a c ≡ true)
    (past : (w x y : X) → before w y ≡ true → before x y ≡ false → before w x ≡ true) (apart : (x : X) → before x x ≡ true → ⊥) (its : X → Bool) (x : X) (hit : its x ≡ true) where
  find_least : (xs : List X) → Ordered before on past xs → Contains xs x → ((y : X) → Contains xs y → its y ≡ true → (y ≡ x) ⊎ (before x y ≡ true)) → find its xs ≡ Some x
  find_least [] o m least = absurd (none_in x m)
  find_least (y ∷ ys) o m least = elim (cases_Bool (its y)) [
    | inl h ↦ elim (least y (here y ys) h) [
      | inl e ↦ rw h (ap Some e)
      | inr b ↦ elim (first_or y ys x m) [
        | inl e ↦ absurd (apart x (ap (before x) (sym e) ∙ b))
        | inr k ↦ absurd (apart x (all_of (λ z. before x z ≡ true) ys x (o.0 x b) k))
      ]
    ]
    | inr miss ↦ elim (first_or y ys x m) [
      | inl e ↦ absurd (true≢false (sym hit ∙ ap its (sym e) ∙ miss))
      | inr k ↦ rw miss (find_least ys o.1 k (λ z n. least z (there y ys z n)))
    ]
  ]

no_less : (o : Ordering) → o ≡ Equal → is_lt o ≡ true → ⊥
no_less o equal less = true≢false (sym less ∙ ap is_lt equal)

-- no row comes before itself
raw_apart : (row : RawRow) → comes_before row row ≡ true → ⊥
unfolding comes_before
raw_apart row less = no_less _ (tied_itself names_total (raw_name row)) less

-- ---- an answer that is in its order

-- none of those after the second goes before it
after_second : (o p : Output) (more : List Output) (z : Output) → IsSorted (output_cmp next_query) (o ∷ p ∷ more) → Contains (p ∷ more) z → is_lt (output_cmp next_query z p) ≡ false
after_second o p more z up (k, low, is) =
    ap (λ w. is_lt (output_cmp next_query w p)) (sym is)
    ∙ sorted_far (λ x y. is_lt (output_cmp next_query x y)) (ranks_by (key_cmp_total (rising ∷ rising ∷ []) 0) (λ (x : Output). x.0)) (o ∷ p ∷ more) up 1 (suc k) z (omega arith) (omega (arith, low))

-- ---- rows

module _ (event : EventId) (fits : event.0.0 < 2 ^ 128) (from : List ℕ) where
  abbrev asked : Row
  asked = Blob (event_bytes event.0.0) ∷ Blob from ∷ []

  abbrev wanted : Row → Bool
  wanted = is_wanted next_query asked

  abbrev its : RawRow → Bool
  its row = is_from event from (raw_name row)

  abbrev has_kind : Row → Bool
  has_kind r = is_true (binary (Compare Eq Binary) (column r 2) (Int (pos 0)))

  abbrev starts_at : Row → Bool
  starts_at r = is_true (binary (Compare Ge Binary) (column r 3) (Blob from))

  wanted_is : (r : Row) → wanted r ≡ (has_bytes event.0.0 r && (has_kind r && (starts_at r && (not (is_null (column r 0)) && true))))
  wanted_is r = ap₂ (λ a b. a && (has_kind r && (starts_at r && (b && true)))) (equal_blob (column r 1) (event_bytes event.0.0)) (is_numbered (column r 0))

  wanted_of : (r : Row) → wanted r ≡ true → IsOf event.0.0 r
  wanted_of r w =
      let all = and_parts (has_bytes event.0.0 r) (has_kind r && (starts_at r && (not (is_null (column r 0)) && true))) (sym (wanted_is r) ∙ w) in
      let kind = and_parts (has_kind r) (starts_at r && (not (is_null (column r 0)) && true)) all.1 in
      let low = and_parts (starts_at r) (not (is_null (column r 0)) && true) kind.1 in
      is_of event.0.0 r all.0 (and_parts (not (is_null (column r 0))) true low.1).0

  -- of a row of an event the selection compares the event and the name
  names_row : (r : Row) → is_raw r ≡ true → (has_kind r && (starts_at r && (not (is_null (column r 0)) && true))) ≡ is_ge (slice_cmp nat_cmp (bytes (column r 3)) from)
  names_row r raw =
      let p = parts_of r raw in
      ap (λ k. k && (starts_at r && (not (is_null (column r 0)) && true))) (kind_tested (column r 2) p.kind)
      ∙ ap (λ l. l && (not (is_null (column r 0)) && true)) (blob_tested Ge (column r 3) from p.name)
      ∙ ap (λ b. is_ge (slice_cmp nat_cmp (bytes (column r 3)) from) && (b && true)) p.numbered
      ∙ with_true (is_ge (slice_cmp nat_cmp (bytes (column r 3)) from))

  its_row : (r : Row) → is_raw r ≡ true → its (as_raw r) ≡ wanted r
  unfolding as_raw
  its_row r raw = ap₂ (λ a b. a && b) (raw_has_bytes event.0.0 fits r raw) (sym (names_row r raw)) ∙ sym (wanted_is r)

  abbrev out : Row → Output
  out = output_of next_query asked

  -- what is shown, as a row of the event
  abbrev shows : Row → RawRow
  shows x = raw_from event.0.0 (column x 1) (column x 2)

  shown_raw : (r : Row) → wanted r ≡ true → shows (out r).1 ≡ as_raw r
  unfolding as_raw
  shown_raw r w = ap (λ e. raw_from e (column r 3) (column r 4)) (sym (is_its event.0.0 fits r (wanted_of r w)))

  -- where the first does not sort before the second, neither does its name
  names_sorted : (r s : Row) → column r 2 ≡ Int (pos 0) → column s 2 ≡ Int (pos 0) → is_blob (column r 3) ≡ true → is_blob (column s 3) ≡ true
      → is_lt (output_cmp next_query (out r) (out s)) ≡ false → is_lt (slice_cmp nat_cmp (bytes (column r 3)) (bytes (column s 3))) ≡ false
  names_sorted r s kind other_kind name other_name late =
      let kinds : value_cmp (column r 2) (column s 2) ≡ Equal = ap₂ value_cmp kind other_kind ∙ same_value (Int (pos 0)) in
      let names : value_cmp (column r 3) (column s 3) ≡ slice_cmp nat_cmp (bytes (column r 3)) (bytes (column s 3)) = ap₂ value_cmp (blob_is _ name) (blob_is _ other_name) ∙ value_cmp-Blob _ _ in
      sym (ap₂ (λ a b. is_lt (ordering_then a (ordering_then b Equal))) kinds names ∙ ap is_lt (then_equal (slice_cmp nat_cmp (bytes (column r 3)) (bytes (column s 3))))) ∙ late

  -- a row of the event that does not sort before one that is shown as one does not come before it
  not_before : (r s : Row) → is_raw r ≡ true → wanted r ≡ true → is_event_row (out s).1 ≡ true → is_lt (output_cmp next_query (out r) (out s)) ≡ false → comes_before (as_raw r) (shows (out s).1) ≡ false
  unfolding comes_before as_raw
  not_before r s raw w fine late =
      let p = parts_of r raw in
      let shape = and_parts (kind_in (column s 2) == 0) (is_blob (column s 3) && is_blob (column s 4)) fine in
      let name = (and_parts (is_blob (column s 3)) (is_blob (column s 4)) shape.1).0 in
      ap (λ o. is_lt (ordering_then o (slice_cmp nat_cmp (bytes (column r 3)) (bytes (column s 3))))) (same_number _ _ (is_its event.0.0 fits r (wanted_of r w)))
      ∙ names_sorted r s (kind_is (column r 2) 0 (omega arith) (eqb-true _ _ p.kind)) (kind_is (column s 2) 0 (omega arith) (eqb-true _ _ shape.0)) p.name name late

  module _ (stored : List Row) (ordered : List Output) (same : IsPermutation (map out (filter wanted stored)) ordered) where
    -- a stored row that is wanted is among those in order
    among : (r : Row) → Contains stored r → wanted r ≡ true → Contains ordered (out r)
    among r m w = Contains-permutation (map out (filter wanted stored)) ordered (out r) same (map_has out (filter wanted stored) r (kept_has wanted stored r m w))

    -- each of these is of a stored row that is wanted
    record Source (o : Output) : Type 0 where
      row : Row
      there : Contains stored row
      is_wanted : wanted row ≡ true
      gives : out row ≡ o

    source : (o : Output) → Contains ordered o → Source o
    source o m =
        let found = map_from out (filter wanted stored) o (Contains-permutation ordered (map out (filter wanted stored)) o (IsPermutation-sym (map out (filter wanted stored)) ordered same) m) in
        let part = of_part wanted stored found.0 found.1.0 in
        record { row = found.0; there = part.1; is_wanted = part.0; gives = found.1.1 }

    abbrev all : List RawRow
    all = in_order comes_before (map as_raw (filter is_raw stored))

    -- a row that is held and fits is that of a stored row that is wanted
    record Held (y : RawRow) : Type 0 where
      row : Row
      raw : is_raw row ≡ true
      is_wanted : wanted row ≡ true
      listed : Contains ordered (out row)
      is : as_raw row ≡ y

    held : (y : RawRow) → Contains all y → its y ≡ true → Held y
    held y m fit =
        let found = map_from as_raw (filter is_raw stored) y (from_in_order comes_before (map as_raw (filter is_raw stored)) y m) in
        let part = of_part is_raw stored found.0 found.1.0 in
        let w : wanted found.0 ≡ true = sym (its_row found.0 part.0) ∙ ap its found.1.1 ∙ fit in
        record { row = found.0; raw = part.0; is_wanted = w; listed = among found.0 part.1 w; is = found.1.1 }

    none : ordered ≡ [] → find its all ≡ None
    none empty = find_none its all (λ y m fit. let h = held y m fit in none_in (out h.row) (subst (λ os. Contains os (out h.row)) empty h.listed))

    -- the first in order is the first that is held
    first : (o : Output) → Contains ordered o → is_event_row o.1 ≡ true
        → ((r : Row) → is_raw r ≡ true → wanted r ≡ true → Contains ordered (out r) → (as_raw r ≡ shows o.1) ⊎ (comes_before (shows o.1) (as_raw r) ≡ true))
        → find its all ≡ Some (shows o.1)
    first o m fine least =
        let s = source o m in
        let raw : is_raw s.row ≡ true = wanted_raw event.0.0 fits wanted its wanted_of its_row s.row s.is_wanted (ap (λ (p : Output). is_event_row p.1) s.gives ∙ fine) in
        let shown : as_raw s.row ≡ shows o.1 = sym (shown_raw s.row s.is_wanted) ∙ ap (λ (p : Output). shows p.1) s.gives in
        let fit : its (shows o.1) ≡ true = ap its (sym shown) ∙ its_row s.row raw ∙ s.is_wanted in
        let listed = in_order_has comes_before (map as_raw (filter is_raw stored)) (as_raw s.row) (map_has as_raw (filter is_raw stored) s.row (kept_has is_raw stored s.row s.there raw)) in
        find_least comes_before raw_on raw_past raw_apart its (shows o.1) fit all (ordered_all comes_before raw_on raw_past (map as_raw (filter is_raw stored)))
        (subst (Contains all) shown listed)
        (λ y n k. let h = held y n k in subst (λ z. (z ≡ shows o.1) ⊎ (comes_before (shows o.1) z ≡ true)) h.is (least h.row h.raw h.is_wanted h.listed))

  abbrev answered : List Output → List Row
  answered ordered = take 2 (map (λ (o : Output). o.1) ordered)

  -- where the two that are answered ascend, the first of them is the first that is held
  first_answered : (stored : List Row) (ordered : List Output) → IsPermutation (map out (filter wanted stored)) ordered → IsSorted (output_cmp next_query) ordered
      → list_all is_event_row (answered ordered) ≡ true → ascend comes_before (map shows (answered ordered)) ≡ true
      → slice_get (map shows (answered ordered)) 0 ≡ find its (in_order comes_before (map as_raw (filter is_raw stored)))
  unfolding ascend
  first_answered stored [] same sorted each up = sym (none stored [] same refl)
  first_answered stored (o ∷ []) same sorted each up = sym (first stored (o ∷ []) same o (here o []) (and_parts _ _ each).0
      (λ r raw w m. elim (first_or o [] (out r) m) [
        | inl e ↦ inl (sym (shown_raw r w) ∙ ap (λ (p : Output). shows p.1) (sym e))
        | inr none ↦ absurd (none_in (out r) none)
      ]))
  first_answered stored (o ∷ p ∷ more) same sorted each up =
      let fine = and_parts (is_event_row o.1) (is_event_row p.1 && true) each in
      let second : comes_before (shows o.1) (shows p.1) ≡ true = (and_parts _ _ (and_parts _ _ up).0).0 in
      let s = source stored (o ∷ p ∷ more) same p (there o (p ∷ more) p (here p more)) in
      sym (first stored (o ∷ p ∷ more) same o (here o (p ∷ more)) fine.0
      (λ r raw w m. elim (first_or o (p ∷ more) (out r) m) [
        | inl e ↦ inl (sym (shown_raw r w) ∙ ap (λ (q : Output). shows q.1) (sym e))
        | inr behind ↦ inr (raw_past (shows o.1) (as_raw r) (shows p.1) second
            (subst (λ (q : Output). comes_before (as_raw r) (shows q.1) ≡ false) s.gives
            (not_before r s.row raw w (ap (λ (q : Output). is_event_row q.1) s.gives ∙ (and_parts _ _ fine.1).0)
            (ap (λ q. is_lt (output_cmp next_query (out r) q)) s.gives ∙ after_second o p more (out r) sorted behind))))
      ]))

  pub next_held : (stored rows : List Row) (found : List RawRow) → IsPaged next_query asked stored rows → list_all is_event_row rows ≡ true → found ≡ map shows rows → ascend comes_before found ≡ true
      → slice_get found 0 ≡ next_row event from (held_in stored).rows
  unfolding next_row held_in
  next_held stored rows found paged each is up =
      let shown : rows ≡ answered paged.ordered = paged.shown in
      ap (λ l. slice_get l 0) (is ∙ ap (map shows) shown)
      ∙ first_answered stored paged.ordered paged.same paged.sorted (subst (λ l. list_all is_event_row l ≡ true) shown each) (subst (λ l. ascend comes_before l ≡ true) (is ∙ ap (map shows) shown) up)

-- what the call that loads the first row answers
pub next_loaded : (n : ℕ) (from bytes : List ℕ) (stored rows given : List Row) (found : List RawRow) (answer : Option RawRow) → n < 2 ^ 128 → bytes ≡ to_be_bytes w128 n → given ≡ rows
    → IsPaged next_query (Blob bytes ∷ Blob from ∷ []) stored rows → list_all is_event_row given ≡ true → found ≡ map (λ x. raw_from n (column x 1) (column x 2)) given
    → ascend comes_before found ≡ true → answer ≡ slice_get found 0 → answer ≡ next_row (event_of n) from (held_in stored).rows
unfolding event_bytes
next_loaded n from bytes stored rows given found answer fits written same paged each is up one =
    one ∙ next_held (event_of n) fits from stored given found
    (subst (λ b. IsPaged next_query (Blob b ∷ Blob from ∷ []) stored given) written (subst (IsPaged next_query (Blob bytes ∷ Blob from ∷ []) stored) (sym same) paged)) each is up
