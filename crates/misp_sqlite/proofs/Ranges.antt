-- The range of the names that begin with given bytes, and the selection of its rows.
use Rattle.std.proofs.Common.{◌≡◌, ◌<◌, ◌≤◌, ◌+◌, ◌^◌, length, ◌==◌, ◌&&◌, ◌++◌, ℕ, pos, Bool, true, false, not, List, [], ◌∷◌, map, refl, sym, ap, ap₂, subst, ◌∙◌, arith, eqb-true, nat_eq, Option, Some, None, Less, is_lt, nat_cmp, filter}
use Rattle.std.specs.Prelude.{if◌then◌else◌, nat_lt}
use Rattle.std.specs.List.{list_all, starts_with}
use Rattle.std.specs.Ordering.{is_ge}
use Rattle.std.proofs.lemmas.List.Elements.{filter_agree}
use Rattle.sqlite_value.specs.declared.value.Value.TheVariants.{Int, Blob}
use Rattle.sqlite_value.specs.declared.keys.Collation.TheVariants.{Binary}
use Rattle.sqlite_value.specs.Order.{Row, bytes, column}
use Rattle.sqlite_sql.specs.declared.ops.BinaryOp.TheVariants.{Compare}
use Rattle.sqlite_sql.specs.declared.ops.CompareOp.TheVariants.{Eq, Lt, Ge}
use Rattle.sqlite_sql.specs.Ops.{binary, is_null, is_true}
use Rattle.misp_lists.specs.Order.{ascend}
use Rattle.misp_lists.proofs.Prelude.{and_from, and_parts, nat_tests, ordering_then, slice_cmp}
use Rattle.misp_lists.proofs.Lists.{alike, filter_twice, none_not_some, some_same}
use Rattle.misp_ids.specs.declared.uid.EventId.{EventId}
use Rattle.misp_outside.specs.declared.row.RawRow.{RawRow}
use Rattle.misp_outside.specs.Held.{comes_before, rows_named}
use Rattle.misp_outside.proofs.Rows.{same_number}
use Rattle.misp_sqlite.specs.Kept.{between_query}
use Rattle.misp_sqlite.specs.Ranges.{after_first, bytes_after, is_between, rows_between}
use Rattle.misp_sqlite.specs.Stored.{event_bytes, as_raw, is_raw, is_event_row, raw_from, held_in, is_wanted, IsSelected}
use Rattle.misp_sqlite.proofs.Stored.{IsOf, has_bytes, is_of, parts_of, raw_has_bytes, its_held, equal_blob, blob_tested, kind_tested, is_numbered, with_true}

-- ---- bytes

less_next : (x y : ℕ) → x ≡ y → nat_cmp y (x + 1) ≡ Less
less_next x y same = grind (arith, nat_tests)

-- where the bytes after the rest stand after what begins with it, so they do with one byte more
first_too : (x y : ℕ) (name after : List ℕ) (rest : Option (List ℕ)) → x ≡ y → ((more : List ℕ) → rest ≡ Some more → is_lt (slice_cmp nat_cmp name more) ≡ true)
    → after_first x rest ≡ Some after → is_lt (slice_cmp nat_cmp (y ∷ name) after) ≡ true
first_too x y name after (Some more) same less is =
    subst (λ all. is_lt (slice_cmp nat_cmp (y ∷ name) all) ≡ true) (some_same _ _ is) (ap (λ o. is_lt (ordering_then o (slice_cmp nat_cmp name more))) (same_number y x (sym same)) ∙ less more refl)
first_too x y name after None same less is = alone (nat_lt x 255) is
  where
    alone : (low : Bool) → (if low then Some ((x + 1) ∷ []) else None) ≡ Some after → is_lt (slice_cmp nat_cmp (y ∷ name) after) ≡ true
    alone true is = subst (λ all. is_lt (slice_cmp nat_cmp (y ∷ name) all) ≡ true) (some_same _ _ is) (ap (λ o. is_lt (ordering_then o (slice_cmp nat_cmp name []))) (less_next x y same))
    alone false is = absurd (none_not_some is)

-- all that begins with the bytes comes before those after it
pub begins_before : (front after name : List ℕ) → bytes_after front ≡ Some after → starts_with nat_eq name front ≡ true → is_lt (slice_cmp nat_cmp name after) ≡ true
unfolding bytes_after
begins_before [] after name is begins = absurd (none_not_some is)
begins_before (x ∷ front) after [] is begins = absurd cc
begins_before (x ∷ front) after (y ∷ name) is begins =
    let both : (nat_eq x y ≡ true) × (starts_with nat_eq name front ≡ true) = and_parts _ _ begins in
    first_too x y name after (bytes_after front) (eqb-true x y both.0) (λ more e. begins_before front more name e both.1) is

-- and not before the bytes
pub begins_from : (front name : List ℕ) → starts_with nat_eq name front ≡ true → is_ge (slice_cmp nat_cmp name front) ≡ true
begins_from [] [] begins = refl
begins_from [] (y ∷ name) begins = refl
begins_from (x ∷ front) [] begins = absurd cc
begins_from (x ∷ front) (y ∷ name) begins =
    let both : (nat_eq x y ≡ true) × (starts_with nat_eq name front ≡ true) = and_parts _ _ begins in
    ap (λ o. is_ge (ordering_then o (slice_cmp nat_cmp name front))) (same_number y x (sym (eqb-true x y both.0))) ∙ begins_from front name both.1

-- after bytes that end with one below 255, come those with the next one in its place
after_last : (xs : List ℕ) (x : ℕ) → x < 255 → bytes_after (xs ++ x ∷ []) ≡ Some (xs ++ (x + 1) ∷ [])
unfolding bytes_after
after_last [] x low = rw (is_low x low) refl
  where
    is_low : (x : ℕ) → x < 255 → nat_lt x 255 ≡ true
    is_low x low = grind (arith, nat_tests)
after_last (y ∷ xs) x low = ap (after_first y) (after_last xs x low)

-- what is left, with the next byte in the place of its last
pub after_pushed : (front left rest next : List ℕ) (last : ℕ) → bytes_after left ≡ bytes_after front → left ≡ rest ++ last ∷ [] → last < 255
    → next ≡ rest ++ (last + 1) ∷ [] → Some next ≡ bytes_after front
after_pushed front left rest next last same is low pushed = ap Some pushed ∙ sym (after_last rest last low) ∙ ap bytes_after (sym is) ∙ same

-- after those that end with 255, what comes after them without it
pub after_rest : (xs : List ℕ) (x : ℕ) → 255 ≤ x → bytes_after (xs ++ x ∷ []) ≡ bytes_after xs
unfolding bytes_after
after_rest [] x high = rw (is_high x high) refl
  where
    is_high : (x : ℕ) → 255 ≤ x → nat_lt x 255 ≡ false
    is_high x high = grind (arith, nat_tests)
after_rest (y ∷ xs) x high = ap (after_first y) (after_rest xs x high)

-- after no bytes, none
pub after_none : (xs : List ℕ) → length xs ≡ 0 → bytes_after xs ≡ None
unfolding bytes_after
after_none [] none = refl
after_none (x ∷ xs) none = absurd (omega arith)

-- ---- rows

-- of the rows in the range those whose names begin with the bytes are all those of the event
pub named_between : (event : EventId) (front after : List ℕ) (rows : List RawRow) → bytes_after front ≡ Some after
    → filter (λ row. starts_with nat_eq row.name front) (rows_between event front after rows) ≡ rows_named event front rows
unfolding rows_between rows_named
named_between event front after rows is =
    filter_twice (λ row. (row.event.0.0 == event.0.0) && is_between front after row.name) (λ row. starts_with nat_eq row.name front) rows
    ∙ filter_agree _ _ agree rows
  where
    agree : (row : RawRow) → (((row.event.0.0 == event.0.0) && is_between front after row.name) && starts_with nat_eq row.name front)
        ≡ ((row.event.0.0 == event.0.0) && starts_with nat_eq row.name front)
    agree row = alike _ _ (λ h. let all = and_parts _ (starts_with nat_eq row.name front) h in and_from _ _ (and_parts _ _ all.0).0 all.1)
        (λ h. let both = and_parts _ (starts_with nat_eq row.name front) h in
        and_from _ _ (and_from _ _ both.0 (and_from _ _ (begins_from front row.name both.1) (begins_before front after row.name is both.1))) both.1)

module _ (event : EventId) (fits : event.0.0 < 2 ^ 128) (from until : List ℕ) where
  abbrev asked : Row
  asked = Blob (event_bytes event.0.0) ∷ Blob from ∷ Blob until ∷ []

  abbrev wanted : Row → Bool
  wanted = is_wanted between_query asked

  abbrev has_kind : Row → Bool
  has_kind r = is_true (binary (Compare Eq Binary) (column r 2) (Int (pos 0)))

  abbrev is_from : Row → Bool
  is_from r = is_true (binary (Compare Ge Binary) (column r 3) (Blob from))

  abbrev is_until : Row → Bool
  is_until r = is_true (binary (Compare Lt Binary) (column r 3) (Blob until))

  wanted_is : (r : Row) → wanted r ≡ (has_bytes event.0.0 r && (has_kind r && (is_from r && (is_until r && (not (is_null (column r 0)) && true)))))
  wanted_is r = ap₂ (λ a b. a && (has_kind r && (is_from r && (is_until r && (b && true))))) (equal_blob (column r 1) (event_bytes event.0.0)) (is_numbered (column r 0))

  wanted_of : (r : Row) → wanted r ≡ true → IsOf event.0.0 r
  wanted_of r w =
      let all = and_parts (has_bytes event.0.0 r) (has_kind r && (is_from r && (is_until r && (not (is_null (column r 0)) && true)))) (sym (wanted_is r) ∙ w) in
      let kind = and_parts (has_kind r) (is_from r && (is_until r && (not (is_null (column r 0)) && true))) all.1 in
      let low = and_parts (is_from r) (is_until r && (not (is_null (column r 0)) && true)) kind.1 in
      let high = and_parts (is_until r) (not (is_null (column r 0)) && true) low.1 in
      is_of event.0.0 r all.0 (and_parts (not (is_null (column r 0))) true high.1).0

  -- of a row of an event the selection compares the event and the name
  names_row : (r : Row) → is_raw r ≡ true → (has_kind r && (is_from r && (is_until r && (not (is_null (column r 0)) && true)))) ≡ is_between from until (bytes (column r 3))
  names_row r raw =
      let p = parts_of r raw in
      ap (λ k. k && (is_from r && (is_until r && (not (is_null (column r 0)) && true)))) (kind_tested (column r 2) p.kind)
      ∙ ap₂ (λ l h. l && (h && (not (is_null (column r 0)) && true))) (blob_tested Ge (column r 3) from p.name) (blob_tested Lt (column r 3) until p.name)
      ∙ ap (λ b. is_ge (slice_cmp nat_cmp (bytes (column r 3)) from) && (is_lt (slice_cmp nat_cmp (bytes (column r 3)) until) && (b && true))) p.numbered
      ∙ ap (λ b. is_ge (slice_cmp nat_cmp (bytes (column r 3)) from) && b) (with_true (is_lt (slice_cmp nat_cmp (bytes (column r 3)) until)))

  its_row : (r : Row) → is_raw r ≡ true → (((as_raw r).event.0.0 == event.0.0) && is_between from until (as_raw r).name) ≡ wanted r
  unfolding as_raw
  its_row r raw = ap₂ (λ a b. a && b) (raw_has_bytes event.0.0 fits r raw) (sym (names_row r raw)) ∙ sym (wanted_is r)

  -- the rows in the range that are answered and ascend are those that are held
  pub between_held : (stored rows : List Row) (found : List RawRow) → IsSelected between_query asked stored rows
      → list_all is_event_row rows ≡ true → found ≡ map (λ r. raw_from event.0.0 (column r 1) (column r 2)) rows → ascend comes_before found ≡ true
      → found ≡ rows_between event from until (held_in stored).rows
  unfolding rows_between
  between_held stored rows found selected each is up =
      its_held event.0.0 fits wanted (λ row. (row.event.0.0 == event.0.0) && is_between from until row.name) wanted_of its_row stored rows found selected each is up
