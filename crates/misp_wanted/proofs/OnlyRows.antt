-- A package with some of its rows alone is a package.
use Rattle.std.proofs.Common.{◌≡◌, ℕ, suc, ◌≤◌, Bool, true, false, cond, ap, ◌∙◌, arith, ◌||◌, List, [], ◌∷◌, filter, length, map, leb, leb-true, le-leb, Less, nat_cmp}
use Rattle.std.specs.List.Sorted.{IsStrictlySortedBy}
use Rattle.misp_lists.proofs.Lists.{all-filter}
use Rattle.misp_elem.specs.Fields.{IsBetween}
use Rattle.misp_elem.specs.Spelling.{key}
use Rattle.misp_model.proofs.Prelude.{AllByRecursion, AreRows, EventId, Key, Row, and_from, and_parts, event_key, false≢true, list_any, same_key, same_key-refl, slice_cmp}
use Rattle.misp_model.specs.Package.{BeginsWith, IsPackage, is_packed}
use Rattle.misp_model.specs.declared.package.PackageFields.{PackageFields}
use Rattle.misp_model.specs.Manifests.{is_asked_for, only_of}

-- ---- some rows of a list

module _ (q : Row → Bool) where
  shorter : (rows : List Row) → length (filter q rows) ≤ length rows
  shorter [] = omega arith
  shorter (r ∷ rows) = one (q r) (shorter rows)
    where
      one : (b : Bool) → length (filter q rows) ≤ length rows → length (cond b (r ∷ filter q rows) (filter q rows)) ≤ suc (length rows)
      one true h = omega (arith, h)
      one false h = omega (arith, h)

  rows_kept : (rows : List Row) → AreRows rows → AreRows (filter q rows)
  rows_kept [] a = tt
  rows_kept (r ∷ rows) a = one (q r) (rows_kept rows a.1)
    where
      one : (b : Bool) → AreRows (filter q rows) → AreRows (cond b (r ∷ filter q rows) (filter q rows))
      one true h = (a.0, h)
      one false h = h

  abbrev keys_of : List Row → List (List ℕ)
  keys_of rows = map (λ row. key row.key) rows

  above_kept : (k : List ℕ) (rows : List Row) → AllByRecursion (λ b. slice_cmp nat_cmp k b ≡ Less) (keys_of rows) → AllByRecursion (λ b. slice_cmp nat_cmp k b ≡ Less) (keys_of (filter q rows))
  above_kept k [] a = tt
  above_kept k (r ∷ rows) a = one (q r) (above_kept k rows a.1)
    where
      one : (b : Bool) → AllByRecursion (λ b. slice_cmp nat_cmp k b ≡ Less) (keys_of (filter q rows)) → AllByRecursion (λ b. slice_cmp nat_cmp k b ≡ Less) (keys_of (cond b (r ∷ filter q rows) (filter q rows)))
      one true h = (a.0, h)
      one false h = h

  ascend_kept : (rows : List Row) → IsStrictlySortedBy (slice_cmp nat_cmp) (keys_of rows) → IsStrictlySortedBy (slice_cmp nat_cmp) (keys_of (filter q rows))
  unfolding IsStrictlySortedBy
  ascend_kept [] s = tt
  ascend_kept (r ∷ rows) s = one (q r) (ascend_kept rows s.1)
    where
      one : (b : Bool) → IsStrictlySortedBy (slice_cmp nat_cmp) (keys_of (filter q rows)) → IsStrictlySortedBy (slice_cmp nat_cmp) (keys_of (cond b (r ∷ filter q rows) (filter q rows)))
      one true h = (above_kept (key r.key) rows s.0, h)
      one false h = h

-- ---- the first row

-- the event's own row is kept
own_kept : (e : EventId) (keys : List Key) (row : Row) → row.key ≡ event_key e → is_asked_for e keys row ≡ true
unfolding is_asked_for
own_kept e keys row is = ap (λ k. same_key k (event_key e) || list_any (same_key k) keys) is ∙ ap (λ b. b || list_any (same_key (event_key e)) keys) (same_key-refl (event_key e))

first_kept : (e : EventId) (keys : List Key) (rows : List Row) → BeginsWith e rows → BeginsWith e (filter (is_asked_for e keys) rows) × (1 ≤ length (filter (is_asked_for e keys) rows))
unfolding event_key
first_kept e keys [] is = absurd is
first_kept e keys (r ∷ rows) is = one (is_asked_for e keys r) (own_kept e keys r is)
  where
    one : (b : Bool) → b ≡ true → BeginsWith e (cond b (r ∷ filter (is_asked_for e keys) rows) (filter (is_asked_for e keys) rows)) × (1 ≤ length (cond b (r ∷ filter (is_asked_for e keys) rows) (filter (is_asked_for e keys) rows)))
    one true h = (is, omega arith)
    one false h = absurd (false≢true h)

-- ---- packages

few_kept : (n m : ℕ) → 1 ≤ n → n ≤ m → IsBetween 1 65 m → IsBetween 1 65 n
few_kept n m some le h = and_from _ _ (le-leb 1 n some) (le-leb n 65 (omega (arith, le, leb-true m 65 (and_parts (leb 1 m) (leb m 65) h).1)))

pub only_is : (keys : List Key) (p : PackageFields) → IsPackage p → IsPackage (only_of keys p)
unfolding only_of
only_is keys p is =
    let first = first_kept p.event keys p.rows is.first in
    record {
      event = is.event;
      part = is.part;
      parts = is.parts;
      count = few_kept (length (filter (is_asked_for p.event keys) p.rows)) (length p.rows) first.1 (shorter (is_asked_for p.event keys) p.rows) is.count;
      first = first.0;
      packed = all-filter (is_packed p.event) (is_asked_for p.event keys) p.rows is.packed;
      ascend = ascend_kept (is_asked_for p.event keys) p.rows is.ascend;
      rows = rows_kept (is_asked_for p.event keys) p.rows is.rows;
    }
