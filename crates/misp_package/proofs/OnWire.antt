-- Rows that stand on the wire one after the other are the rows of a package.
use Rattle.std.proofs.Common.{◌≡◌, ℕ, Bool, true, false, not, eqb, ◌&&◌, List, [], ◌∷◌, length, map, Option, Some, None, Less, refl, ap, eqb-true, eq-eqb, nat_cmp, is_lt}
use Rattle.std.specs.List.Sorted.{IsStrictlySortedBy}
use Rattle.misp_lists.proofs.All.{all_implied}
use Rattle.misp_lists.proofs.Orders.{less_of}
use Rattle.misp_lists.proofs.Prelude.{AllByRecursion, and_from, and_parts, false≢true, list_all, nat_list_cmp_total, slice_cmp}
use Rattle.misp_elem.specs.Prelude.{IsBetween, IsRow}
use Rattle.misp_elem.specs.Row.{AreRows}
use Rattle.misp_elem.specs.Spelling.{key}
use Rattle.misp_elem.specs.WireReading.{IsKeyAfter, IsOnWire}
use Rattle.misp_model.specs.Package.{BeginsWith, is_packed}
use Rattle.misp_model.specs.Prelude.{EventId, Key, Row, event_key, event_of}

-- each is a row, and stands after the one before it
abbrev pub AreOnWire : EventId → Option Key → List Row → Type 0
AreOnWire e before [] = Unit {0}
AreOnWire e before (r ∷ rs) = (IsRow r × IsOnWire e before r) × AreOnWire e (Some r.key) rs

-- what the rows of a package are, one by one
pub record ArePacked (e : EventId) (rs : List Row) : Type 0 where
  pub first : BeginsWith e rs
  pub packed : list_all (is_packed e) rs ≡ true
  pub ascend : IsStrictlySortedBy (slice_cmp nat_cmp) (map (λ row. key row.key) rs)
  pub rows : AreRows rs

-- ---- one row

one_event : (f e : EventId) → eqb f.0.0 e.0.0 ≡ true → f ≡ e
one_event f e h = let make : ℕ → EventId = λ n. record { 0 = record { 0 = n } } in ap make (eqb-true f.0.0 e.0.0 h)

carried_parts : (event owner carried held : Bool) → (event && owner && carried && not held) ≡ true → ((event ≡ true) × (owner ≡ true)) × ((held ≡ false) × (carried ≡ true))
carried_parts true true true false h = ((refl, refl), (refl, refl))
carried_parts true true true true h = absurd (false≢true h)
carried_parts true true false held h = absurd (false≢true h)
carried_parts true false carried held h = absurd (false≢true h)
carried_parts false owner carried held h = absurd (false≢true h)

on_wire_is : (e : EventId) (before : Option Key) (r : Row) → is_packed e r ≡ true → (event_of r.key ≡ e → IsKeyAfter e before r.key) → IsOnWire e before r
on_wire_is e before r h after =
    let p = carried_parts (eqb (event_of r.key).0.0 e.0.0) (eqb r.owner.0.0 0) r.carried r.held h in
    (eqb-true r.owner.0.0 0 p.0.1, (after (one_event (event_of r.key) e p.0.0), p.1))

packed_is : (e : EventId) (before : Option Key) (r : Row) → IsOnWire e before r → event_of r.key ≡ e → is_packed e r ≡ true
packed_is e before r h is =
    let event : eqb (event_of r.key).0.0 e.0.0 ≡ true = eq-eqb _ _ (ap (λ (f : EventId). f.0.0) is) in
    let owner : eqb r.owner.0.0 0 ≡ true = eq-eqb _ _ h.0 in
    rw (event, owner, h.1.1.0, h.1.1.1) refl

-- ---- the rows after one

abbrev less : List ℕ → List ℕ → Type 0
less a b = slice_cmp nat_cmp a b ≡ Less

later : (e : EventId) (before : Key) (rs : List Row) → AllByRecursion (less (key before)) (map (λ row. key row.key) rs) → IsStrictlySortedBy (slice_cmp nat_cmp) (map (λ row. key row.key) rs)
    → list_all (is_packed e) rs ≡ true → AreRows rs → AreOnWire e (Some before) rs
unfolding IsStrictlySortedBy
later e before [] above sorted packed rows = tt
later e before (r ∷ rs) above sorted packed rows =
    let p = and_parts (is_packed e r) (list_all (is_packed e) rs) packed in
    ((rows.0, on_wire_is e (Some before) r p.0 (λ is. (is, ap is_lt above.0))), later e r.key rs sorted.0 sorted.1 p.1 rows.1)

-- what the rows after one are
abbrev Later : EventId → Key → List Row → Type 0
Later e before rs =
    (AllByRecursion (less (key before)) (map (λ row. key row.key) rs) × IsStrictlySortedBy (slice_cmp nat_cmp) (map (λ row. key row.key) rs))
    × ((list_all (is_packed e) rs ≡ true) × AreRows rs)

are_later : (e : EventId) (before : Key) (rs : List Row) → AreOnWire e (Some before) rs → Later e before rs
unfolding IsStrictlySortedBy
are_later e before [] h = ((tt, tt), (refl, tt))
are_later e before (r ∷ rs) h =
    let others = are_later e r.key rs h.1 in
    let above : less (key before) (key r.key) = less_of _ h.0.1.1.0.1 in
    let all = all_implied (less (key r.key)) (less (key before)) (λ k under. nat_list_cmp_total.trans (key before) (key r.key) k above under) (map (λ row. key row.key) rs) others.0.0 in
    (((above, all), (others.0.0, others.0.1)), (and_from _ _ (packed_is e (Some before) r h.0.1 h.0.1.1.0.0) others.1.0, (h.0.0, others.1.1)))

-- ---- all rows

-- the rows of a package stand so on the wire
pub are_on_wire : (e : EventId) (rs : List Row) → ArePacked e rs → AreOnWire e None rs
unfolding IsStrictlySortedBy event_key
are_on_wire e [] h = tt
are_on_wire e (r ∷ rs) h =
    let p = and_parts (is_packed e r) (list_all (is_packed e) rs) h.packed in
    ((h.rows.0, on_wire_is e None r p.0 (λ is. h.first)), later e r.key rs h.ascend.0 h.ascend.1 p.1 h.rows.1)

-- and what stands so on the wire are the rows of a package
pub are_packed : (e : EventId) (rs : List Row) → IsBetween 1 65 (length rs) → AreOnWire e None rs → ArePacked e rs
unfolding IsStrictlySortedBy event_key event_of
are_packed e [] some h = absurd (false≢true some)
are_packed e (r ∷ rs) some h =
    let others = are_later e r.key rs h.1 in
    let is : event_of r.key ≡ e = ap event_of h.0.1.1.0 in
    record {
      first = h.0.1.1.0;
      packed = and_from _ _ (packed_is e None r h.0.1 is) others.1.0;
      ascend = (others.0.0, others.0.1);
      rows = (h.0.0, others.1.1);
    }
