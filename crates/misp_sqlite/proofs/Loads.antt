-- What the calls that load rows answer.
use Rattle.std.proofs.Common.{◌≡◌, ◌<◌, ◌^◌, ℕ, true, List, [], ◌∷◌, map, refl, sym, ap, subst, ◌∙◌, IsTrue, Result, Ok, Err, Some, IfOk, OnOk, nat_eq, filter}
use Rattle.std.specs.List.{list_all, starts_with}
use Rattle.std.specs.Int.{w128, to_be_bytes}
use Rattle.sqlite_value.specs.declared.value.Value.TheVariants.{Blob}
use Rattle.sqlite_value.specs.Order.{Row, column}
use Rattle.misp_lists.specs.Order.{ascend}
use Rattle.misp_lists.proofs.Prelude.{and_from}
use Rattle.misp_lists.proofs.Lists.{filter_twice}
use Rattle.misp_lists.proofs.Ordering.{ascend_kept}
use Rattle.misp_ids.specs.declared.uid.EventId.{EventId}
use Rattle.misp_outside.specs.declared.row.RawRow.{RawRow}
use Rattle.misp_outside.specs.declared.row.AdminRow.{AdminRow}
use Rattle.misp_outside.specs.Held.{comes_before, admin_before, rows_of, rows_named}
use Rattle.misp_sqlite.specs.Kept.{one_query, between_query, all_query}
use Rattle.misp_sqlite.specs.Ranges.{bytes_after, rows_between}
use Rattle.misp_sqlite.specs.Stored.{event_bytes, event_in, event_of, is_event, is_event_row, is_admin_row, is_any_row, raw_from, admin_shown, any_shown, held_in, IsSelected}
use Rattle.misp_sqlite.proofs.Ranges.{between_held, named_between}
use Rattle.misp_sqlite.proofs.Stored.{event_held, admin_held, all_held, read_back, bytes_same}

module _ {V E : Type 0} where
  pub event_loaded : (items : V → List RawRow) (r : Result V E) (n : ℕ) (bytes : List ℕ) (stored rows given : List Row) → n < 2 ^ 128 → bytes ≡ to_be_bytes w128 n → given ≡ rows
      → IsSelected one_query (Blob bytes ∷ []) stored rows → OnOk r (IsTrue (list_all is_event_row given)) → IfOk r (λ v. items v ≡ map (λ x. raw_from n (column x 1) (column x 2)) given)
      → IfOk r (λ v. IsTrue (ascend comes_before (items v))) → IfOk r (λ v. items v ≡ rows_of (event_of n) (held_in stored).rows)
  unfolding event_bytes
  event_loaded items (Ok v) n bytes stored rows given fits written same selected each is up =
      event_held (event_of n) fits stored given (items v)
      (subst (λ b. IsSelected one_query (Blob b ∷ []) stored given) written (subst (IsSelected one_query (Blob bytes ∷ []) stored) (sym same) selected)) each is up
  event_loaded items (Err e) n bytes stored rows given fits written same selected each is up = tt

  pub admin_loaded : (items : V → List AdminRow) (r : Result V E) (stored rows given : List Row) → given ≡ rows
      → IsSelected one_query (Blob [] ∷ []) stored rows → OnOk r (IsTrue (list_all is_admin_row given)) → IfOk r (λ v. items v ≡ map admin_shown given)
      → IfOk r (λ v. IsTrue (ascend admin_before (items v))) → IfOk r (λ v. items v ≡ (held_in stored).admin)
  admin_loaded items (Ok v) stored rows given same selected each is up =
      admin_held stored given (items v) (subst (IsSelected one_query (Blob [] ∷ []) stored) (sym same) selected) each is up
  admin_loaded items (Err e) stored rows given same selected each is up = tt

  pub all_loaded : (items : V → List RawRow) (r : Result V E) (stored rows given : List Row) → given ≡ rows
      → IsSelected all_query [] stored rows → OnOk r (IsTrue (list_all is_any_row given)) → IfOk r (λ v. items v ≡ map any_shown given)
      → IfOk r (λ v. IsTrue (ascend comes_before (items v))) → IfOk r (λ v. items v ≡ (held_in stored).rows)
  all_loaded items (Ok v) stored rows given same selected each is up =
      all_held stored given (items v) (subst (IsSelected all_query [] stored) (sym same) selected) each is up
  all_loaded items (Err e) stored rows given same selected each is up = tt

  pub between_loaded : (items : V → List RawRow) (r : Result V E) (n : ℕ) (from until bytes : List ℕ) (stored rows given : List Row) → n < 2 ^ 128 → bytes ≡ to_be_bytes w128 n → given ≡ rows
      → IsSelected between_query (Blob bytes ∷ Blob from ∷ Blob until ∷ []) stored rows → OnOk r (IsTrue (list_all is_event_row given)) → IfOk r (λ v. items v ≡ map (λ x. raw_from n (column x 1) (column x 2)) given)
      → IfOk r (λ v. IsTrue (ascend comes_before (items v))) → IfOk r (λ v. items v ≡ rows_between (event_of n) from until (held_in stored).rows)
  unfolding event_bytes
  between_loaded items (Ok v) n from until bytes stored rows given fits written same selected each is up =
      between_held (event_of n) fits from until stored given (items v)
      (subst (λ b. IsSelected between_query (Blob b ∷ Blob from ∷ Blob until ∷ []) stored given) written (subst (IsSelected between_query (Blob bytes ∷ Blob from ∷ Blob until ∷ []) stored) (sym same) selected)) each is up
  between_loaded items (Err e) n from until bytes stored rows given fits written same selected each is up = tt

  -- those whose names begin with the bytes, of the rows in the range and of all rows of the event
  pub range_near : (items : V → List RawRow) (r : Result V E) (event : EventId) (front after until : List ℕ) (all : List RawRow) → bytes_after front ≡ Some after → until ≡ after
      → IfOk r (λ v. items v ≡ rows_between event front until all) → IfOk r (λ v. filter (λ row. starts_with nat_eq row.name front) (items v) ≡ rows_named event front all)
  range_near items (Ok v) event front after until all is same found =
      ap (filter (λ row. starts_with nat_eq row.name front)) found ∙ named_between event front until all (is ∙ ap Some (sym same))
  range_near items (Err e) event front after until all is same found = tt

  pub event_near : (items : V → List RawRow) (r : Result V E) (event : EventId) (front : List ℕ) (all : List RawRow)
      → IfOk r (λ v. items v ≡ rows_of event all) → IfOk r (λ v. filter (λ row. starts_with nat_eq row.name front) (items v) ≡ rows_named event front all)
  unfolding rows_of rows_named
  event_near items (Ok v) event front all found = ap (filter (λ row. starts_with nat_eq row.name front)) found ∙ filter_twice _ _ all
  event_near items (Err e) event front all found = tt

  pub named_loaded : (items : V → List RawRow) (r : Result V E) (event : EventId) (front : List ℕ) (all rows : List RawRow)
      → filter (λ row. starts_with nat_eq row.name front) rows ≡ rows_named event front all
      → IfOk r (λ v. items v ≡ filter (λ row. starts_with nat_eq row.name front) rows) → IfOk r (λ v. items v ≡ rows_named event front all)
  named_loaded items (Ok v) event front all rows same is = is ∙ same
  named_loaded items (Err e) event front all rows same is = tt

  pub named_ascend : (items : V → List RawRow) (r : Result V E) (front : List ℕ) (rows : List RawRow) → ascend comes_before rows ≡ true
      → IfOk r (λ v. items v ≡ filter (λ row. starts_with nat_eq row.name front) rows) → IfOk r (λ v. IsTrue (ascend comes_before (items v)))
  named_ascend items (Ok v) front rows up is = subst (λ l. ascend comes_before l ≡ true) (sym is) (ascend_kept comes_before _ rows up)
  named_ascend items (Err e) front rows up is = tt

-- the bytes of an event are its spelling, and read as it
pub spelled : (n : ℕ) (bs : List ℕ) → n < 2 ^ 128 → bs ≡ to_be_bytes w128 n → (is_event (Blob bs) ≡ true) × (n ≡ event_in bs)
unfolding is_event event_bytes
spelled n bs fits same =
    let back : event_in bs ≡ n = ap event_in same ∙ read_back n fits in
    (and_from true _ refl (bytes_same bs (event_bytes (event_in bs)) (same ∙ ap event_bytes (sym back))), sym back)
