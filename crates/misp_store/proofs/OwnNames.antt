-- A row that is read is held under its own event and name.
use Rattle.std.proofs.Common.{◌≡◌, ℕ, Bool, true, false, refl, subst, cond, Some, None, Result, Ok, Err}
use Rattle.misp_ids.proofs.Same.{same_event-sound}
use Rattle.misp_elem.specs.Prelude.{row_of}
use Rattle.misp_effects.specs.Prelude.{RawRow}
use Rattle.misp_model.proofs.Prelude.{Row, and_parts, bytes_eq-Decides, event_of, name_bytes}
use Rattle.misp_store.specs.Raw.{row_in, row_read, stands_under}

read_under : (raw : RawRow) (read : Result Row ℕ) (s : Row) → row_read raw read ≡ Some s → stands_under raw s ≡ true
read_under raw (Err left) s e = absurd cc
read_under raw (Ok x) s e = one (stands_under raw x) refl e
  where
    one : (b : Bool) → stands_under raw x ≡ b → cond b (Some x) None ≡ Some s → stands_under raw s ≡ true
    one true k f = let same : x ≡ s = cc in subst (λ r. stands_under raw r ≡ true) same k
    one false k f = absurd cc

under_own : (raw : RawRow) (s : Row) → row_in raw ≡ Some s → stands_under raw s ≡ true
unfolding row_in
under_own raw s e = read_under raw (row_of raw.bytes) s e

module _ (raw : RawRow) (s : Row) (read : row_in raw ≡ Some s) where
  pub event_under : event_of s.key ≡ raw.event
  unfolding stands_under
  event_under = same_event-sound (event_of s.key) raw.event (and_parts _ _ (under_own raw s read)).0

  pub name_under : raw.name ≡ name_bytes s
  unfolding stands_under
  name_under = (bytes_eq-Decides raw.name (name_bytes s)).0 (and_parts _ _ (under_own raw s read)).1
