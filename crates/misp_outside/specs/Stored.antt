-- What a table stores: bytes under a number and a name. And what it stored before some were put.
use Rattle.std.specs.Prelude.{◌≡◌, ℕ, Bool, true, List, [], ◌∷◌, map, Option, None, Some}
use Rattle.std.specs.Global.{Vec}
use Rattle.std.specs.Map.{remove_entry, set_value}
use Rattle.std.specs.BTreeMap.{is_at}
use Rattle.std.specs.BTreeMap.Range.{range_contains}
use Rattle.std.specs.declared.ops.Bound.{Bound}
use Rattle.misp_lists.specs.Prelude.{Ordering, nat_cmp, ordering_then, slice_cmp}
use Rattle.misp_ids.specs.declared.uid.EventId.{EventId}
use Rattle.misp_outside.specs.declared.row.RawRow.{RawRow}
use Rattle.misp_outside.specs.declared.row.AdminRow.{AdminRow}

-- ---- a table

-- by the lesser number, and by the bytes of the name where it is the same
abbrev pub key_order : {N : Type 0} → (N → N → Ordering) → N × Vec ℕ → N × Vec ℕ → Ordering
key_order order a b = ordering_then (order a.0 b.0) (slice_cmp nat_cmp a.1.items b.1.items)

-- the entries with what was under the key that passes: its value, or no entry
abbrev pub set_back : {K X : Type 0} → (K → Bool) → Option X → List (K × X) → List (K × X)
set_back test None entries = remove_entry test entries
set_back test (Some value) entries = set_value test entries value

-- the entries with what was under each key before it was put, where the last is set back first
unfoldable pub undone : {K X : Type 0} → (K → K → Ordering) → List (K × Option X)
    → List (K × X) → List (K × X)
undone order [] entries = entries
undone order (first ∷ rest) entries =
    set_back (is_at (order first.0)) first.1 (undone order rest entries)

-- ---- rows

-- a row of an event
abbrev pub raw_row : (ℕ × Vec ℕ) × List ℕ → RawRow
raw_row entry = record {
  event = record { 0 = record { 0 = entry.0.0 } };
  name = entry.0.1.items;
  bytes = entry.1;
}

-- a row of the administration
abbrev pub admin_row : (ℕ × Vec ℕ) × List ℕ → AdminRow
admin_row entry = record { kind = entry.0.0; name = entry.0.1.items; bytes = entry.1 }

-- every key of the event is between the two bounds
abbrev pub Spans : EventId → Bound (ℕ × Vec ℕ) → Bound (ℕ × Vec ℕ) → Type 0
Spans event low high = (key : ℕ × Vec ℕ) → key.0 ≡ event.0.0 →
    range_contains (key_order nat_cmp) low high key ≡ true

-- the rows of events in a table
unfoldable pub raw_rows : List ((ℕ × Vec ℕ) × List ℕ) → List RawRow
raw_rows entries = map raw_row entries

-- the rows of the administration in a table
unfoldable pub admin_rows : List ((ℕ × Vec ℕ) × List ℕ) → List AdminRow
admin_rows entries = map admin_row entries
