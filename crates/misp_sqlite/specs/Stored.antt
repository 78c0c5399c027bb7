-- What the rows of the table stand for.
use Rattle.std.specs.Prelude.{ℕ, pos, negsuc, ◌≡◌, Bool, true, false, not, nat_lt, ◌&&◌, ◌==◌, List, [], ◌∷◌, map, filter, bytes_eq, IsPermutation, IsSorted}
use Rattle.std.specs.Int.{w128, to_be_bytes, from_be_bytes}
use Rattle.std.specs.List.{list_all}
use Rattle.sqlite_value.specs.declared.value.Value.{Value}
use Rattle.sqlite_value.specs.declared.value.Value.TheVariants.{Null, Int, Real, Text, Blob}
use Rattle.sqlite_value.specs.Order.{Row, bytes, column}
use Rattle.sqlite_sql.specs.Ops.{is_null}
use Rattle.sqlite_sql.specs.Term.{holds, eval_all}
use Rattle.sqlite_sql.specs.Query.{Query, Output, output, output_cmp, page}
use Rattle.misp_lists.specs.Order.{in_order}
use Rattle.misp_ids.specs.declared.uid.EventId.{EventId}
use Rattle.misp_outside.specs.declared.row.RawRow.{RawRow}
use Rattle.misp_outside.specs.declared.row.AdminRow.{AdminRow}
use Rattle.misp_outside.specs.Held.{Held, comes_before, admin_before}

-- the bytes of an event
unfoldable pub event_bytes : ℕ → List ℕ
event_bytes event = to_be_bytes w128 event

unfoldable pub event_in : List ℕ → ℕ
event_in bytes = from_be_bytes w128 bytes

abbrev pub is_blob : Value → Bool
is_blob Null = false
is_blob (Int n) = false
is_blob (Real x) = false
is_blob (Text t) = false
is_blob (Blob b) = true

-- the number of a kind
abbrev pub kind_in : Value → ℕ
kind_in Null = 256
kind_in (Int (pos n)) = n
kind_in (Int (negsuc n)) = 256
kind_in (Real x) = 256
kind_in (Text t) = 256
kind_in (Blob b) = 256

-- the 16 bytes of an event, as they are written
unfoldable pub is_event : Value → Bool
is_event v = is_blob v && bytes_eq (bytes v) (event_bytes (event_in (bytes v)))

-- no bytes
unfoldable pub is_no_event : Value → Bool
is_no_event v = is_blob v && bytes_eq (bytes v) []

abbrev pub has_texts : Value → Value → Value → Bool
has_texts id name bytes = not (is_null id) && (is_blob name && is_blob bytes)

abbrev pub event_of : ℕ → EventId
event_of event = record { 0 = record { 0 = event } }

-- ---- rows of events

-- the row of an event that such values are
abbrev pub raw_from : ℕ → Value → Value → RawRow
raw_from event name body = record { event = record { 0 = record { 0 = event } }; name = bytes name; bytes = bytes body }

unfoldable pub as_raw : Row → RawRow
as_raw r = raw_from (event_in (bytes (column r 1))) (column r 3) (column r 4)

-- the row of the table is one of an event
unfoldable pub is_raw : Row → Bool
is_raw r = is_event (column r 1) && ((kind_in (column r 2) == 0) && has_texts (column r 0) (column r 3) (column r 4))

-- ---- rows of the administration

abbrev pub admin_from : Value → Value → Value → AdminRow
admin_from kind name body = record { kind = kind_in kind; name = bytes name; bytes = bytes body }

unfoldable pub as_admin : Row → AdminRow
as_admin r = admin_from (column r 2) (column r 3) (column r 4)

unfoldable pub is_admin : Row → Bool
is_admin r = is_no_event (column r 1) && (nat_lt (kind_in (column r 2)) 256 && has_texts (column r 0) (column r 3) (column r 4))

-- ---- both

unfoldable pub held_in : List Row → Held
held_in stored = record {
  rows = in_order comes_before (map as_raw (filter is_raw stored));
  admin = in_order admin_before (map as_admin (filter is_admin stored));
}

-- ---- answers

-- the row that is shown is that of an event
abbrev pub is_event_row : Row → Bool
is_event_row r = (kind_in (column r 0) == 0) && (is_blob (column r 1) && is_blob (column r 2))

-- the row passes the WHERE of the query
abbrev pub is_wanted : Query → Row → Row → Bool
is_wanted q params r = list_all (holds (params ∷ r ∷ [])) q.filter

-- the row that is shown is one of the administration
abbrev pub is_admin_row : Row → Bool
is_admin_row r = nat_lt (kind_in (column r 0)) 256 && (is_blob (column r 1) && is_blob (column r 2))

abbrev pub admin_shown : Row → AdminRow
admin_shown r = admin_from (column r 0) (column r 1) (column r 2)

-- the row that is shown with its event is that of an event
abbrev pub is_any_row : Row → Bool
is_any_row r = is_event (column r 0) && ((kind_in (column r 1) == 0) && (is_blob (column r 2) && is_blob (column r 3)))

abbrev pub any_shown : Row → RawRow
any_shown r = raw_from (event_in (bytes (column r 0))) (column r 2) (column r 3)

-- what the query shows of the row
abbrev pub shown_of : Query → Row → Row → Row
shown_of q params r = eval_all q.project (params ∷ r ∷ [])

-- the rows that are wanted, in some order
abbrev pub IsSelected : Query → Row → List Row → List Row → Type 0
IsSelected q params stored rows = IsPermutation (map (shown_of q params) (filter (is_wanted q params) stored)) rows

-- what the query sorts the row by, and what it shows of it
abbrev pub output_of : Query → Row → Row → Output
output_of q params r = output q (params ∷ r ∷ [])

-- of the rows that are wanted, in an order that the query allows, those that it asks for
pub record IsPaged (q : Query) (params : Row) (stored rows : List Row) : Type 0 where
  pub ordered : List Output
  pub same : IsPermutation (map (output_of q params) (filter (is_wanted q params) stored)) ordered
  pub sorted : IsSorted (output_cmp q) ordered
  pub shown : rows ≡ page q params (map (λ o. o.1) ordered)
