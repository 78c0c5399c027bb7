-- What it means that a row was put into the table.
use Rattle.std.specs.Prelude.{◌≡◌, ◌≤◌, ℕ, ℤ, Bool, true, false, not, List, [], ◌∷◌, filter, length}
use Rattle.std.specs.List.{AllByRecursion}
use Rattle.sqlite_value.specs.declared.value.Value.TheVariants.{Int, Blob}
use Rattle.sqlite_value.specs.Order.{Row, column}
use Rattle.sqlite_sql.specs.Ops.{is_null}
use Rattle.sqlite_trees.specs.Tree.{rowid, put_row}
use Rattle.sqlite_rules.specs.Edit.{is_taken}
use Rattle.misp_outside.specs.declared.row.RawRow.{RawRow}
use Rattle.misp_outside.specs.declared.row.AdminRow.{AdminRow}
use Rattle.misp_outside.specs.Held.{Held, put_raw, put_admin, put_rows, put_admins}

-- the row as the table has it
abbrev pub stored_row : ℤ → List ℕ → ℤ → List ℕ → List ℕ → Row
stored_row id event kind name body = Int id ∷ Blob event ∷ Int kind ∷ Blob name ∷ Blob body ∷ []

-- the row has this event, kind and name
pub record IsNamed (event : List ℕ) (kind : ℤ) (name : List ℕ) (r : Row) : Type 0 where
  pub event_is : column r 1 ≡ Blob event
  pub kind_is : column r 2 ≡ Int kind
  pub name_is : column r 3 ≡ Blob name

-- The row is among those that were kept. At most one was not kept, which has its name, and of those
-- that were none that has a rowid.
pub record HasPut (event : List ℕ) (kind : ℤ) (name body : List ℕ) (old new : List Row) : Type 0 where
  pub id : ℤ
  pub keep : Row → Bool
  pub rows : new ≡ put_row (stored_row id event kind name body) (filter keep old)
  pub free : is_taken (filter keep old) (stored_row id event kind name body) ≡ false
  pub gone : AllByRecursion (λ r. keep r ≡ false → IsNamed event kind name r) old
  pub once : length (filter (λ r. not (keep r)) old) ≤ 1
  pub apart : AllByRecursion (λ r. IsNamed event kind name r → is_null (rowid r) ≡ true) (filter keep old)

-- what is held once the row is put in its place
abbrev pub with_row : RawRow → Held → Held
with_row row held = record { rows = put_raw row held.rows; admin = held.admin }

abbrev pub with_admin_row : AdminRow → Held → Held
with_admin_row row held = record { rows = held.rows; admin = put_admin row held.admin }

-- what is held once the rows are put in, one after the other
abbrev pub with_rows : List RawRow → Held → Held
with_rows rows held = record { rows = put_rows rows held.rows; admin = held.admin }

abbrev pub with_admin_rows : List AdminRow → Held → Held
with_admin_rows rows held = record { rows = held.rows; admin = put_admins rows held.admin }

-- the row of an event that such bytes are
abbrev pub raw_of : ℕ → List ℕ → List ℕ → RawRow
raw_of event name body = record { event = record { 0 = record { 0 = event } }; name = name; bytes = body }

abbrev pub admin_of : ℕ → List ℕ → List ℕ → AdminRow
admin_of kind name body = record { kind = kind; name = name; bytes = body }
