-- Rows as a keeper holds them.
use Rattle.std.specs.Prelude.{ℕ, Bool, ◌&&◌, cond, List, [], ◌∷◌, filter, Result, Ok, Err, bytes_eq, Option, None, Some}
use Rattle.misp_elem.specs.Prelude.{EventId, OrgId, event_of, row_of, same_event, same_org}
use Rattle.misp_effects.specs.Prelude.{RawRow, Row}
use Rattle.misp_model.specs.Machine.{name_bytes}
use Rattle.misp_elem.specs.Spelling as spelling

-- a row as a keeper holds it: spelled, under its event and its name
unfoldable pub raw_row : Row → RawRow
raw_row r = record { event = event_of r.key; name = name_bytes r; bytes = spelling.row r }

-- the rows that one organisation has of one event
abbrev pub owner_rows : OrgId → EventId → List Row → List Row
owner_rows o e rows = filter (λ r. same_org r.owner o && same_event (event_of r.key) e) rows

-- the row is held under its own event and name
unfoldable pub stands_under : RawRow → Row → Bool
stands_under raw r = same_event (event_of r.key) raw.event && bytes_eq raw.name (name_bytes r)

abbrev pub row_read : RawRow → Result Row ℕ → Option Row
row_read raw (Ok r) = cond (stands_under raw r) (Some r) None
row_read raw (Err left) = None

-- the row that the bytes spell, where it is one of the event and name under which it is held
unfoldable pub row_in : RawRow → Option Row
row_in raw = row_read raw (row_of raw.bytes)

-- what stands under a name before what is read of the others, or the first name of none
abbrev pub onto : {A : Type 0} → List ℕ → Option A → Result (List A) (List ℕ) →
    Result (List A) (List ℕ)
onto name None others = Err name
onto name (Some item) (Ok items) = Ok (item ∷ items)
onto name (Some item) (Err first) = Err first

-- all the rows, or the name of the first that is none
unfoldable pub rows_in : List RawRow → Result (List Row) (List ℕ)
rows_in [] = Ok []
rows_in (raw ∷ raws) = onto raw.name (row_in raw) (rows_in raws)
