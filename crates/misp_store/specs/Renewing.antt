-- What is held, put anew in the form that is written.
use Rattle.std.specs.Prelude.{◌≡◌, ℕ, ◌==◌, Bool, false, true, cond, List, [], ◌∷◌, filter, map, is_some, Result, Ok, Err}
use Rattle.std.specs.Option.{option_map_or}
use Rattle.misp_outside.specs.declared.row.RawBatch.{RawBatch}
use Rattle.misp_effects.specs.Prelude.{Group, Held, RawRow, Row}
use Rattle.misp_store.specs.Raw.{raw_row, row_in, rows_in}
use Rattle.misp_store.specs.Sharing.{groups_in}

-- the row is spelled in the first form, which is not written any more
abbrev pub is_first : List ℕ → Bool
is_first [] = false
is_first (form ∷ fields) = form == 1

unfoldable pub is_old : RawRow → Bool
is_old raw = is_first raw.bytes

-- the row as it is written now, where the bytes are a row's
unfoldable pub rewritten : RawRow → RawRow
rewritten raw = option_map_or raw_row (row_in raw) raw

-- a row of the first form is put anew, and any other stays
abbrev pub renewed_row : RawRow → RawRow
renewed_row raw = cond (is_old raw) (rewritten raw) raw

-- the bytes are a row's, and are that row's when it is put anew, too
pub record IsRead (raw : RawRow) : Type 0 where
  pub some : is_some (row_in raw) ≡ true
  pub again : row_in (renewed_row raw) ≡ row_in raw

-- what is held, each row in the form that is written
unfoldable pub renewed : Held → Held
renewed held = record { rows = map renewed_row held.rows; admin = held.admin }

-- a batch of rows
abbrev pub rows_alone : List RawRow → RawBatch
rows_alone rows = record { rows = rows; admin = [] }

-- those of the rows that are put anew, as they are put
unfoldable pub put_anew : List RawRow → List RawRow
put_anew raws = map rewritten (filter is_old raws)

-- ---- opening

-- what is held after the rows are read, or the name of the first that is none
abbrev pub after_rows : Held → Result (List Row) (List ℕ) → Result Held (List ℕ)
after_rows held (Ok rows) = Ok (renewed held)
after_rows held (Err name) = Err name

-- the same, after the rows of the administration are read
abbrev pub after_groups : Held → Result (List Group) (List ℕ) → Result Held (List ℕ)
after_groups held (Ok groups) = after_rows held (rows_in held.rows)
after_groups held (Err name) = Err name

-- OPENED: what is held after an instance is opened over it, or the name of the first row that does
-- not decode, those of the administration before those of events
unfoldable pub opened : Held → Result Held (List ℕ)
opened held = after_groups held (groups_in held.admin)
