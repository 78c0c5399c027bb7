-- Lists of rows.
use Rattle.std.proofs.Common.{List, [], ◌∷◌, ◌++◌}
use Rattle.misp_elem.specs.declared.row.RowFields.{RowFields as Row}
use Rattle.misp_elem.specs.Row.{IsRow, AreRows}

-- one more row at the end
pub are_rows_push : (rows : List Row) (row : Row) → AreRows rows → IsRow row → AreRows (rows ++ row ∷ [])
are_rows_push [] row all is = (is, tt)
are_rows_push (r ∷ rows) row all is = (all.0, are_rows_push rows row all.1 is)
