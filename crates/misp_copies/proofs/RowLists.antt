-- Lists of rows, one row after another.
use Rattle.std.proofs.Common.{◌≡◌, ℕ, sym, List, subst, length, take, get_or, ◌+◌, ◌<◌, ◌≤◌, take_all}
use Rattle.std.proofs.lemmas.List.{take_more}
use Rattle.misp_model.proofs.Prelude.{AreRows, IsRow, Row, are_rows_push}

pub rows_more : (rows : List Row) (i : ℕ) (row : Row) → i < length rows → row ≡ get_or rows i row → AreRows (take i rows) → IsRow row → AreRows (take (i + 1) rows)
rows_more rows i row lt e h k =
    subst AreRows (sym (take_more rows i row lt))
    (are_rows_push (take i rows) (get_or rows i row) h (subst IsRow e k))

pub rows_all : (rows : List Row) (i : ℕ) → length rows ≤ i → AreRows (take i rows) → AreRows rows
rows_all rows i le h = subst AreRows (take_all i rows le) h
