use Rattle.std.proofs.Common.{◌≡◌, ◌++◌, length, take, flat_map}
use Rattle.misp_package.specs.Spelling.{framed_row, number}
use Rattle.misp_package.proofs.writing.put_rows.Given as goal

abbrev pub invariant-loop-row : goal.invariant-loop-row
invariant-loop-row l = l.out.items ≡ l.fn.out.items ++ (number (length l.rows) ++ flat_map framed_row (take l.row-index l.rows))
