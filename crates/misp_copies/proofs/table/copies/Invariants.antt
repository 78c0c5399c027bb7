use Rattle.std.proofs.Common.{take}
use Rattle.misp_copies.specs.Table.{IsCopies}
use Rattle.misp_copies.proofs.table.copies.Given as goal

abbrev pub invariant-loop-row : goal.invariant-loop-row
invariant-loop-row l = IsCopies l.pairs (take l.row-index l.rows)
