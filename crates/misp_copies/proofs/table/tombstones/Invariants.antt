use Rattle.std.proofs.Common.{take}
use Rattle.misp_copies.specs.Table.{IsTombstones}
use Rattle.misp_copies.proofs.table.tombstones.Given as goal

abbrev pub invariant-loop-row : goal.invariant-loop-row
invariant-loop-row l = IsTombstones l.pairs (take l.row-index l.rows)
