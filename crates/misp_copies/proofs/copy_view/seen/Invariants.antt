use Rattle.std.proofs.Common.{take}
use Rattle.misp_copies.specs.CopyView.{IsSeen}
use Rattle.misp_copies.proofs.copy_view.seen.Given as goal

abbrev pub invariant-loop-row : goal.invariant-loop-row
invariant-loop-row l = IsSeen l.elements l.copy_view l.linked (take l.row-index l.rows)
