use Rattle.std.proofs.Common.{take}
use Rattle.misp_package.specs.Stamps.{AreNewest}
use Rattle.misp_package.proofs.stamps.newest.Given as goal

abbrev pub invariant-loop-row : goal.invariant-loop-row
invariant-loop-row l = AreNewest l.stamps l.owner (take l.row-index l.rows)
