use Rattle.std.proofs.Common.{take}
use Rattle.misp_model.proofs.Prelude.{AreRows}
use Rattle.misp_core.proofs.kept_landing.are_rows.Given as goal

abbrev pub invariant-loop-row : goal.invariant-loop-row
invariant-loop-row l = AreRows (take l.row-index l.rows)
