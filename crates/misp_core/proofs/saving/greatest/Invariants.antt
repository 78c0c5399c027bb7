use Rattle.std.proofs.Common.{◌≡◌, map, take}
use Rattle.misp_core.specs.Answers.{greatest}
use Rattle.misp_core.proofs.saving.greatest.Given as goal

abbrev pub invariant-loop-row : goal.invariant-loop-row
invariant-loop-row l = l.newest ≡ greatest (map (λ row. row.stamp) (take l.row-index l.rows))
