use Rattle.std.proofs.Common.{◌≡◌, take, map, filter}
use Rattle.misp_elem.specs.declared.row.RowFields.{RowFields as Row}
use Rattle.misp_view.specs.Statements.{is_verdict_of}
use Rattle.misp_view.proofs.statements.verdicts.Given as goal

abbrev pub invariant-loop-row : goal.invariant-loop-row
invariant-loop-row l = map (λ r. r.now) l.list.items ≡ filter (λ (r : Row). is_verdict_of l.judge r.key) (map (λ r. r.now) (take l.row-index l.told))
