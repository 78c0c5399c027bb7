use Rattle.std.proofs.Common.{◌≡◌, take, map, filter}
use Rattle.misp_view.specs.Statements.{is_open_among}
use Rattle.misp_view.proofs.statements.open_among.Given as goal

abbrev pub invariant-loop-row : goal.invariant-loop-row
invariant-loop-row l = map (λ r. r.now) l.list.items ≡ filter (is_open_among l.by_key l.verdicts) (map (λ r. r.now) (take l.row-index l.told))
