use Rattle.std.proofs.Common.{◌≡◌, ◌&&◌, not, take, map, filter}
use Rattle.misp_model.specs.Prelude.{is_statement}
use Rattle.misp_package.proofs.passing.elements.Given as goal

abbrev pub invariant-loop-row : goal.invariant-loop-row
invariant-loop-row l = map (λ r. r.now) l.list.items ≡ filter (λ r. l.told && not (is_statement r.key)) (map (λ r. r.now) (take l.row-index l.eligible))
