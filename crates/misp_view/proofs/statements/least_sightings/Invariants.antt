use Rattle.std.proofs.Common.{◌≡◌, take, map, filter}
use Rattle.misp_view.specs.Statements.{is_least_sighting}
use Rattle.misp_view.proofs.statements.least_sightings.Given as goal

abbrev pub invariant-loop-row : goal.invariant-loop-row
invariant-loop-row l = map (λ r. r.now) l.list.items ≡ filter (is_least_sighting l.by_key) (map (λ r. r.now) (take l.row-index l.told))
