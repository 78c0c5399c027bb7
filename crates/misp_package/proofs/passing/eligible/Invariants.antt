use Rattle.std.proofs.Common.{◌≡◌, take, map, filter}
use Rattle.misp_package.specs.Passing.{is_eligible, route_of}
use Rattle.misp_package.proofs.passing.eligible.Given as goal

abbrev pub invariant-loop-row : goal.invariant-loop-row
invariant-loop-row l = map (λ r. r.now) l.list.items ≡ filter (is_eligible l.sent l.out l.via.groups.now (route_of l.via)) (map (λ r. r.now) (take l.row-index l.granted))
