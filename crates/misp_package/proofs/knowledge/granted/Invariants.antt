use Rattle.std.proofs.Common.{◌≡◌, take, map, filter}
use Rattle.misp_package.specs.Knowledge.{granted_of_known}
use Rattle.misp_package.proofs.knowledge.granted.Given as goal

abbrev pub invariant-loop-row : goal.invariant-loop-row
invariant-loop-row l = map (λ r. r.now) l.list.items ≡ filter (granted_of_known l.grants l.who) (map (λ r. r.now) (take l.row-index l.known))
