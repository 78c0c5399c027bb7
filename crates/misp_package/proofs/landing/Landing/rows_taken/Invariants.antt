use Rattle.std.proofs.Common.{◌≡◌, take, map, filter}
use Rattle.misp_history.specs.Merging.{handed}
use Rattle.misp_package.specs.Landing.{is_taken}
use Rattle.misp_package.proofs.landing.Landing.rows_taken.Given as goal

abbrev pub invariant-loop-row : goal.invariant-loop-row
invariant-loop-row l = l.taken.items ≡ map (handed l.self.owner) (filter (is_taken l.self l.groups l.there) (take l.row-index l.rows))
