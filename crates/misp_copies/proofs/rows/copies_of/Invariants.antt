use Rattle.std.proofs.Common.{◌≡◌, take, map}
use Rattle.misp_copies.proofs.rows.copies_of.Given as goal

abbrev pub invariant-loop-row : goal.invariant-loop-row
invariant-loop-row l = l.items.items ≡ map (λ r. r.now) (take l.row-index l.list)
