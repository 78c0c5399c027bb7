use Rattle.std.proofs.Common.{◌≡◌, ◌≤◌, ◌++◌, ◌-◌, drop, map, length}
use Rattle.misp_history.specs.Merging.{cut}
use Rattle.misp_package.proofs.packing.parts_of.Given as goal

abbrev pub invariant-loop-from : goal.invariant-loop-from
invariant-loop-from l = record {
  inside : l.from ≤ length l.others;
  parts : map (λ part. part.now) l.parts.items ++ cut 64 (drop l.from l.others) ≡ cut 64 l.others;
}

abbrev pub decreases-loop-from : goal.decreases-loop-from
decreases-loop-from l = length l.others - l.from
