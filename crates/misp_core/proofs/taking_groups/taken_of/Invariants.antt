use Rattle.std.proofs.Common.{◌≡◌}
use Rattle.misp_groups.specs.Changes.{take_groups}
use Rattle.misp_core.specs.Taking.{IsOver, groups_taken}
use Rattle.misp_core.proofs.taking_groups.taken_of.Given as goal

-- the first are tried
abbrev pub invariant-loop-group : goal.invariant-loop-group
invariant-loop-group l = record {
  over : IsOver (take_groups l.groups l.yielded) l.groups l.latest;
  taken : l.taken.items ≡ groups_taken l.groups l.yielded;
}
