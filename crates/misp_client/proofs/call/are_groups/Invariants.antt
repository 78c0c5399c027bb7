use Rattle.std.proofs.Common.{take}
use Rattle.misp_lists.proofs.Prelude.{AllByRecursion}
use Rattle.misp_groups.specs.Group.{IsGroup}
use Rattle.misp_client.proofs.call.are_groups.Given as goal

-- the first are groups
abbrev pub invariant-loop-group : goal.invariant-loop-group
invariant-loop-group l = AllByRecursion IsGroup (take l.group-index l.groups)
