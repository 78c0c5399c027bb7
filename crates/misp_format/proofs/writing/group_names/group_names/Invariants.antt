use Rattle.std.proofs.Common.{◌≡◌, ◌≤◌, length, drop}
use Rattle.misp_groups.specs.Prelude.{GroupId, lookup}
use Rattle.misp_format.specs.Fields.{is_same_group}
use Rattle.misp_format.proofs.writing.group_names.group_names.Given as goal

-- the names of what is after
abbrev pub invariant-loop-index : goal.invariant-loop-index
invariant-loop-index l =
    (l.index ≤ length l.listed)
    × ((group : GroupId) → lookup (is_same_group group) l.names.entries ≡ lookup (is_same_group group) (drop l.index l.listed))

abbrev pub decreases-loop-index : goal.decreases-loop-index
decreases-loop-index l = l.index
