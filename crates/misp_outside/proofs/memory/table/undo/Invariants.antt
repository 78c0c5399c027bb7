use Rattle.std.proofs.Common.{◌≡◌}
use Rattle.misp_outside.specs.Stored.{key_order, undone}
use Rattle.misp_outside.proofs.memory.table.undo.Given as goal

-- what is left to be undone
abbrev pub invariant-loop-key : goal.invariant-loop-key
invariant-loop-key g l = undone (key_order g.N.Ord.cmp) l.before.items l.table.entries ≡ undone (key_order g.N.Ord.cmp) l.fn.before.items l.fn.table.entries

abbrev pub decreases-loop-key : goal.decreases-loop-key
decreases-loop-key g l = goal.left-loop-key g l
