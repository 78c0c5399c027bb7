use Rattle.std.proofs.Common.{◌≡◌}
use Rattle.misp_admins.specs.Made.{with_items}
use Rattle.misp_core.proofs.opening.with_items.Given as goal

-- the first are put
abbrev pub invariant-loop-item : goal.invariant-loop-item
invariant-loop-item l = l.made ≡ with_items l.fn.admin l.yielded
