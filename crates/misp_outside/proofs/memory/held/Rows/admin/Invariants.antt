use Rattle.std.proofs.Common.{◌≡◌, ◌++◌}
use Rattle.misp_outside.specs.Stored.{admin_rows}
use Rattle.misp_outside.proofs.memory.held.Rows.admin.Given as goal

-- the rows so far, and those that are left
abbrev pub invariant-loop-key : goal.invariant-loop-key
invariant-loop-key l = l.found.items ++ admin_rows l.key-iterator ≡ admin_rows l.initial.key-iterator
