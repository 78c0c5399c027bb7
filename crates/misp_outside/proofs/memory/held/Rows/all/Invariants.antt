use Rattle.std.proofs.Common.{◌≡◌, ◌++◌}
use Rattle.misp_outside.specs.Stored.{raw_rows}
use Rattle.misp_outside.proofs.memory.held.Rows.all.Given as goal

-- the rows so far, and those that are left
abbrev pub invariant-loop-key : goal.invariant-loop-key
invariant-loop-key l = l.found.items ++ raw_rows l.key-iterator ≡ raw_rows l.initial.key-iterator
