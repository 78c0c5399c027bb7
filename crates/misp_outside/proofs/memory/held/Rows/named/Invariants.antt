use Rattle.std.proofs.Common.{◌≡◌, ◌++◌}
use Rattle.misp_outside.specs.Held.{rows_named}
use Rattle.misp_outside.specs.Stored.{raw_rows}
use Rattle.misp_outside.proofs.Named.{IsFrom}
use Rattle.misp_outside.proofs.memory.held.Rows.named.Given as goal

-- the rows so far, and those that are left, which stand from the first of these names on
abbrev pub invariant-loop-key : goal.invariant-loop-key
invariant-loop-key l = record {
  so_far : l.found.items ++ rows_named l.event l.front (raw_rows l.key-iterator) ≡ rows_named l.event l.front (raw_rows l.initial.key-iterator);
  left : IsFrom l.event l.front (raw_rows l.key-iterator);
}
