use Rattle.std.proofs.Common.{◌≡◌, ◌++◌, length}
use Rattle.misp_protocol.specs.Parts.{parts_from}
use Rattle.misp_protocol.proofs.part_keys.with_parts.Given as goal

-- the first are added
abbrev pub invariant-loop-keys : goal.invariant-loop-keys
invariant-loop-keys l = record {
  added : l.parts.items ≡ l.fn.parts.items ++ parts_from l.event 0 l.yielded;
  count : l.part ≡ length l.yielded;
}
