use Rattle.std.proofs.Common.{◌≡◌}
use Rattle.misp_protocol.specs.Parts.{parts_listed}
use Rattle.misp_protocol.proofs.part_keys.parts_listed.Given as goal

-- the parts of the first events are there
abbrev pub invariant-loop-event : goal.invariant-loop-event
invariant-loop-event l = l.parts.items ≡ parts_listed l.yielded
