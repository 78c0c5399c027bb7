use Rattle.std.proofs.Common.{◌≡◌, take, map}
use Rattle.misp_model.specs.Machine.{event_number}
use Rattle.misp_core.proofs.by_event.numbers.Given as goal

abbrev pub invariant-loop-row : goal.invariant-loop-row
invariant-loop-row l = l.numbers.items ≡ map event_number (take l.row-index l.list)
