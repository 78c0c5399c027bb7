use Rattle.std.proofs.Common.{◌≡◌, ◌++◌, length, take, flat_map}
use Rattle.misp_package.specs.Spelling.{number}
use Rattle.misp_wanted.specs.ManifestSpelling.{spell_event}
use Rattle.misp_wanted.proofs.writing.put_events.Given as goal

abbrev pub invariant-loop-event : goal.invariant-loop-event
invariant-loop-event l = l.out.items ≡ l.fn.out.items ++ (number (length l.events) ++ flat_map spell_event (take l.event-index l.events))
