use Rattle.std.proofs.Common.{◌≡◌}
use Rattle.misp_wanted.proofs.reading.manifests.events_with.Given as goal

abbrev pub invariant-loop-event : goal.invariant-loop-event
invariant-loop-event l = l.events.items ≡ l.yielded
