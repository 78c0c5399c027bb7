use Rattle.std.proofs.Common.{◌≡◌, ◌-◌, None}
use Rattle.misp_wanted.specs.ManifestReading.{event_before, items_after, manifest_event_at}
use Rattle.misp_wanted.proofs.ListFields.{with_front}
use Rattle.misp_wanted.proofs.reading.manifests.events.Given as goal

abbrev pub invariant-loop : goal.invariant-loop
invariant-loop l =
    with_front l.events.items (items_after manifest_event_at event_before l.before (l.count - l.counter) l.reader)
    ≡ items_after manifest_event_at event_before None l.count l.fn.reader
