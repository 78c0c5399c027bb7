use Rattle.std.proofs.Common.{◌≡◌, ◌-◌, None}
use Rattle.misp_wanted.specs.ManifestReading.{items_after, key_before, key_stamp_at}
use Rattle.misp_wanted.proofs.ListFields.{with_front}
use Rattle.misp_wanted.proofs.reading.manifests.key_stamps.Given as goal

abbrev pub invariant-loop : goal.invariant-loop
invariant-loop l =
    with_front l.keys.items (items_after (key_stamp_at l.event) key_before l.before (l.count - l.counter) l.reader)
    ≡ items_after (key_stamp_at l.event) key_before None l.count l.fn.reader
