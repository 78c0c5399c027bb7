use Rattle.std.proofs.Common.{◌≡◌, ◌-◌, None}
use Rattle.misp_wanted.specs.ManifestReading.{framed_at, items_after, wanted_before, wanted_key_of}
use Rattle.misp_wanted.proofs.ListFields.{with_front}
use Rattle.misp_wanted.proofs.reading.wanted_lists.keys.Given as goal

abbrev pub invariant-loop : goal.invariant-loop
invariant-loop l =
    with_front l.keys.items (items_after (λ before. framed_at (wanted_key_of l.event before)) wanted_before l.before (l.count - l.counter) l.reader)
    ≡ items_after (λ before. framed_at (wanted_key_of l.event before)) wanted_before None l.count l.fn.reader
