use Rattle.std.proofs.Common.{◌≡◌, ◌-◌}
use Rattle.misp_wanted.specs.ManifestReading.{any_part, items_after, part_at}
use Rattle.misp_wanted.proofs.ListFields.{with_front}
use Rattle.misp_wanted.proofs.reading.manifests.some_parts.Given as goal

abbrev pub invariant-loop : goal.invariant-loop
invariant-loop l =
    with_front l.parts.items (items_after (λ (u : Unit {0}). part_at l.event) any_part tt (l.count - l.counter) l.reader)
    ≡ items_after (λ (u : Unit {0}). part_at l.event) any_part tt l.count l.fn.reader
