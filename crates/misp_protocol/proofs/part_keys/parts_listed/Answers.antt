use Rattle.std.proofs.Common.{[]}
use Rattle.std.proofs.lemmas.List.{flat_map_more}
use Rattle.misp_protocol.specs.Parts.{parts_of}
use Rattle.misp_protocol.proofs.part_keys.parts_listed.Goals as goal

pub loop-event-preserved : goal.loop-event-preserved
loop-event-preserved c =
    rw c.in_ok-parts.ensures (rw c.loop-event.invariant (flat_map_more parts_of [] c.loop-event.yielded c.in-Some.event))
