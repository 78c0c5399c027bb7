use Rattle.std.proofs.Common.{◌≡◌, ◌-◌, []}
use Rattle.misp_elem.specs.Fields.{last_name}
use Rattle.misp_elem.specs.ContentReading.{tags_after}
use Rattle.misp_elem.proofs.Tags.{with_front}
use Rattle.misp_elem.proofs.reading.Reader.tags_of.Given as goal

abbrev pub invariant-loop : goal.invariant-loop
invariant-loop l = with_front l.tags.items (tags_after l.room (l.count - l.counter) (last_name l.tags.items) l.self) ≡ tags_after l.fn.room l.count [] l.fn.self
