use Rattle.std.proofs.Common.{◌≡◌, ◌-◌, length, take, sum_by}
use Rattle.misp_elem.specs.declared.content.Tag.{Tag}
use Rattle.misp_elem.proofs.reading.tags.room_after_tags.Given as goal

abbrev pub invariant-loop-tag : goal.invariant-loop-tag
invariant-loop-tag l = l.left ≡ l.room - sum_by (λ (t : Tag). length t.name) (take l.tag-index l.tags)
