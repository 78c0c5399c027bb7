use Rattle.std.proofs.Common.{◌≡◌, ◌-◌, ◌^◌, length, min, take, sum_by}
use Rattle.misp_elem.specs.declared.content.Tag.{Tag}
use Rattle.misp_copies.proofs.renewing.tags_size.Given as goal

abbrev pub invariant-loop-tag : goal.invariant-loop-tag
invariant-loop-tag l = l.total ≡ min (sum_by (λ (t : Tag). length t.name) (take l.tag-index l.tags)) (2 ^ 64 - 1)
