use Rattle.std.proofs.Common.{◌≡◌, ◌+◌, length, take, sum_by}
use Rattle.misp_elem.specs.declared.visible.VisibleObject.{VisibleObject}
use Rattle.misp_format.proofs.writing.event.attribute_count.Given as goal

abbrev pub invariant-loop-object : goal.invariant-loop-object
invariant-loop-object l = l.total ≡ length l.event.attributes + sum_by (λ (o : VisibleObject). length o.attributes) (take l.object-index l.event.objects)
