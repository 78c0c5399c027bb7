use Rattle.std.proofs.Common.{take}
use Rattle.misp_edit.specs.Objects.{AreObjects, is_brought}
use Rattle.misp_edit.proofs.objects.brought_objects.Given as goal

abbrev pub invariant-loop-draft : goal.invariant-loop-draft
invariant-loop-draft l = AreObjects l.objects (is_brought (take l.draft-index l.parts))
