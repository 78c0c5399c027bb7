use Rattle.std.proofs.Common.{arith}
use Rattle.misp_lists.proofs.Prelude.{common_steps, list_any_more}
use Rattle.misp_view.proofs.naming.note_objects.Goals as goal

pub loop-object-init : goal.loop-object-init
loop-object-init c = λ id. grind (arith, common_steps)

pub loop-object-preserved : goal.loop-object-preserved
loop-object-preserved c = λ id. grind (arith, common_steps, list_any_more, c.loop-object.invariant id)
