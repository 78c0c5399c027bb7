use Rattle.std.proofs.Common.{arith}
use Rattle.misp_lists.proofs.Prelude.{common_steps, list_any_more}
use Rattle.misp_view.proofs.naming.note_attributes.Goals as goal

pub loop-attribute-init : goal.loop-attribute-init
loop-attribute-init c = λ id. grind (arith, common_steps)

pub loop-attribute-preserved : goal.loop-attribute-preserved
loop-attribute-preserved c = λ id. grind (arith, common_steps, list_any_more, c.loop-attribute.invariant id)
