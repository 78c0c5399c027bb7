use Rattle.std.proofs.Common.{arith}
use Rattle.misp_lists.proofs.Prelude.{common_steps, list_any_more, nat_tests}
use Rattle.misp_edit.proofs.clash.set_of.Goals as goal

pub loop-uuid-init : goal.loop-uuid-init
loop-uuid-init c = λ u. grind (arith, common_steps)

pub loop-uuid-preserved : goal.loop-uuid-preserved
loop-uuid-preserved c = λ u. grind (arith, common_steps, list_any_more, nat_tests, c.loop-uuid.invariant u)
