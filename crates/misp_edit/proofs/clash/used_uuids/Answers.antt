use Rattle.std.proofs.Common.{arith}
use Rattle.misp_lists.proofs.Prelude.{common_steps, list_any_more}
use Rattle.misp_edit.proofs.clash.used_uuids.Goals as goal

pub loop-row-init : goal.loop-row-init
loop-row-init c = λ u. grind (arith, common_steps)

pub loop-row-preserved : goal.loop-row-preserved
loop-row-preserved c = λ u. grind (arith, common_steps, list_any_more, c.loop-row.invariant u)
