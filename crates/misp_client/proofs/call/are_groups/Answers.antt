use Rattle.std.proofs.Common.{arith}
use Rattle.misp_lists.proofs.Prelude.{common_steps}
use Rattle.misp_client.proofs.Lists.{groups_all, groups_more}
use Rattle.misp_client.proofs.call.are_groups.Goals as goal

pub loop-group-preserved : goal.loop-group-preserved
loop-group-preserved c = grind (arith, common_steps, groups_more)

pub returns : goal.returns
returns c = grind (arith, common_steps, groups_all)
