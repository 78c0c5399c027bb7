use Rattle.std.proofs.Common.{arith}
use Rattle.misp_lists.proofs.Prelude.{common_steps}
use Rattle.misp_client.proofs.Lists.{group_next, group_none, group_end}
use Rattle.misp_client.proofs.group_list.groups_listed.Goals as goal

pub returns-in_default-clause-value : goal.returns-in_default-clause-value
returns-in_default-clause-value c = grind (arith, common_steps, group_none)

pub loop-value-preserved : goal.loop-value-preserved
loop-value-preserved c = grind (arith, common_steps, group_next)

pub returns-clause-value : goal.returns-clause-value
returns-clause-value c = grind (arith, common_steps, group_end)
