use Rattle.std.proofs.Common.{arith}
use Rattle.std.proofs.lemmas.Grind.{common_steps}
use Rattle.misp_api.proofs.ListedGroups.{next_listed}
use Rattle.misp_api.proofs.group_list.groups_listed.Goals as goal

pub loop-place-preserved : goal.loop-place-preserved
loop-place-preserved c = grind (arith, common_steps, next_listed)
