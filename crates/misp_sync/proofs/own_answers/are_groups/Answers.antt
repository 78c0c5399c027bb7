use Rattle.std.proofs.Common.{subst}
use Rattle.misp_groups.specs.Group.{IsGroup}
use Rattle.misp_sync.proofs.GroupLists.{groups_more}
use Rattle.misp_sync.proofs.own_answers.are_groups.Goals as goal

pub loop-group-preserved : goal.loop-group-preserved
loop-group-preserved c = groups_more c.args.groups.now c.loop-group.group-index c.group-item.result c.loop-group-test.true c.group-item.is c.loop-group.invariant (subst IsGroup c.group.view_is c.group.invariant)
