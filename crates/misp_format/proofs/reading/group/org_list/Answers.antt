use Rattle.std.proofs.Common.{arith}
use Rattle.std.proofs.lemmas.Grind.{common_steps}
use Rattle.misp_format.proofs.Grouped.{orgs_and}
use Rattle.misp_format.proofs.reading.group.org_list.Goals as goal

pub loop-uuid-preserved : goal.loop-uuid-preserved
loop-uuid-preserved c =
    let all = orgs_and c.loop-uuid.orgs.items c.org_of.result c.loop-uuid.invariant.1 c.org_of.ensures.fits in
    (grind (arith, common_steps), rw c.in_ok-push.ensures.items all)
