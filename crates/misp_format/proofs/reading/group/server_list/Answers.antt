use Rattle.std.proofs.Common.{arith}
use Rattle.std.proofs.lemmas.Grind.{common_steps}
use Rattle.misp_format.proofs.Grouped.{servers_and}
use Rattle.misp_format.proofs.reading.group.server_list.Goals as goal

pub loop-name-preserved : goal.loop-name-preserved
loop-name-preserved c =
    let all = servers_and c.loop-name.servers.items c.server_of.result c.loop-name.invariant.1 c.server_of.ensures.fits in
    let one = c.server_of.ensures.value c.in-Some.field-0-0 in
    (grind (arith, common_steps), rw c.in_ok-push.ensures.items all)
