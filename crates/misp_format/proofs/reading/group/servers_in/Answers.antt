use Rattle.std.proofs.Common.{◌≡◌, sym, subst, arith}
use Rattle.misp_lists.proofs.Prelude.{AllByRecursion, common_steps}
use Rattle.misp_format.specs.Entries.{IsSpelled}
use Rattle.misp_format.proofs.Grouped.{spelled_with}
use Rattle.misp_format.proofs.reading.group.servers_in.Goals as goal

pub loop-index-preserved : goal.loop-index-preserved
loop-index-preserved c =
    let key : c.of-name.result ≡ c.in_ok-server.server.name = grind (arith, common_steps) in
    let with = spelled_with c.loop-index.servers.entries c.of-name.result c.in_ok-server.server.name c.in_ok-server.server.all_orgs key c.loop-index.invariant.1 in
    (grind (arith, common_steps), subst (AllByRecursion IsSpelled) (sym c.in_ok-insert.ensures.entries) with)
