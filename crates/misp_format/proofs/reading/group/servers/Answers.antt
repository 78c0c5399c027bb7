use Rattle.std.proofs.Common.{sym, subst, ◌≡◌, map}
use Rattle.misp_groups.specs.Group.{by_server}
use Rattle.misp_format.specs.Prelude.{IsStrictlySortedBy, server_of}
use Rattle.misp_format.proofs.Grouped.{servers_ascend}
use Rattle.misp_format.proofs.reading.group.servers.Goals as goal

pub returns-clause-ascend : goal.returns-clause-ascend
returns-clause-ascend c =
    let all : c.of.result ≡ map server_of c.in_ok-entries.entries.entries = let listed = c.in_ok-server_list.ensures.gives in let of = c.of.ensures in cc in
    subst (IsStrictlySortedBy by_server) (sym all) (servers_ascend c.in_ok-entries.entries.entries c.in_ok-entries.ensures.spelled c.in_ok-server_list.ensures.ordered)
