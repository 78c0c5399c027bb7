use Rattle.std.proofs.Common.{sym, subst, ◌≡◌, map}
use Rattle.misp_groups.specs.Group.{by_org}
use Rattle.misp_format.specs.Prelude.{IsStrictlySortedBy, org_of}
use Rattle.misp_format.proofs.Grouped.{orgs_ascend}
use Rattle.misp_format.proofs.reading.group.orgs.Goals as goal

pub returns-clause-ascend : goal.returns-clause-ascend
returns-clause-ascend c =
    let all : c.of.result ≡ map org_of c.in_ok-entries.entries.entries = let listed = c.in_ok-org_list.ensures.gives in let of = c.of.ensures in cc in
    subst (IsStrictlySortedBy by_org) (sym all) (orgs_ascend c.in_ok-entries.entries.entries c.in_ok-org_list.ensures.ordered)
