use Rattle.std.proofs.Common.{◌≡◌, map}
use Rattle.misp_format.specs.Prelude.{AllByRecursion, IsOrg, org_of}
use Rattle.misp_format.proofs.reading.group.org_list.Given as goal

abbrev pub invariant-loop-uuid : goal.invariant-loop-uuid
invariant-loop-uuid l = (l.orgs.items ≡ map org_of l.yielded) × AllByRecursion IsOrg l.orgs.items
