use Rattle.std.proofs.Common.{rules}
use Rattle.misp_lists.proofs.Prelude.{IsTotalOrder, always_returns_same, nat_list_cmp_total, on_total}
use Rattle.misp_orgs.specs.Admin.{by_name}
use Rattle.misp_admins.proofs.Putting.{put_found}
use Rattle.misp_admins.proofs.lists.put_link.Goals as goal

pub returns : goal.returns
returns c =
    let total : IsTotalOrder by_name = on_total (λ held. held.name) nat_list_cmp_total in
    let by_order = c.binary_search_by-at.ensures.position (λ held. by_name held c.args.link) (always_returns_same _ _ _ (λ a r t called. search rules)) in
    put_found by_name total c.args.link c.deref.result.now c.args.links.now.items c.put_at.new.list.items c.binary_search_by-at.result c.deref.ensures.value c.requires.ascend
    c.binary_search_by-at.ensures.bound by_order c.put_at.ensures.found c.put_at.ensures.absent
