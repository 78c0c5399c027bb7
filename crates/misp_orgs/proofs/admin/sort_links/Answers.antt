use Rattle.std.proofs.Common.{rules, is_lt}
use Rattle.misp_lists.proofs.Prelude.{IsTotalOrder, always_returns_same, nat_list_cmp_total, on_ok_weaker, on_total}
use Rattle.misp_lists.proofs.Sorting.{weak, sorted_in_order}
use Rattle.misp_orgs.specs.Admin.{by_name}
use Rattle.misp_orgs.proofs.admin.sort_links.Goals as goal

pub returns : goal.returns
returns c =
    let total : IsTotalOrder by_name = on_total (λ x. x.name) nat_list_cmp_total in
    let compares = always_returns_same _ _ _ (λ a r t called. search rules) in
    let stable = c.sort_by.ensures.stable (λ a b. is_lt (by_name a b)) (weak by_name total) compares in
    on_ok_weaker c.sort_by.result (λ sorted. sorted_in_order by_name total c.args.links.now.items c.sort_by.new.self.items (sorted (λ a b. is_lt (by_name a b)) (weak by_name total) compares) stable) c.sort_by.ensures.sorted
