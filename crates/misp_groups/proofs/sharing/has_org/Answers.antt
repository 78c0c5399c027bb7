use Rattle.std.proofs.Common.{rules, ◌∙◌, false, [], nat_cmp}
use Rattle.misp_lists.proofs.Prelude.{always_returns_same, nat_cmp_total, searched}
use Rattle.misp_lists.proofs.Lists.{any_from_search}
use Rattle.misp_ids.specs.Same.{same_org}
use Rattle.misp_groups.proofs.Ids.{same_by_number}
use Rattle.misp_groups.proofs.sharing.has_org.Goals as goal

pub returns : goal.returns
returns c =
    let org = c.args.org.now in
    let by_order = c.binary_search_by.ensures.position (λ y. nat_cmp y.org.0.0 c.args.org.now.0.0) (always_returns_same _ _ _ (λ a r t called. search rules)) in
    let is = searched (λ y. y.org.0.0) nat_cmp nat_cmp_total org.0.0 (λ y. same_org y.org org) (λ y. same_by_number y.org org) c.args.orgs.now c.binary_search_by.result c.requires c.binary_search_by.ensures.bound by_order in
    c.is_ok.ensures.value ∙ any_from_search (λ y. same_org y.org org) c.args.orgs.now (record { org = org; name = []; extend = false }) c.binary_search_by.result is
