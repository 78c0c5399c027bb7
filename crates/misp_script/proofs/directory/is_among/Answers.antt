use Rattle.std.proofs.Common.{rules, ◌==◌, ◌∙◌, nat_cmp}
use Rattle.misp_lists.proofs.Prelude.{always_returns_same, nat_cmp_total, numbers_equal, searched}
use Rattle.misp_lists.proofs.Lists.{any_from_search}
use Rattle.misp_script.proofs.directory.is_among.Goals as goal

pub returns : goal.returns
returns c =
    let sought = c.args.org.now.0.0 in
    let by_order = c.binary_search_by.ensures.position (λ y. nat_cmp (y.0.0) sought) (always_returns_same _ _ _ (λ a r t called. search rules)) in
    let is = searched (λ y. y.0.0) nat_cmp nat_cmp_total sought (λ y. y.0.0 == sought) (λ y. numbers_equal y.0.0 sought) c.args.orgs.now c.binary_search_by.result c.requires c.binary_search_by.ensures.bound by_order in
    c.is_ok.ensures.value ∙ any_from_search (λ y. y.0.0 == sought) c.args.orgs.now c.args.org.now c.binary_search_by.result is
