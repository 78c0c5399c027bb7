use Rattle.std.proofs.Common.{rules, sym, ◌∙◌, ap, Some, ◌==◌, nat_cmp}
use Rattle.misp_lists.proofs.Prelude.{always_returns_same, nat_cmp_total, numbers_equal, searched}
use Rattle.misp_orgs.proofs.admin.org_of.Goals as goal

pub returns-in-Ok : goal.returns-in-Ok
returns-in-Ok c =
    let sought = c.args.uuid.now.0.0 in
    let by_order = c.binary_search_by.ensures.position (λ y. nat_cmp (y.uuid.0.0) sought) (always_returns_same _ _ _ (λ a r t called. search rules)) in
    let is = searched (λ y. y.uuid.0.0) nat_cmp nat_cmp_total sought (λ y. y.uuid.0.0 == sought) (λ y. numbers_equal y.uuid.0.0 sought) c.args.orgs.now c.binary_search_by.result c.requires c.binary_search_by.ensures.bound by_order in
    ap Some c.index-orgs-place.is ∙ sym ((rw c.in-Ok.is at is) c.index-orgs-place.result)

pub returns-in-Err : goal.returns-in-Err
returns-in-Err c =
    let sought = c.args.uuid.now.0.0 in
    let by_order = c.binary_search_by.ensures.position (λ y. nat_cmp (y.uuid.0.0) sought) (always_returns_same _ _ _ (λ a r t called. search rules)) in
    let is = searched (λ y. y.uuid.0.0) nat_cmp nat_cmp_total sought (λ y. y.uuid.0.0 == sought) (λ y. numbers_equal y.uuid.0.0 sought) c.args.orgs.now c.binary_search_by.result c.requires c.binary_search_by.ensures.bound by_order in
    sym (rw c.in-Err.is at is)
