use Rattle.std.proofs.Common.{rules, sym, ◌∙◌, ap, Some, nat_cmp, bytes_eq}
use Rattle.misp_lists.proofs.Prelude.{always_returns_same, is_eq-slice_cmp, nat_list_cmp_total, searched, slice_cmp}
use Rattle.misp_orgs.proofs.admin.record_of.Goals as goal

pub returns-in-Ok : goal.returns-in-Ok
returns-in-Ok c =
    let sought = c.args.key.now in
    let by_order = c.binary_search_by.ensures.position (λ y. (slice_cmp nat_cmp) (y.key) sought) (always_returns_same _ _ _ (λ a r t called. search rules)) in
    let is =
    searched (λ y. y.key) (slice_cmp nat_cmp) nat_list_cmp_total sought (λ y. bytes_eq y.key sought) (λ y. is_eq-slice_cmp y.key sought) c.args.keys.now c.binary_search_by.result
    c.requires c.binary_search_by.ensures.bound by_order in
    ap Some (c.record.ensures ∙ c.index-keys-place.is) ∙ sym ((rw c.in-Ok.is at is) c.index-keys-place.result)

pub returns-in-Err : goal.returns-in-Err
returns-in-Err c =
    let sought = c.args.key.now in
    let by_order = c.binary_search_by.ensures.position (λ y. (slice_cmp nat_cmp) (y.key) sought) (always_returns_same _ _ _ (λ a r t called. search rules)) in
    let is =
    searched (λ y. y.key) (slice_cmp nat_cmp) nat_list_cmp_total sought (λ y. bytes_eq y.key sought) (λ y. is_eq-slice_cmp y.key sought) c.args.keys.now c.binary_search_by.result
    c.requires c.binary_search_by.ensures.bound by_order in
    sym (rw c.in-Err.is at is)
