use Rattle.std.proofs.Common.{rules, ◌==◌, ◌∙◌, ap, nat_cmp}
use Rattle.misp_lists.proofs.Prelude.{always_returns_same, list_any, nat_cmp_total, numbers_equal, searched}
use Rattle.misp_lists.proofs.Lists.{any_from_search}
use Rattle.misp_store.specs.Seen.{end_number}
use Rattle.misp_store.proofs.uuids_sought.ends_among.Goals as goal

pub returns : goal.returns
returns c =
    let end = c.end_number-end.result in
    let by_order = c.binary_search_by.ensures.position (λ y. nat_cmp y end) (always_returns_same _ _ _ (λ a r t called. search rules)) in
    let is = searched (λ y. y) nat_cmp nat_cmp_total end (λ y. y == end) (λ y. numbers_equal y end) c.args.numbers.now c.binary_search_by.result c.requires c.binary_search_by.ensures.bound by_order in
    c.is_ok.ensures.value ∙ any_from_search (λ y. y == end) c.args.numbers.now 0 c.binary_search_by.result is
    ∙ ap (λ n. list_any (λ y. y == n) c.args.numbers.now) (c.end_number-end.ensures ∙ ap end_number c.as_slice.ensures)
