use Rattle.std.proofs.Common.{rules, sym, ◌∙◌, ap, Some, nat_cmp}
use Rattle.std.proofs.lemmas.Cmp.{nat_list_cmp_total}
use Rattle.misp_lists.proofs.Prelude.{always_returns_same, searched}
use Rattle.misp_model.proofs.Prelude.{Key, same_key, slice_cmp, spell}
use Rattle.misp_copies.specs.Keys.{key_cmp}
use Rattle.misp_copies.proofs.KeyOrder.{level_is}
use Rattle.misp_package.specs.Packing.{key_order}
use Rattle.misp_wanted.proofs.held.row_at.Goals as goal

pub returns-in-Ok : goal.returns-in-Ok
unfolding key_order
returns-in-Ok c = λ up.
    let k : Key = c.args.key.now in
    let by_order = c.binary_search_by.ensures.position (λ row. key_cmp row.key k) (always_returns_same _ _ _ (λ a r t called. search rules)) in
    let is = searched (λ row. spell row.key) (slice_cmp nat_cmp) nat_list_cmp_total (spell k) (λ row. same_key row.key k) (λ row. level_is row.key k) c.args.held.now c.binary_search_by.result up c.binary_search_by.ensures.bound by_order in
    ap Some c.index-held-place.is ∙ sym ((rw c.in-Ok.is at is) c.index-held-place.result)

pub returns-in-Err : goal.returns-in-Err
unfolding key_order
returns-in-Err c = λ up.
    let k : Key = c.args.key.now in
    let by_order = c.binary_search_by.ensures.position (λ row. key_cmp row.key k) (always_returns_same _ _ _ (λ a r t called. search rules)) in
    let is = searched (λ row. spell row.key) (slice_cmp nat_cmp) nat_list_cmp_total (spell k) (λ row. same_key row.key k) (λ row. level_is row.key k) c.args.held.now c.binary_search_by.result up c.binary_search_by.ensures.bound by_order in
    sym (rw c.in-Err.is at is)
