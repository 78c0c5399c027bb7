use Rattle.std.proofs.Common.{rules, sym, ◌∙◌, ap, Some, nat_cmp}
use Rattle.misp_lists.proofs.Prelude.{always_returns_same, slice_cmp}
use Rattle.misp_groups.proofs.Servers.{server_searched}
use Rattle.misp_groups.proofs.sharing.server_of.Goals as goal

pub returns-in-Ok : goal.returns-in-Ok
returns-in-Ok c =
    let by_order = c.binary_search_by.ensures.position (λ s. slice_cmp nat_cmp s.name c.args.name.now) (always_returns_same _ _ _ (λ a r t called. search rules)) in
    let is = server_searched c.args.servers.now c.requires c.args.name.now c.binary_search_by.result c.binary_search_by.ensures.bound by_order in
    ap Some c.index-servers-place.is ∙ sym ((rw c.in-Ok.is at is) c.index-servers-place.result)

pub returns-in-Err : goal.returns-in-Err
returns-in-Err c =
    let by_order = c.binary_search_by.ensures.position (λ s. slice_cmp nat_cmp s.name c.args.name.now) (always_returns_same _ _ _ (λ a r t called. search rules)) in
    let is = server_searched c.args.servers.now c.requires c.args.name.now c.binary_search_by.result c.binary_search_by.ensures.bound by_order in
    sym (rw c.in-Err.is at is)
