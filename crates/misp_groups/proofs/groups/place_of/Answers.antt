use Rattle.std.proofs.Common.{rules}
use Rattle.std.proofs.lemmas.Fn.{always_returns_same}
use Rattle.misp_groups.specs.Groups.{by_id}
use Rattle.misp_groups.proofs.Places.{searched}
use Rattle.misp_groups.proofs.groups.place_of.Goals as goal

pub returns-clause-found : goal.returns-clause-found
returns-clause-found c =
    let by_order = c.binary_search_by.ensures.position (λ y. by_id y.id c.args.id.now) (always_returns_same _ _ _ (λ a r t called. search rules)) in
    (searched c.args.groups.now c.args.id.now c.binary_search_by.result c.requires c.binary_search_by.ensures.bound by_order).found

pub returns-clause-absent : goal.returns-clause-absent
returns-clause-absent c =
    let by_order = c.binary_search_by.ensures.position (λ y. by_id y.id c.args.id.now) (always_returns_same _ _ _ (λ a r t called. search rules)) in
    (searched c.args.groups.now c.args.id.now c.binary_search_by.result c.requires c.binary_search_by.ensures.bound by_order).absent
