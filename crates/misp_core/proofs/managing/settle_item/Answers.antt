use Rattle.std.proofs.Common.{rules}
use Rattle.misp_core.proofs.Managed.{IsItemPut, item_beside}
use Rattle.misp_core.proofs.managing.settle_item.Goals as goal

pub returns-in-Ok-clause-beside : goal.returns-in-Ok-clause-beside
returns-in-Ok-clause-beside g c = λ groups holds.
    let put : IsItemPut c.args.item (g.K.Keeper.state c.args.keeper.now).held (g.K.Keeper.state c.apply.new.self).held = search rules in
    item_beside
    (record { groups = c.items_are_held_beside_the_groups.ensures.groups; items = c.items_are_held_beside_the_groups.ensures.items; order = c.groups_are_held_as_their_rows.ensures.order })
    c.args.item c.in_ok-raw.ensures.fits _ _ groups put holds
