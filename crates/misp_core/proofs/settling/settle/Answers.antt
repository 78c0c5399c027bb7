use Rattle.std.proofs.Common.{◌≡◌, rules}
use Rattle.misp_groups.specs.Groups.{put_groups}
use Rattle.misp_store.specs.Sharing.{AreStorable}
use Rattle.misp_core.proofs.Carried.{IsPutThere, groups_beside}
use Rattle.misp_core.proofs.settling.settle.Goals as goal

pub returns-in-Ok-clause-beside : goal.returns-in-Ok-clause-beside
returns-in-Ok-clause-beside g c = λ holds.
    let are : AreStorable c.args.put.groups = search rules in
    let put : IsPutThere c.args.put (g.K.Keeper.state c.args.keeper.now).held (g.K.Keeper.state c.apply.new.self).held = search rules in
    let kept : c.into_groups.result ≡ put_groups c.args.groups.now c.args.put.groups = search rules in
    groups_beside
    (record { put = c.groups_are_held_as_their_rows.ensures.put; items = c.groups_are_held_as_their_rows.ensures.items; order = c.groups_are_held_as_their_rows.ensures.order })
    c.args.put _ _ c.args.groups.now c.into_groups.result are put kept holds
