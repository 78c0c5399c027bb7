use Rattle.std.proofs.Common.{◌∙◌, ap, sym}
use Rattle.misp_effects.specs.Prelude.{put_groups}
use Rattle.misp_store.proofs.Storable.{none_put}
use Rattle.misp_core.proofs.TakenGroups.{no_groups_held, no_more}
use Rattle.misp_core.proofs.taking_groups.put_groups.Goals as goal

pub returns-in_default-clause-put : goal.returns-in_default-clause-put
returns-in_default-clause-put g c = no_groups_held (g.K.Keeper.state c.args.keeper.now).held _ (sym c.as_slice.ensures.value ∙ no_more _ c.in_default.len_below)

pub returns-in_default-clause-groups : goal.returns-in_default-clause-groups
returns-in_default-clause-groups g c =
    sym (ap (put_groups c.args.groups.now) (sym c.as_slice.ensures.value ∙ no_more _ c.in_default.len_below) ∙ none_put c.args.groups.now)
