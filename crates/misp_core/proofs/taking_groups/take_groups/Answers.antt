use Rattle.std.proofs.Common.{◌∙◌, ap, subst}
use Rattle.misp_effects.specs.Prelude.{put_groups}
use Rattle.misp_store.specs.Prelude.{AllByRecursion, IsGroup}
use Rattle.misp_core.proofs.Carried.{are_groups}
use Rattle.misp_core.proofs.TakenGroups.{groups_after}
use Rattle.misp_core.proofs.taking_groups.take_groups.Goals as goal

pub returns-in-Ok-clause-groups : goal.returns-in-Ok-clause-groups
returns-in-Ok-clause-groups g c =
    c.in-Ok.ensures.groups ∙ ap (put_groups c.args.groups.now) c.in_ok-taken.ensures ∙ groups_after c.args.groups.now c.args.coming.items

pub returns-in-Ok-clause-fits : goal.returns-in-Ok-clause-fits
returns-in-Ok-clause-fits g c = subst (AllByRecursion IsGroup) c.in_ok-taken.ensures (are_groups c.in_ok-taken.taken.items c.in-Ok.ensures.storable)
