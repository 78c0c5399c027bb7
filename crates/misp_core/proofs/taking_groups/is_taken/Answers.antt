use Rattle.std.proofs.Common.{◌∙◌, None, Some}
use Rattle.misp_core.specs.Taking.{latest_of}
use Rattle.misp_core.proofs.TakenGroups.{taken_over}
use Rattle.misp_core.proofs.taking_groups.is_taken.Goals as goal

pub returns-in-Some : goal.returns-in-Some
returns-in-Some c = λ all over.
    c.is_older.ensures
    ∙ taken_over all c.args.groups.now c.args.latest.now c.args.group.now over (Some c.in-Some.held.now)
    (c.in-Some.ensures ∙ (λ i. latest_of c.args.groups.now c.args.latest.now (c.group.view_is i).id))

pub returns-in-None : goal.returns-in-None
returns-in-None c = λ all over.
    taken_over all c.args.groups.now c.args.latest.now c.args.group.now over None
    (c.in-None.ensures ∙ (λ i. latest_of c.args.groups.now c.args.latest.now (c.group.view_is i).id))
