use Rattle.std.proofs.Common.{sym, ◌∙◌}
use Rattle.misp_model.specs.Machine.{seeing}
use Rattle.misp_core.specs.Handing.{pull_scene}
use Rattle.misp_core.proofs.Decisions.{part_refused, part_shown}
use Rattle.misp_core.proofs.pulling.plan_part.Goals as goal

pub returns-in-Some-clause-plan : goal.returns-in-Some-clause-plan
returns-in-Some-clause-plan c = λ table.
    rw c.show_part.ensures.plan
    (part_shown c.args.site.now.admin.now (seeing (pull_scene c.args.site.now) c.args.rows.items) c.args.event.now c.args.number c.in-Some.package
    (sym (c.in_ok-package.ensures.part table) ∙ c.in-Some.is))

pub returns-in-None-clause-plan : goal.returns-in-None-clause-plan
returns-in-None-clause-plan c = λ table.
    rw c.bare-refusal.ensures
    (part_refused c.args.site.now.admin.now (seeing (pull_scene c.args.site.now) c.args.rows.items) c.args.event.now c.args.number
    (sym (c.in_ok-package.ensures.part table) ∙ c.in-None.is))
