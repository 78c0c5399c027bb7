use Rattle.misp_model.specs.Pulling.{pulled_groups}
use Rattle.misp_core.specs.Handing.{knowing, pull_scene}
use Rattle.misp_core.proofs.Decisions.{groups_pulled}
use Rattle.misp_core.proofs.pulling.plan_pulled_groups.Goals as goal

pub returns-clause-plan : goal.returns-clause-plan
unfolding pulled_groups
returns-clause-plan c = λ rows. rw (c.told.ensures, c.of.ensures) (groups_pulled c.args.site.now.admin.now (knowing (pull_scene c.args.site.now) rows) c.in_ok-groups.groups.items c.in_ok-groups.ensures.all)
