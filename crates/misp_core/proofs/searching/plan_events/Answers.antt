use Rattle.misp_model.specs.Machine.{seeing}
use Rattle.misp_core.specs.Handing.{scene_in}
use Rattle.misp_core.proofs.Decisions.{events_found}
use Rattle.misp_core.proofs.searching.plan_events.Goals as goal

pub returns-clause-plan : goal.returns-clause-plan
returns-clause-plan c = λ table.
    rw (c.told.ensures, c.of.ensures)
    (events_found c.args.site.now.admin.now (seeing (scene_in c.args.site.now) c.args.rows.items) c.args.filter.now c.in_ok-found.found.items c.in_ok-events.events.items (c.in_ok-found.ensures table) c.in_ok-events.ensures)
