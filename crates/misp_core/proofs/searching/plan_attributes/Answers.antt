use Rattle.std.proofs.Common.{◌∙◌, ap}
use Rattle.misp_model.specs.Machine.{seeing}
use Rattle.misp_view.specs.Naming.{hit_names}
use Rattle.misp_core.specs.Handing.{scene_in}
use Rattle.misp_core.proofs.Decisions.{attributes_found}
use Rattle.misp_core.proofs.searching.plan_attributes.Goals as goal

pub returns-clause-plan : goal.returns-clause-plan
returns-clause-plan c = λ table.
    rw (c.told.ensures, c.of.ensures, c.of-2.ensures)
    (attributes_found c.args.site.now.admin.now (seeing (scene_in c.args.site.now) c.args.rows.items) c.args.filter.now c.in_ok-found.found.items c.in_ok-names.names.items (c.in_ok-found.ensures table)
    (c.in_ok-names.ensures ∙ ap (hit_names c.args.site.now.groups.now) c.deref.ensures.value))
