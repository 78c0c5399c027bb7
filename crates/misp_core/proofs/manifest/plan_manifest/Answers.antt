use Rattle.std.proofs.Common.{subst, sym, ◌∙◌}
use Rattle.misp_model.specs.Machine.{seeing}
use Rattle.misp_core.specs.Handing.{pull_scene}
use Rattle.misp_core.specs.Pulling.{IsByEvent}
use Rattle.misp_core.proofs.Decisions.{manifest_told}
use Rattle.misp_core.proofs.manifest.plan_manifest.Goals as goal

pub returns-clause-plan : goal.returns-clause-plan
returns-clause-plan c = λ table.
    rw (c.told.ensures, c.of.ensures)
    (manifest_told c.args.site.now.admin.now (seeing (pull_scene c.args.site.now) c.args.rows.items) c.in_ok-events.events.items
    (c.in_ok-events.ensures.same
    ∙ c.in_ok-said.ensures.said c.args.rows.items table (subst (λ l. IsByEvent l c.args.rows.items) (sym c.deref.ensures.value) c.in_ok-list.ensures)))
