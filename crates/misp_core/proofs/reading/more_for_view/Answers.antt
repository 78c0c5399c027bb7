use Rattle.std.proofs.Common.{Some, ap, sym, refl, ◌∙◌, option_map}
use Rattle.misp_model.proofs.Prelude.{OrgId}
use Rattle.misp_model.specs.Looking.{at_shown, over}
use Rattle.misp_view.specs.View.{scene_of}
use Rattle.misp_core.specs.Handing.{scene_in}
use Rattle.misp_core.proofs.LooksThen.{view_then}
use Rattle.misp_core.proofs.reading.more_for_view.Goals as goal

pub returns-in-Some-clause-value : goal.returns-in-Some-clause-value
returns-in-Some-clause-value c =
    ap Some c.at_shown.ensures.value
    ∙ ap (option_map (λ (o : OrgId). at_shown o c.args.event.now)) (sym c.in-Some.is)
    ∙ view_then (over (scene_in c.args.site.now) c.args.rows.now) (scene_of c.args.site.now.groups.now c.args.site.now.here.now c.asker-org.result c.args.rows.now) c.args.event.now c.args.owner _
    refl refl refl (sym c.asker-org.ensures) c.shown_owner.ensures

pub returns-in-None-clause-value : goal.returns-in-None-clause-value
returns-in-None-clause-value c =
    ap (option_map (λ (o : OrgId). at_shown o c.args.event.now)) (sym c.in-None.is)
    ∙ view_then (over (scene_in c.args.site.now) c.args.rows.now) (scene_of c.args.site.now.groups.now c.args.site.now.here.now c.asker-org.result c.args.rows.now) c.args.event.now c.args.owner _
    refl refl refl (sym c.asker-org.ensures) c.shown_owner.ensures
