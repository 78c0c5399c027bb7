use Rattle.std.proofs.Common.{◌≡◌, IfOk, None, Option, subst, sym}
use Rattle.misp_model.specs.Machine.{seeing}
use Rattle.misp_model.specs.Prelude.{VisibleEvent}
use Rattle.misp_view.proofs.InScene.{shown_in_scene}
use Rattle.misp_core.specs.Handing.{scene_in}
use Rattle.misp_core.proofs.listing.shown_at.Goals as goal

pub returns : goal.returns
returns c = λ table.
    subst (λ (there : Option VisibleEvent). IfOk c.shown.result (λ seen. seen ≡ there)) (sym (shown_in_scene (seeing (scene_in c.args.site.now) c.args.rows.now) c.args.event.now None))
    (rw (← c.asker-org.ensures) (c.shown.ensures.known table))
