use Rattle.std.proofs.Common.{◌≡◌, ◌∙◌, IfOk}
use Rattle.misp_core.specs.Handing.{scene_in}
use Rattle.misp_core.proofs.Indexed.{seen_is}
use Rattle.misp_core.proofs.listing.seen_at.Goals as goal

pub returns : goal.returns
returns c = λ rows table by.
    seen_is (scene_in c.args.site.now) c.event_at-event.result c.args.number rows c.part.result.now table c.event_at-event.ensures.event
    (c.part.ensures by.rises ∙ by.same c.event_at-event.result) (λ there. IfOk c.shown_at.result (λ seen. seen ≡ there)) c.shown_at.ensures
