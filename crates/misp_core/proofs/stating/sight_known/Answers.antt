use Rattle.std.proofs.Common.{refl}
use Rattle.std.proofs.lemmas.Result.{IfErr-weaker}
use Rattle.misp_model.specs.declared.ask.Ask.TheVariants.{Sight}
use Rattle.misp_core.specs.Handing.{knowing, scene_in}
use Rattle.misp_core.proofs.Decisions.{uuid_placed}
use Rattle.misp_core.proofs.stating.sight_known.Goals as goal

pub returns : goal.returns
returns c =
    rw (← c.viewer-who.ensures.groups, ← c.viewer-who.ensures.here, ← c.viewer-who.ensures.org, ← c.in_ok-name.ensures.name)
    (c.saved_or_refused.ensures _ _ (Sight c.args.event.now c.args.target.now c.args.draft.now) refl (c.sight-made.ensures.ok 0 _) c.sight-made.ensures.are_rows (c.sight-made.ensures.err 0 _)
    (IfErr-weaker c.sight-made.result _ _ (uuid_placed (knowing (scene_in c.args.site.now) c.args.rows.now) (Sight c.args.event.now c.args.target.now c.args.draft.now) c.args.draft.now.uuid (λ rule. refl)) c.sight-made.ensures.names))
