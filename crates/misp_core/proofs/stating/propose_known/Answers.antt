use Rattle.std.proofs.Common.{refl, sym}
use Rattle.std.proofs.lemmas.Result.{IfErr-weaker}
use Rattle.misp_model.specs.declared.ask.Ask.TheVariants.{Propose}
use Rattle.misp_core.specs.Handing.{knowing, scene_in}
use Rattle.misp_core.proofs.Decisions.{uuid_placed}
use Rattle.misp_core.proofs.stating.propose_known.Goals as goal

pub returns : goal.returns
returns c =
    rw (← c.viewer-who.ensures.groups, ← c.viewer-who.ensures.here, ← c.viewer-who.ensures.org, ← c.in_ok-name.ensures.name)
    (c.saved_or_refused.ensures _ _ (Propose c.args.draft.now) (sym c.event_of.ensures) (c.propose-made.ensures.ok 0 _) c.propose-made.ensures.are_rows (c.propose-made.ensures.err 0 _)
    (IfErr-weaker c.propose-made.result _ _ (uuid_placed (knowing (scene_in c.args.site.now) c.args.rows.now) (Propose c.args.draft.now) c.args.draft.now.uuid (λ rule. refl)) c.propose-made.ensures.names))
