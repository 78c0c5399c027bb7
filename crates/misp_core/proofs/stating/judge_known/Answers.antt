use Rattle.std.proofs.Common.{refl}
use Rattle.std.proofs.lemmas.Result.{IfErr-weaker}
use Rattle.misp_model.specs.declared.ask.Ask.TheVariants.{Judge}
use Rattle.misp_model.specs.Prelude.{date_of}
use Rattle.misp_core.specs.Answers.{name_in}
use Rattle.misp_core.specs.Handing.{knowing, scene_in}
use Rattle.misp_core.proofs.Decisions.{uuid_placed}
use Rattle.misp_core.proofs.stating.judge_known.Goals as goal

pub returns : goal.returns
returns c =
    let name = name_in c.args.site.now.admin.now c.viewer-who.result.org in
    let today = date_of c.args.site.now.moment in
    rw (← c.viewer-who.ensures.groups, ← c.viewer-who.ensures.here, ← c.viewer-who.ensures.org)
    (c.saved_or_refused.ensures _ _ (Judge c.args.event.now c.args.proposal.now c.args.accept) refl (c.judge-made.ensures.ok 0 name today) c.judge-made.ensures.are_rows (c.judge-made.ensures.err 0 name today)
    (IfErr-weaker c.judge-made.result _ _ (uuid_placed (knowing (scene_in c.args.site.now) c.args.rows.now) (Judge c.args.event.now c.args.proposal.now c.args.accept) c.args.proposal.now.uuid (λ rule. refl)) c.judge-made.ensures.names))
