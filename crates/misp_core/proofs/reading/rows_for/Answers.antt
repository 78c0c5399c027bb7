use Rattle.std.proofs.Common.{ap, ◌∙◌}
use Rattle.misp_model.proofs.Prelude.{OrgId}
use Rattle.misp_store.specs.Reach.{reach_of}
use Rattle.misp_core.specs.Handing.{scene_in}
use Rattle.misp_core.proofs.LooksThen.{told_bad}
use Rattle.misp_core.proofs.reading.rows_for.Goals as goal

pub returns-in-Err-clause-bad : goal.returns-in-Err-clause-bad
returns-in-Err-clause-bad g c =
    told_bad (scene_in c.args.site.now) c.args.ask.now _ c.in_ok-reach.reach c.in-Err.fault
    (c.in_ok-reach.ensures.value ∙ ap (λ (o : OrgId). reach_of c.args.site.now.here.now o c.args.ask.now) c.asker-org.ensures) c.in-Err.ensures.bad
