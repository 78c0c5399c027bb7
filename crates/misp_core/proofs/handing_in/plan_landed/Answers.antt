use Rattle.std.proofs.Common.{subst, sym}
use Rattle.misp_model.proofs.Prelude.{AreRows}
use Rattle.misp_core.specs.Handing.{scene_in}
use Rattle.misp_core.proofs.HandedAsks.{handed_planned, taken_are_rows}
use Rattle.misp_core.proofs.handing_in.plan_landed.Goals as goal

pub returns-clause-plans : goal.returns-clause-plans
returns-clause-plans c = λ rows is.
    let taken = c.in_ok-rows.ensures.taken c.args.site.now.caller.now.org rows is in
    let are = subst AreRows (sym taken) (taken_are_rows _ _ _ _ _ c.in_ok-rows.ensures.owner c.in_ok-rows.ensures.fits) in
    handed_planned c.args.site.now.admin.now (scene_in c.args.site.now) rows c.in_ok-rows.rows.items c.args.coming.now c.in_ok-rows.ensures.fits taken are c.taken.result c.taken.ensures.answer c.taken.ensures.batches c.taken.ensures.rows
