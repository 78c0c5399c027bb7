use Rattle.std.proofs.Common.{◌∙◌}
use Rattle.misp_copies.specs.Barring.{rule_of}
use Rattle.misp_copies.specs.Scenes.{scene_of}
use Rattle.misp_edit.proofs.PartsLemmas.{parts_barred, parts_looked_at, parts_refused}
use Rattle.misp_edit.proofs.extending.admitted.Goals as goal

pub returns-in-Err-clause-err : goal.returns-in-Err-clause-err
returns-in-Err-clause-err c = λ e act name now today.
    rw c.bare_fault.ensures
    (parts_barred (scene_of act c.args.who.now.here c.args.who.now.org name now today c.args.who.now.groups.now c.args.rows.now) e c.args.submission.now c.in_ok-targets.targets
    (rw (← c.submission.view_is, ← c.as_slice.ensures) c.in_ok-targets.ensures) c.in_ok-fits.fits c.in_ok-fits.ensures
    (rule_of c.in-Err.fault) (rw (← c.submission.view_is) c.in-Err.ensures.rule) c.in-Err.ensures.err)

pub returns-in-Err-look_at_brought-clause-err : goal.returns-in-Err-look_at_brought-clause-err
returns-in-Err-look_at_brought-clause-err c = λ e act name now today.
    parts_refused (scene_of act c.args.who.now.here c.args.who.now.org name now today c.args.who.now.groups.now c.args.rows.now) e c.args.submission.now c.in_ok-targets.targets
    (rw (← c.submission.view_is, ← c.as_slice.ensures) c.in_ok-targets.ensures) c.in_ok-fits.fits c.in_ok-fits.ensures
    (rw (← c.submission.view_is) c.in_default.ensures.rule) c.in-Err-look_at_brought.fault (c.in-Err-look_at_brought.ensures.err act name now today)

pub returns-in-Ok-clause-ok : goal.returns-in-Ok-clause-ok
returns-in-Ok-clause-ok c = λ e act name now today.
    parts_looked_at (scene_of act c.args.who.now.here c.args.who.now.org name now today c.args.who.now.groups.now c.args.rows.now) e c.args.submission.now c.in_ok-targets.targets
    (rw (← c.submission.view_is, ← c.as_slice.ensures) c.in_ok-targets.ensures) c.in_ok-fits.fits c.in_ok-fits.ensures
    (rw (← c.submission.view_is) c.in_default.ensures.rule)
    ∙ c.in-Ok.ensures.ok act name now today
