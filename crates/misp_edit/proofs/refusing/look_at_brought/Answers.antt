use Rattle.std.proofs.Common.{◌∙◌, sym}
use Rattle.misp_copies.specs.Scenes.{scene_of}
use Rattle.misp_edit.proofs.RuleLemmas.{clash, group, free}
use Rattle.misp_edit.proofs.refusing.look_at_brought.Goals as goal

pub returns-in-Some-clause-err : goal.returns-in-Some-clause-err
returns-in-Some-clause-err c = λ act name now today.
    rw c.in_ok-refused.ensures
    (clash (scene_of act c.args.here.now c.args.owner name now today c.args.groups.now c.args.rows.now) c.args.submission.now c.args.targets.now c.requires
    c.in-Some.uuid (sym c.in_ok-uuid.ensures ∙ c.in-Some.is))

pub returns-in_ok-refused-in-Some-first_unusable-clause-err : goal.returns-in_ok-refused-in-Some-first_unusable-clause-err
returns-in_ok-refused-in-Some-first_unusable-clause-err c = λ act name now today.
    rw c.in_ok-refused-in-Some-first_unusable.ensures
    (group (scene_of act c.args.here.now c.args.owner name now today c.args.groups.now c.args.rows.now) c.args.submission.now c.args.targets.now c.requires
    (sym c.in_ok-uuid.ensures ∙ c.in_default.is)
    c.in-Some-first_unusable.group (rw (← c.submission.view_is, ← c.as_slice.ensures) (sym c.in-Some-first_unusable.ensures)))

pub returns-in-None-clause-ok : goal.returns-in-None-clause-ok
returns-in-None-clause-ok c = λ act name now today.
    free (scene_of act c.args.here.now c.args.owner name now today c.args.groups.now c.args.rows.now) c.args.submission.now c.args.targets.now c.requires
    (sym c.in_ok-uuid.ensures ∙ c.in_default.is)
    (rw (← c.submission.view_is, ← c.as_slice.ensures) (sym c.in-None.ensures))
