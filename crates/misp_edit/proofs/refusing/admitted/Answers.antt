use Rattle.std.proofs.Common.{◌∙◌, sym}
use Rattle.misp_copies.specs.Scenes.{scene_of}
use Rattle.misp_edit.proofs.RuleLemmas.{exists, gone, looked_at, refused}
use Rattle.misp_edit.proofs.refusing.admitted.Goals as goal

pub returns-then-has_copy-clause-err : goal.returns-then-has_copy-clause-err
returns-then-has_copy-clause-err c = λ act name now today.
    rw c.bare.ensures
    (exists (scene_of act c.args.here.now c.args.owner name now today c.args.groups.now c.args.rows.now) c.args.submission.now
    (rw (← c.submission.view_is) (sym c.has_copy.ensures ∙ c.if-has_copy.true)))

pub returns-then-has_gone-clause-err : goal.returns-then-has_gone-clause-err
returns-then-has_gone-clause-err c = λ act name now today.
    rw c.bare-then-has_gone.ensures
    (gone (scene_of act c.args.here.now c.args.owner name now today c.args.groups.now c.args.rows.now) c.args.submission.now
    (rw (← c.submission.view_is) (sym c.has_copy.ensures ∙ c.if-has_copy.false))
    (rw (← c.submission.view_is) (sym c.has_gone.ensures ∙ c.if-has_gone.true)))

pub returns-in-Err-clause-err : goal.returns-in-Err-clause-err
returns-in-Err-clause-err c = λ act name now today.
    refused (scene_of act c.args.here.now c.args.owner name now today c.args.groups.now c.args.rows.now) c.args.submission.now
    (rw (← c.submission.view_is) (sym c.has_copy.ensures ∙ c.if-has_copy.false))
    (rw (← c.submission.view_is) (sym c.has_gone.ensures ∙ c.if-has_gone.false))
    c.in-Err.fault (c.in-Err.ensures.err act name now today)

pub returns-in-Ok-clause-ok : goal.returns-in-Ok-clause-ok
returns-in-Ok-clause-ok c = λ act name now today.
    looked_at (scene_of act c.args.here.now c.args.owner name now today c.args.groups.now c.args.rows.now) c.args.submission.now
    (rw (← c.submission.view_is) (sym c.has_copy.ensures ∙ c.if-has_copy.false))
    (rw (← c.submission.view_is) (sym c.has_gone.ensures ∙ c.if-has_gone.false))
    ∙ c.in-Ok.ensures.ok act name now today
