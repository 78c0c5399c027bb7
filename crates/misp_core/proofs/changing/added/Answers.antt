use Rattle.std.proofs.Common.{subst, IfOk, IfErr}
use Rattle.misp_store.specs.Prelude.{AreRows}
use Rattle.misp_model.specs.Prelude.{ask_rules, brings}
use Rattle.misp_model.specs.declared.ask.Ask.{Ask}
use Rattle.misp_edit.specs.Changing.{Changes}
use Rattle.misp_core.proofs.Decisions.{rows_planned, not_changed}
use Rattle.misp_core.proofs.changing.added.Goals as goal
use Rattle.misp_edit.specs.Refusals as edit

pub returns-in-Ok : goal.returns-in-Ok
unfolding ask_rules brings
returns-in-Ok c = λ admin s change event ok are err.
    rows_planned admin s (Ask.Change change) c.args.event c.saved.result c.in-Ok.rows.items event
    (subst (λ made. IfOk made (λ rows. Changes s change rows.items)) c.in-Ok.is ok)
    (subst (λ made. IfOk made (λ rows. AreRows rows.items)) c.in-Ok.is are)
    c.saved.ensures.answer c.saved.ensures.batches c.saved.ensures.rows

pub returns-in-Refused : goal.returns-in-Refused
returns-in-Refused c = λ admin s change event ok are err.
    not_changed admin s change c.in-Refused.refusal
    (subst (edit.Refuses s change) c.in-Refused.is (subst (λ made. IfErr made (edit.Refuses s change)) c.in-Err.is err))
