use Rattle.std.proofs.Common.{subst, IfOk, IfErr}
use Rattle.misp_store.specs.Prelude.{AreRows}
use Rattle.misp_model.specs.Prelude.{ask_rules}
use Rattle.misp_copies.specs.Barring.{Refuses}
use Rattle.misp_statements.specs.Saving.{Saves}
use Rattle.misp_core.specs.Saving.{NamesPlace}
use Rattle.misp_core.proofs.Decisions.{rows_planned}
use Rattle.misp_core.proofs.saving.saved_or_refused.Goals as goal

pub returns-in-Ok : goal.returns-in-Ok
returns-in-Ok c = λ admin s ask of ok are err places.
    rows_planned admin s ask c.args.event c.saved.result c.in-Ok.rows.items of
    (subst (λ made. IfOk made (λ rows. Saves s ask rows.items)) c.in-Ok.is ok)
    (subst (λ made. IfOk made (λ rows. AreRows rows.items)) c.in-Ok.is are)
    c.saved.ensures.answer c.saved.ensures.batches c.saved.ensures.rows

pub returns-in-Err : goal.returns-in-Err
returns-in-Err c = λ admin s ask of ok are err places.
    c.not_saved.ensures admin s ask
    (subst (λ made. IfErr made (Refuses (ask_rules s ask))) c.in-Err.is err)
    (subst (λ made. IfErr made (NamesPlace s ask)) c.in-Err.is places)
