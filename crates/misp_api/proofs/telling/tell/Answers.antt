use Rattle.std.proofs.Common.{◌∙◌, sym, subst, refl}
use Rattle.misp_outside.proofs.Reporting.{stays_same}
use Rattle.misp_core.specs.Planning.{IsPlanned}
use Rattle.misp_core.specs.declared.reply.Reply.{Reply}
use Rattle.misp_core.proofs.Carried.{refused_did, DidThere}
use Rattle.misp_api.proofs.Told.{every_reply, of_told, text_told, nothing_did}
use Rattle.misp_api.proofs.telling.tell.Goals as goal

-- ---- nothing is planned

pub returns-in-Err-clause-text : goal.returns-in-Err-clause-text
returns-in-Err-clause-text g c = text_told c.told.result c.unplanned.result _ _ c.told.ensures.reply c.told.ensures.text

pub returns-in-Err-clause-done : goal.returns-in-Err-clause-done
returns-in-Err-clause-done g c = λ e plans.
    of_told c.told.result c.unplanned.result _ c.told.ensures.reply
    (rw c.unplanned.ensures (refused_did c.in-Err.why e _ _ (subst (λ planned. IsPlanned planned e) c.in-Err.is plans) (stays_same c.args.instance.now.held c.args.instance.now.held refl)))

pub returns-in-Err-clause-kept : goal.returns-in-Err-clause-kept
returns-in-Err-clause-kept g c = λ long. stays_same c.args.instance.now.held c.args.instance.now.held refl

pub returns-in-Err-clause-refused : goal.returns-in-Err-clause-refused
returns-in-Err-clause-refused g c = every_reply c.told.result (λ reply is. stays_same c.args.instance.now.held c.args.instance.now.held refl)

pub returns-in-Err-clause-octets : goal.returns-in-Err-clause-octets
returns-in-Err-clause-octets g c = every_reply c.told.result (λ reply is. stays_same c.args.instance.now.held c.args.instance.now.held refl)

-- ---- nothing is put

pub returns-in-None-clause-kept : goal.returns-in-None-clause-kept
returns-in-None-clause-kept g c = λ long. stays_same c.args.instance.now.held c.args.instance.now.held refl

pub returns-in-None-clause-refused : goal.returns-in-None-clause-refused
returns-in-None-clause-refused g c = every_reply c.told-in-None.result (λ reply is. stays_same c.args.instance.now.held c.args.instance.now.held refl)

pub returns-in-None-clause-octets : goal.returns-in-None-clause-octets
returns-in-None-clause-octets g c = every_reply c.told-in-None.result (λ reply is. stays_same c.args.instance.now.held c.args.instance.now.held refl)

pub returns-in-None-clause-text : goal.returns-in-None-clause-text
returns-in-None-clause-text g c = text_told c.told-in-None.result (Reply.Ok c.into_parts-answer.result.0) _ _ c.told-in-None.ensures.reply c.told-in-None.ensures.text

pub returns-in-None-clause-done : goal.returns-in-None-clause-done
returns-in-None-clause-done g c = λ e plans.
    of_told c.told-in-None.result (Reply.Ok c.into_parts-answer.result.0) _ c.told-in-None.ensures.reply
    (subst (λ answer. DidThere e c.args.instance.now.held (Reply.Ok answer) c.args.instance.now.held) (sym c.into_parts-answer.ensures.answer)
    (nothing_did c.in-Ok.plan e c.args.instance.now.held (subst (λ planned. IsPlanned planned e) c.in-Ok.is plans) (sym c.into_parts-answer.ensures.batch ∙ c.in-None.is)))

pub returns-in-None-clause-rose : goal.returns-in-None-clause-rose
returns-in-None-clause-rose g c =
    of_told c.told-in-None.result (Reply.Ok c.into_parts-answer.result.0) _ c.told-in-None.ensures.reply (λ is. absurd cc)

-- ---- the batch is put

pub returns-in-Some-clause-done : goal.returns-in-Some-clause-done
returns-in-Some-clause-done g c = λ e plans.
    c.told_and_put.ensures.done c.in-Ok.plan e (sym c.into_parts-answer.ensures.answer) (sym c.into_parts-answer.ensures.batch ∙ c.in-Some.is) (subst (λ planned. IsPlanned planned e) c.in-Ok.is plans)
