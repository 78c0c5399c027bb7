use Rattle.std.proofs.Common.{None, ◌≡◌, ◌≤◌, sym, subst, refl}
use Rattle.misp_ids.specs.declared.stamp.TheConstants.{LAST_SECOND}
use Rattle.misp_outside.proofs.Reporting.{stays_same}
use Rattle.misp_core.specs.Prelude.{Effect, Held, IsPlanned, administered, groups_of, stop_in}
use Rattle.misp_core.specs.declared.reply.Reply.{Reply}
use Rattle.misp_api.specs.Administering.{group_form, FormFits}
use Rattle.misp_api.proofs.Turning.{not_turned, turned_by_fault}
use Rattle.misp_api.proofs.GroupTexts.{text_by_form, by_instance, by_text, read_fits, unread_fits, no_keeper_read}
use Rattle.misp_api.proofs.Told.{of_reply, of_told, text_told, every_reply, done_there, planned_there, cause_told, no_cause, unmet, where_short}
use Rattle.misp_api.proofs.administering.administer.Goals as goal

pub returns-in-Ok-clause-replied : goal.returns-in-Ok-clause-replied
returns-in-Ok-clause-replied g c =
    let i = c.args.instance.now in
    let comes : Held → Effect Reply = λ held. administered c.args.now c.args.request.now.by c.args.request.now.add c.in-Ok.group (groups_of held) in
    of_reply c.tell.result
    (λ reply done. by_instance c.args.now _ _ _ _ reply i.held _ c.in-Ok.ensures.read done)
    (done_there (IsPlanned c.plan_group-planned.result) c.tell.result comes i.held _ _ (stays_same i.held i.held refl) c.tell.ensures.silent (planned_there i.held comes _ c.plan_group-planned.ensures.planned)
    c.tell.ensures.done)

pub returns-in-Ok-clause-fits : goal.returns-in-Ok-clause-fits
returns-in-Ok-clause-fits g c =
    every_reply c.tell.result
    (λ reply went. read_fits c.args.now _ _ c.in-Ok.ensures.read c.in-Ok.ensures.fits (subst (λ now. now ≤ LAST_SECOND) c.get-moment.ensures.value c.get-moment.ensures.in_range))

pub returns-in-Ok-clause-cause : goal.returns-in-Ok-clause-cause
returns-in-Ok-clause-cause g c =
    cause_told c.tell.result c.plan_group-planned.result _ _ _ (unmet _ c.plan_group-planned.ensures.no_fault) c.tell.ensures.later c.tell.ensures.rose

pub returns-in-Ok-clause-formed : goal.returns-in-Ok-clause-formed
returns-in-Ok-clause-formed g c = every_reply c.tell.result (λ reply. not_turned _ _ _ _ _ c.in-Ok.ensures.read)

-- ---- what was not read

pub returns-in-Err-clause-kept : goal.returns-in-Err-clause-kept
returns-in-Err-clause-kept g c = where_short c.told.result (stays_same c.args.instance.now.held c.args.instance.now.held refl)

pub returns-in-Err-clause-refused : goal.returns-in-Err-clause-refused
returns-in-Err-clause-refused g c = every_reply c.told.result (λ reply is. stays_same c.args.instance.now.held c.args.instance.now.held refl)

pub returns-in-Err-clause-octets : goal.returns-in-Err-clause-octets
returns-in-Err-clause-octets g c = every_reply c.told.result (λ reply is. stays_same c.args.instance.now.held c.args.instance.now.held refl)

pub returns-in-Err-clause-text : goal.returns-in-Err-clause-text
returns-in-Err-clause-text g c = text_told c.told.result c.refused.result _ _ c.told.ensures.reply c.told.ensures.text

pub returns-in-Err-clause-replied : goal.returns-in-Err-clause-replied
returns-in-Err-clause-replied g c =
    of_told c.told.result c.refused.result _ c.told.ensures.reply
    (rw (c.refused.ensures) (by_text c.args.now _ _ c.args.request.now.body.now c.in-Err.fault c.args.instance.now.held c.in-Err.ensures.read))

pub returns-in-Err-clause-fits : goal.returns-in-Err-clause-fits
returns-in-Err-clause-fits g c =
    of_told c.told.result c.refused.result _ c.told.ensures.reply
    (subst (λ r. stop_in r ≡ None → FormFits c.args.now (group_form c.args.request.now.body.now)) (sym c.refused.ensures)
    (unread_fits c.args.now (group_form c.args.request.now.body.now) c.in-Err.fault c.in-Err.ensures.read))

pub returns-in-Err-clause-cause : goal.returns-in-Err-clause-cause
returns-in-Err-clause-cause g c =
    no_cause c.told.result c.refused.result _ c.told.ensures.reply
    (rw (c.refused.ensures) (no_keeper_read c.args.request.now.body.now c.in-Err.fault c.in-Err.ensures.read))

pub returns-in-Err-clause-formed : goal.returns-in-Err-clause-formed
returns-in-Err-clause-formed g c =
    of_told c.told.result c.refused.result _ c.told.ensures.reply
    (rw (c.refused.ensures) (turned_by_fault c.args.instance.now (group_form c.args.request.now.body.now) c.in-Err.fault c.in-Err.ensures.read (text_by_form c.args.request.now.body.now)))
