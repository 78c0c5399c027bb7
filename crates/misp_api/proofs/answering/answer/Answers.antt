use Rattle.std.proofs.Common.{refl, ◌∙◌}
use Rattle.misp_outside.proofs.Reporting.{silent_still, stays_same, stays_then}
use Rattle.misp_core.specs.Standing.{host_of}
use Rattle.misp_api.specs.Answering.{form_of}
use Rattle.misp_api.specs.Request.{request_data}
use Rattle.misp_api.proofs.Managed.{admin_told, after_unread}
use Rattle.misp_api.proofs.Replying.{refused_by_form, no_keeper}
use Rattle.misp_api.proofs.Pulls.{sound_told, stays}
use Rattle.misp_api.proofs.Turning.{out_of_memory, turned_unread}
use Rattle.misp_api.proofs.Ordering.{order_by_fault}
use Rattle.misp_api.proofs.Told.{replied_told, ordered_told, of_reply, of_told, every_reply, text_told, turned_told, unformed_told, where_short, cause_told, no_cause}
use Rattle.misp_api.proofs.answering.answer.Goals as goal

-- ---- what was read

pub returns-in-Ok-clause-replied : goal.returns-in-Ok-clause-replied
returns-in-Ok-clause-replied g c =
    replied_told c.tell_planned.result c.args.instance.now c.args.now (request_data c.args.instance.now.name c.args.word c.args.request.now) _ c.plan-planned.result _ _
    c.in-Ok.ensures.read c.plan-planned.ensures.held c.tell_planned.ensures.silent c.plan-planned.ensures.planned c.tell_planned.ensures.done

pub returns-in-Ok-clause-pulled : goal.returns-in-Ok-clause-pulled
returns-in-Ok-clause-pulled g c =
    stays c.tell_planned.result (host_of c.args.instance.now) c.args.now (form_of c.args.instance.now.admin (request_data c.args.instance.now.name c.args.word c.args.request.now)) c.args.instance.now.held c.tell_planned.new.instance.held
    (replied_told c.tell_planned.result c.args.instance.now c.args.now (request_data c.args.instance.now.name c.args.word c.args.request.now) _ c.plan-planned.result _ _
    c.in-Ok.ensures.read c.plan-planned.ensures.held c.tell_planned.ensures.silent c.plan-planned.ensures.planned c.tell_planned.ensures.done)
    (λ long. stays_then _ _ _ c.plan-planned.ensures.held (c.tell_planned.ensures.kept long))

pub returns-in-Ok-clause-silent : goal.returns-in-Ok-clause-silent
returns-in-Ok-clause-silent g c = λ none. c.tell_planned.ensures.silent (silent_still _ _ _ c.plan-planned.ensures.held none)

pub returns-in-Ok-clause-order : goal.returns-in-Ok-clause-order
returns-in-Ok-clause-order g c =
    ordered_told c.tell_planned.result c.args.instance.now c.args.now (request_data c.args.instance.now.name c.args.word c.args.request.now) _ c.plan-planned.result _ _
    c.in-Ok.ensures.read c.in-Ok.ensures.built c.plan-planned.ensures.held c.tell_planned.ensures.silent c.plan-planned.ensures.planned c.tell_planned.ensures.done

pub returns-in-Ok-clause-formed : goal.returns-in-Ok-clause-formed
returns-in-Ok-clause-formed g c =
    turned_told c.tell_planned.result c.args.instance.now _ _ (request_data c.args.instance.now.name c.args.word c.args.request.now) _ c.plan-planned.result c.in-Ok.ensures.read
    c.plan-planned.ensures.barred c.tell_planned.ensures.unplanned c.tell_planned.ensures.still

pub returns-in-Ok-clause-unformed : goal.returns-in-Ok-clause-unformed
returns-in-Ok-clause-unformed g c =
    unformed_told c.tell_planned.result c.args.instance.now _ _ (request_data c.args.instance.now.name c.args.word c.args.request.now) _ c.plan-planned.result c.in-Ok.ensures.read
    c.plan-planned.ensures.barred c.tell_planned.ensures.still

pub returns-in-Ok-clause-sound : goal.returns-in-Ok-clause-sound
returns-in-Ok-clause-sound g c =
    sound_told c.tell_planned.result c.args.instance.now _ (request_data c.args.instance.now.name c.args.word c.args.request.now) _ c.plan-planned.result c.in-Ok.ensures.read
    c.plan-planned.ensures.barred c.plan-planned.ensures.sound c.tell_planned.ensures.sound

pub returns-in-Ok-clause-cause : goal.returns-in-Ok-clause-cause
returns-in-Ok-clause-cause g c = cause_told c.tell_planned.result c.plan-planned.result _ _ _ c.plan-planned.ensures.cause c.tell_planned.ensures.later c.tell_planned.ensures.rose

pub returns-in-Ok-clause-kept : goal.returns-in-Ok-clause-kept
returns-in-Ok-clause-kept g c = λ long. stays_then _ _ _ c.plan-planned.ensures.held (c.tell_planned.ensures.kept long)

pub returns-in-Ok-clause-refused : goal.returns-in-Ok-clause-refused
returns-in-Ok-clause-refused g c = of_reply c.tell_planned.result (λ reply stays is. stays_then _ _ _ c.plan-planned.ensures.held (stays is)) c.tell_planned.ensures.refused

pub returns-in-Ok-clause-octets : goal.returns-in-Ok-clause-octets
returns-in-Ok-clause-octets g c = of_reply c.tell_planned.result (λ reply stays is. stays_then _ _ _ c.plan-planned.ensures.held (stays is)) c.tell_planned.ensures.octets

pub returns-in-Ok-clause-admin : goal.returns-in-Ok-clause-admin
returns-in-Ok-clause-admin g c =
    admin_told c.tell_planned.result c.args.instance.now c.plan-planned.new.instance c.tell_planned.new.instance (request_data c.args.instance.now.name c.args.word c.args.request.now) _ c.plan-planned.result
    c.in-Ok.ensures.read c.plan-planned.ensures.barred c.plan-planned.ensures.made c.tell_planned.ensures.unplanned c.plan-planned.ensures.admin c.tell_planned.ensures.admin

pub returns-in-Ok-clause-unchanged : goal.returns-in-Ok-clause-unchanged
returns-in-Ok-clause-unchanged g c = λ long. c.tell_planned.ensures.unchanged long ∙ c.plan-planned.ensures.admin

-- ---- what was not read

pub returns-in-Err-clause-kept : goal.returns-in-Err-clause-kept
returns-in-Err-clause-kept g c = λ long. stays_same c.args.instance.now.held c.args.instance.now.held refl

pub returns-in-Err-clause-refused : goal.returns-in-Err-clause-refused
returns-in-Err-clause-refused g c = every_reply c.told.result (λ reply is. stays_same c.args.instance.now.held c.args.instance.now.held refl)

pub returns-in-Err-clause-octets : goal.returns-in-Err-clause-octets
returns-in-Err-clause-octets g c = every_reply c.told.result (λ reply is. stays_same c.args.instance.now.held c.args.instance.now.held refl)

pub returns-in-Err-clause-pulled : goal.returns-in-Err-clause-pulled
returns-in-Err-clause-pulled g c = λ is. stays_same c.args.instance.now.held c.args.instance.now.held refl

pub returns-in-Err-clause-text : goal.returns-in-Err-clause-text
returns-in-Err-clause-text g c = text_told c.told.result c.refused.result _ _ c.told.ensures.reply c.told.ensures.text

pub returns-in-Err-clause-order : goal.returns-in-Err-clause-order
returns-in-Err-clause-order g c =
    of_told c.told.result c.refused.result _ c.told.ensures.reply
    (rw (c.refused.ensures)
    (order_by_fault c.args.instance.now c.args.now (request_data c.args.instance.now.name c.args.word c.args.request.now) c.in-Err.fault c.args.instance.now.held c.in-Err.ensures.read))

pub returns-in-Err-clause-replied : goal.returns-in-Err-clause-replied
returns-in-Err-clause-replied g c =
    of_told c.told.result c.refused.result _ c.told.ensures.reply
    (rw (c.refused.ensures)
    (refused_by_form c.args.instance.now c.args.now (request_data c.args.instance.now.name c.args.word c.args.request.now) c.in-Err.fault c.args.instance.now.held c.in-Err.ensures.read))

pub returns-in-Err-clause-cause : goal.returns-in-Err-clause-cause
returns-in-Err-clause-cause g c =
    no_cause c.told.result c.refused.result _ c.told.ensures.reply
    (rw (c.refused.ensures) (no_keeper c.args.instance.now.admin (request_data c.args.instance.now.name c.args.word c.args.request.now) c.in-Err.fault c.in-Err.ensures.read))

pub returns-in-Err-clause-formed : goal.returns-in-Err-clause-formed
returns-in-Err-clause-formed g c =
    of_told c.told.result c.refused.result _ c.told.ensures.reply
    (rw (c.refused.ensures) (turned_unread c.args.instance.now (request_data c.args.instance.now.name c.args.word c.args.request.now) c.in-Err.fault c.in-Err.ensures.read))

pub returns-in-Err-clause-unformed : goal.returns-in-Err-clause-unformed
returns-in-Err-clause-unformed g c = where_short c.told.result (out_of_memory c.args.instance.now _)

pub returns-in-Err-clause-admin : goal.returns-in-Err-clause-admin
returns-in-Err-clause-admin g c =
    of_told c.told.result c.refused.result _ c.told.ensures.reply
    (rw (c.refused.ensures)
    (after_unread (form_of c.args.instance.now.admin (request_data c.args.instance.now.name c.args.word c.args.request.now)) c.args.instance.now.admin c.in-Err.fault))
