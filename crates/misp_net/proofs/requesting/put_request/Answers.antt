use Rattle.std.proofs.Common.{◌≡◌, Ok, ap, refl}
use Rattle.misp_http.specs.Faults.{fault_refusal}
use Rattle.misp_http.specs.declared.request.Read.TheVariants as reads
use Rattle.misp_core.specs.declared.reply.Reply.TheVariants.{Refused}
use Rattle.misp_api.proofs.Outgoing.{fault_answered}
use Rattle.misp_net.specs.Prelude.{Replied}
use Rattle.misp_net.proofs.LineBytes.{read_as}
use Rattle.misp_net.proofs.requesting.put_request.Goals as goal

-- the bytes of the line are no request
pub returns-in_ok-refuse-in-Ok-Refused-clause-requested : goal.returns-in_ok-refuse-in-Ok-Refused-clause-requested
returns-in_ok-refuse-in-Ok-Refused-clause-requested g c =
    let fault = c.in-Ok-Refused.fault in
    let whole = c.in-Ok-Refused.is in
    let first = c.in-Ok-Refused.field-0-is in
    let last = c.in-Ok-Refused.fault-is in
    let same : c.in-Ok-Refused.field-0 ≡ reads.Refused fault = cc in (
      Ok (reads.Refused fault),
      c.in-Ok-Refused.ensures.read.0,
      tt,
      read_as _ c.in-Ok-Refused.field-0 _ _ same c.in-Ok-Refused.ensures.read.1,
      (Refused (fault_refusal fault), ap Replied c.in_ok-refuse-in-Ok-Refused.ensures.reply, fault_answered c.args.now c.args.word fault c.args.instance.now),
    )

-- the bytes of the line are a request
pub returns-in_ok-show-in-Ok-Request-clause-requested : goal.returns-in_ok-show-in-Ok-Request-clause-requested
returns-in_ok-show-in-Ok-Request-clause-requested g c =
    let request = c.in-Ok-Request.request in
    let answered = c.in_ok-reply-in-Ok-Request.ensures in
    let whole = c.in-Ok-Request.is in
    let first = c.in-Ok-Request.field-0-is in
    let last = c.in-Ok-Request.request-is in
    let same : c.in-Ok-Request.field-0 ≡ reads.Request request = cc in (
      Ok (reads.Request request),
      c.in-Ok-Request.ensures.read.0,
      tt,
      read_as _ c.in-Ok-Request.field-0 _ _ same c.in-Ok-Request.ensures.read.1,
      (
        c.in_ok-reply-in-Ok-Request.reply,
        refl,
        record { replied = answered.replied; formed = answered.formed; cause = answered.cause; name = answered.name; admin = answered.admin },
      ),
    )
