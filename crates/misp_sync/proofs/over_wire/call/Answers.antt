-- A call is sent, and its reply is read.
use Rattle.std.proofs.Common.{◌≡◌, ◌<◌, ◌^◌, ◌∙◌, Err, inl, inr, ap, refl, length, arith}
use Rattle.misp_client.specs.Calls.{call_text}
use Rattle.misp_sync.proofs.WireAsked.{called_cut, called_read, faults_link, faults_memory}
use Rattle.misp_sync.proofs.over_wire.call.Goals as goal

pub returns-in-Ok-ask-clause-called : goal.returns-in-Ok-ask-clause-called
returns-in-Ok-ask-clause-called g c =
    let key = c.args.key.now in
    let call = c.args.call.now in
    let text : c.deref.result.now ≡ call_text key call = c.deref.ensures.value ∙ c.in-Ok.ensures.bytes in
    let small : length c.in-Ok-ask.reply.items < 2 ^ 63 = omega (arith, c.in-Ok-ask.reply.ok, c.in-Ok-ask.reply.small) in
    called_read key call c.call_bytes.ensures.fits _ _ _ _ _ _ c.deref.result.now c.in-Ok-ask.reply.items text small (c.ask.ensures.same key call c.call_bytes.ensures.fits text)
    (c.in-Ok-ask.ensures.answered key call c.call_bytes.ensures.fits text) c.in-Ok-ask.ensures.told (c.in-Ok-ask.ensures.stays (λ h. absurd cc)) c.read_answer.result
    (rw c.deref-in-Ok-ask.ensures.value at c.read_answer.ensures.read) c.read_answer.ensures.fits

pub returns-in-Err-Failed-clause-called : goal.returns-in-Err-Failed-clause-called
returns-in-Err-Failed-clause-called g c =
    let text : c.deref.result.now ≡ call_text c.args.key.now c.args.call.now = c.deref.ensures.value ∙ c.in-Ok.ensures.bytes in
    called_cut c.args.key.now c.args.call.now c.call_bytes.ensures.fits _ _ _ _ _ _ c.deref.result.now text (c.ask.ensures.same c.args.key.now c.args.call.now c.call_bytes.ensures.fits text)
    (c.in-Err-Failed.ensures.answered c.args.key.now c.args.call.now c.call_bytes.ensures.fits text) c.in-Err-Failed.ensures.told _ (inl refl) (faults_link _ _ (ap Err c.in-Err-Failed.field-0-is) c.in-Err-Failed.ensures.cause)

pub returns-clause-called : goal.returns-clause-called
returns-clause-called g c =
    let text : c.deref.result.now ≡ call_text c.args.key.now c.args.call.now = c.deref.ensures.value ∙ c.in-Ok.ensures.bytes in
    called_cut c.args.key.now c.args.call.now c.call_bytes.ensures.fits _ _ _ _ _ _ c.deref.result.now text (c.ask.ensures.same c.args.key.now c.args.call.now c.call_bytes.ensures.fits text)
    (c.in-Err-NoMemory.ensures.answered c.args.key.now c.args.call.now c.call_bytes.ensures.fits text) c.in-Err-NoMemory.ensures.told _ (inr refl) (faults_memory _ _ (c.in-Err-NoMemory.ensures.stays (λ h. let is = c.in-Err-NoMemory.field-0-is in absurd cc)))
