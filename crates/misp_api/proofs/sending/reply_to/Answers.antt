use Rattle.std.proofs.Common.{◌∙◌, ap, take}
use Rattle.misp_api.proofs.Outgoing.{appends_for}
use Rattle.misp_api.proofs.sending.reply_to.Goals as goal

-- all of it is written
pub returns-in-Ok-clause-went : goal.returns-in-Ok-clause-went
returns-in-Ok-clause-went g c = λ time word time_is word_is.
    let sent = c.put_answered.ensures.put time word time_is word_is in (
      sent.0,
      sent.1,
      appends_for _ _ _ _ _ (c.put_answered.ensures.bytes ∙ c.make_room.ensures.bytes) (c.deref.ensures.value ∙ sent.2) c.in-Ok.ensures.ok,
    )

-- some of it is written
pub returns-in-Err-clause-went : goal.returns-in-Err-clause-went
returns-in-Err-clause-went g c = λ time word time_is word_is.
    let sent = c.put_answered.ensures.put time word time_is word_is in
    let some = c.in-Err.ensures.err in (
      sent.0,
      sent.1,
      (some.0, appends_for _ _ _ _ _ (c.put_answered.ensures.bytes ∙ c.make_room.ensures.bytes) (ap (take some.0) (c.deref.ensures.value ∙ sent.2)) some.1),
    )
