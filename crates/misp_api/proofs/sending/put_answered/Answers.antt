use Rattle.std.proofs.Common.{◌∙◌, ap, arith, length}
use Rattle.misp_api.specs.Sending.{IsAnswered}
use Rattle.misp_api.proofs.Outgoing.{gone, small_body}
use Rattle.misp_api.proofs.sending.put_answered.Goals as goal

pub returns-clause-put : goal.returns-clause-put
returns-clause-put g c = λ time word time_is word_is.
    gone c.args.close c.put_some.new.out.items (IsAnswered time word c.args.read.now c.args.instance.now c.answer_read-answered.new.instance) c.answer_read-answered.result
    c.put_some.ensures.text (c.answer_read-answered.ensures.answered time word time_is word_is)
    (small_body c.answer_read-answered.result c.answer_read-answered.new.text.items (omega (arith, c.deref.type_inv.1, ap length c.deref.ensures.value)) c.answer_read-answered.ensures.text)
    (c.answer_read-answered.ensures.dropped time word time_is word_is)
