use Rattle.misp_api.proofs.Outgoing.{fault_dropped}
use Rattle.misp_api.proofs.sending.answer_read.Goals as goal

pub returns-in-Request-clause-dropped : goal.returns-in-Request-clause-dropped
returns-in-Request-clause-dropped g c = λ time word time_is word_is long.
    rw c.in-Request.is (c.answer_next.ensures.dropped time word time_is word_is long)

pub returns-in-Refused-clause-dropped : goal.returns-in-Refused-clause-dropped
returns-in-Refused-clause-dropped g c = λ time word time_is word_is long. rw c.in-Refused.is (fault_dropped time word c.in-Refused.fault c.args.instance.now)
