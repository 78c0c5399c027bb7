use Rattle.std.proofs.Common.{sym, subst}
use Rattle.misp_core.specs.Sound.{IsSound}
use Rattle.misp_core.specs.Standing.{host_of}
use Rattle.misp_api.specs.Sending.{IsAnswered, read_form}
use Rattle.misp_api.proofs.Exchanges.{exchanged, left_alone, left_replied}
use Rattle.misp_api.proofs.Outgoing.{where_full}
use Rattle.misp_api.proofs.exchanging.reply_to_read.Goals as goal

pub returns-clause-answered : goal.returns-clause-answered
returns-clause-answered g c =
    let same = sym c.worded-reply.ensures.same in
    exchanged _ c.bytes_of.result c.args.now c.args.word c.args.read.now c.args.instance.now c.answer_to.new.instance c.worded-reply.result c.closes-close.result c.closes-close.ensures
    (subst (IsAnswered c.args.now c.args.word c.args.read.now c.args.instance.now c.answer_to.new.instance) same c.in_ok-reply.ensures.answered)
    (λ asks. subst IsSound same (c.in_ok-reply.ensures.sound asks)) c.worded-reply.ensures.worded c.bytes_of.ensures

-- no text was written
pub returns-in_err-reply-clause-left : goal.returns-in_err-reply-clause-left
returns-in_err-reply-clause-left g c =
    where_full c.from_residual.result
    (left_alone c.args.now (read_form (host_of c.args.instance.now) c.args.word c.args.read.now) c.args.instance.now c.args.instance.now.held c.answer_to.new.instance.held c.in_err-reply.ensures.unwritten)

-- or no bytes
pub returns-clause-left : goal.returns-clause-left
returns-clause-left g c =
    where_full c.bytes_of.result
    (left_replied c.args.now (read_form (host_of c.args.instance.now) c.args.word c.args.read.now) c.args.instance.now c.args.instance.now.held c.answer_to.new.instance.held c.in_ok-reply.reply c.in_ok-reply.ensures.answered.replied)
