use Rattle.std.proofs.Common.{IfOk, OnErr, sym, subst, refl}
use Rattle.misp_outside.specs.Reporting.{WhereReported}
use Rattle.misp_outside.proofs.Reporting.{stays_same}
use Rattle.misp_core.specs.Standing.{host_of}
use Rattle.misp_api.specs.Answering.{IsPull, IsSync}
use Rattle.misp_api.specs.Exchange.{IsExchanged, IsLeftSo}
use Rattle.misp_api.specs.Sending.{read_form}
use Rattle.misp_api.proofs.Exchanges.{left_alone, no_reply, not_unread, one_read}
use Rattle.misp_api.proofs.Outgoing.{where_full}
use Rattle.misp_api.proofs.exchanging.exchange.Goals as goal

-- the bytes are a request, and no other
pub returns-in-Ok-clause-answered : goal.returns-in-Ok-clause-answered
returns-in-Ok-clause-answered g c = λ read left is.
    let same = one_read c.args.bytes.items c.in-Ok.read read c.in-Ok.ensures.read.0 left c.in-Ok.ensures.read.1 is in
    subst (λ r. IfOk c.reply_to_read.result (λ reply. IsExchanged c.args.now c.args.word r c.args.instance.now c.reply_to_read.new.instance reply.items)) same c.reply_to_read.ensures.answered

pub returns-in-Ok-clause-still : goal.returns-in-Ok-clause-still
returns-in-Ok-clause-still g c = λ read left is pull.
    let same = one_read c.args.bytes.items c.in-Ok.read read c.in-Ok.ensures.read.0 left c.in-Ok.ensures.read.1 is in
    c.reply_to_read.ensures.still (subst (λ r. IsPull (read_form (host_of c.args.instance.now) c.args.word r)) (sym same) pull)

pub returns-in-Ok-clause-left : goal.returns-in-Ok-clause-left
returns-in-Ok-clause-left g c = λ read left is.
    let same = one_read c.args.bytes.items c.in-Ok.read read c.in-Ok.ensures.read.0 left c.in-Ok.ensures.read.1 is in
    subst (λ r. OnErr c.reply_to_read.result (WhereReported c.args.instance.now.held c.reply_to_read.new.instance.held (IsLeftSo c.args.now (read_form (host_of c.args.instance.now) c.args.word r) c.args.instance.now)))
    same c.reply_to_read.ensures.left

pub returns-in-Ok-clause-admin : goal.returns-in-Ok-clause-admin
returns-in-Ok-clause-admin g c = λ read left is sync.
    let same = one_read c.args.bytes.items c.in-Ok.read read c.in-Ok.ensures.read.0 left c.in-Ok.ensures.read.1 is in
    c.reply_to_read.ensures.admin (subst (λ r. IsSync (read_form (host_of c.args.instance.now) c.args.word r)) (sym same) sync)

-- they are none
pub returns-in-Err-clause-answered : goal.returns-in-Err-clause-answered
returns-in-Err-clause-answered g c = λ read left is.
    no_reply c.unread.result _ c.unread.ensures.read
    (λ memory. not_unread c.args.bytes.items c.in-Err.end read c.in-Err.ensures.read.0 left memory c.in-Err.ensures.no_fault c.in-Err.ensures.read.1 is)

pub returns-in-Err-clause-left : goal.returns-in-Err-clause-left
returns-in-Err-clause-left g c = λ read left is.
    where_full c.unread.result (left_alone c.args.now (read_form (host_of c.args.instance.now) c.args.word read) c.args.instance.now c.args.instance.now.held c.args.instance.now.held (stays_same c.args.instance.now.held c.args.instance.now.held refl))

pub returns-in-Err-clause-still : goal.returns-in-Err-clause-still
returns-in-Err-clause-still g c = λ read left is pull. stays_same c.args.instance.now.held c.args.instance.now.held refl
