use Rattle.std.proofs.Common.{ap, arith, length}
use Rattle.misp_api.proofs.Outgoing.{its_text, put_alone, where_full, where_room}
use Rattle.misp_api.proofs.sending.put.Goals as goal

-- it did not fit
pub returns-in_err-put_reply-clause-full : goal.returns-in_err-put_reply-clause-full
returns-in_err-put_reply-clause-full g c =
    let is = its_text c.args.reply.now c.args.close c.status_of.result c.kind_of.result c.body_in.result.now c.args.text.now c.status_of.ensures c.kind_of.ensures c.requires.text c.body_in.ensures in
    where_full c.from_residual.result (omega (arith, ap length is, c.in_err-put_reply.ensures.full, c.requires.empty, c.requires.own))

-- it fits
pub returns-then-size-le-REPLY_ROOM-clause-text : goal.returns-then-size-le-REPLY_ROOM-clause-text
returns-then-size-le-REPLY_ROOM-clause-text g c =
    put_alone c.args.reply.now c.args.close c.status_of.result c.kind_of.result c.body_in.result.now c.args.text.now c.args.out.now.items c.put_reply.new.out.items
    c.status_of.ensures c.kind_of.ensures c.requires.text c.body_in.ensures c.requires.none c.in_ok-put_reply.ensures.text

-- more room was made
pub returns-clause-text : goal.returns-clause-text
returns-clause-text g c =
    where_room c.room.result
    (put_alone c.args.reply.now c.args.close c.status_of.result c.kind_of.result c.body_in.result.now c.args.text.now c.args.out.now.items c.put_reply.new.out.items
    c.status_of.ensures c.kind_of.ensures c.requires.text c.body_in.ensures c.requires.none c.in_ok-put_reply.ensures.text)

pub returns-clause-full : goal.returns-clause-full
returns-clause-full g c =
    let put = put_alone c.args.reply.now c.args.close c.status_of.result c.kind_of.result c.body_in.result.now c.args.text.now c.args.out.now.items c.put_reply.new.out.items
    c.status_of.ensures c.kind_of.ensures c.requires.text c.body_in.ensures c.requires.none c.in_ok-put_reply.ensures.text in
    where_full c.room.result (omega (arith, ap length put, c.if-size-le-REPLY_ROOM.false, ap length c.as_slice-size.ensures.value))
