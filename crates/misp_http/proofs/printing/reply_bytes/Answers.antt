use Rattle.std.proofs.Common.{◌≡◌, length, ap, refl, arith}
use Rattle.misp_http.specs.Texts.{reply_text}
use Rattle.misp_http.proofs.ReplyReadBack.{read_back, body_within}
use Rattle.misp_http.proofs.printing.reply_bytes.Goals as goal

pub returns-clause-reads_back : goal.returns-clause-reads_back
returns-clause-reads_back c =
    let text : c.put_reply.new.out.items ≡ reply_text c.args.status c.args.kind c.args.body.now c.args.close = rw (c.in_ok-put_reply.ensures.text, c.new-out.ensures.items) refl in
    let size = ap length text in
    rw text (read_back c.args.status c.args.kind c.args.body.now c.args.close (omega (arith, size, body_within c.args.status c.args.kind c.args.body.now c.args.close, c.put_reply.new.out.ok, c.put_reply.new.out.small)) c.requires)
