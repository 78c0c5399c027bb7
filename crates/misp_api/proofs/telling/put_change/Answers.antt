use Rattle.std.proofs.Common.{ap, arith, length-append, length}
use Rattle.misp_core.specs.Text.{reply_text}
use Rattle.misp_api.proofs.telling.put_change.Goals as goal

-- what was written is the text of the reply, and it is short
pub returns-clause-short : goal.returns-clause-short
returns-clause-short c =
    let text = ap length c.in_ok-put_reply.ensures in
    omega (arith, text, length-append c.args.text.now.items (reply_text c.args.reply.now))
