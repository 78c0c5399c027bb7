use Rattle.std.proofs.Common.{◌≡◌, IfOk, subst}
use Rattle.misp_api.proofs.Outgoing.{its_text}
use Rattle.misp_api.proofs.exchanging.bytes_of.Goals as goal

pub returns : goal.returns
returns c =
    let is = its_text c.args.reply.now c.args.close c.status_of.result c.kind_of.result c.body_in.result.now c.args.text.now c.status_of.ensures c.kind_of.ensures c.requires c.body_in.ensures in
    subst (λ text. IfOk c.reply_bytes.result (λ bytes. bytes.items ≡ text)) is c.reply_bytes.ensures.text
