use Rattle.std.proofs.Common.{◌≡◌, arith, length, rules}
use Rattle.misp_core.proofs.Carried.{stopped_did}
use Rattle.misp_core.specs.Managing.{item_made}
use Rattle.misp_api.proofs.Managed.{made_did}
use Rattle.misp_api.proofs.Told.{text_instead}
use Rattle.misp_api.proofs.managing.tell_made.Goals as goal

-- ---- the item is put

pub returns-in-Ok-clause-done : goal.returns-in-Ok-clause-done
returns-in-Ok-clause-done g c = rw c.in_ok-reply.ensures.reply (made_did c.args.item c.args.instance.now.held c.manage.new.self.held c.in-Ok.ensures.fits c.in-Ok.ensures.put)

-- ---- it is not put

pub returns-in-Err-clause-text : goal.returns-in-Err-clause-text
returns-in-Err-clause-text g c =
    let long : length c.args.text.now.items ≡ c.len-start.result = omega (arith, c.args.text.now.ok.0, c.len-start.ensures) in
    text_instead c.args.text.now.items _ c.write_answer.new.text.items _ _ c.len-start.result c.stopped_by.result long c.in_ok-reply.ensures.text c.take_back.ensures.text (search rules)

pub returns-in-Err-clause-done : goal.returns-in-Err-clause-done
returns-in-Err-clause-done g c = rw c.stopped_by.ensures (stopped_did c.in-Err.stop (item_made c.args.item) c.args.instance.now.held c.manage.new.self.held c.in-Err.ensures.err)
