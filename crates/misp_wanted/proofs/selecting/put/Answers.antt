use Rattle.misp_wanted.proofs.KeySets.{has_more}
use Rattle.misp_wanted.proofs.selecting.put.Goals as goal

pub returns : goal.returns
returns c = has_more c.args.keys.now c.insert.new.self c.args.key c.in_ok-insert.ensures.updates.0
