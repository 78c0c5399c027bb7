use Rattle.misp_copies.proofs.Pairs.{has_more}
use Rattle.misp_copies.proofs.table.put.Goals as goal

pub returns : goal.returns
returns c = λ e w. has_more c.args.pairs.now c.insert.new.self c.args.event e c.args.owner w (c.in_ok-insert.ensures.updates.0 (e.0.0, w.0.0))
