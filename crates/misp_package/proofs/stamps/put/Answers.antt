use Rattle.misp_package.proofs.StampLemmas.{put_at}
use Rattle.misp_package.proofs.stamps.put.Goals as goal

pub returns : goal.returns
returns c = rw (← c.row.view_is) (put_at c.args.stamps.now c.insert.new.self c.row.inside.key c.row.inside.stamp c.in_ok-insert.ensures.updates.0)
