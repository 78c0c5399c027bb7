use Rattle.std.proofs.Common.{◌∙◌}
use Rattle.misp_wanted.proofs.KeySets.{found_by_order}
use Rattle.misp_wanted.proofs.selecting.has_key.Goals as goal

pub returns : goal.returns
returns c = c.contains.ensures ∙ found_by_order c.args.keys.now c.args.key.now
