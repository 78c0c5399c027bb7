use Rattle.std.proofs.Common.{arith}
use Rattle.misp_types.proofs.Splitting.{split_at_last}
use Rattle.misp_types.proofs.values.split_value.Goals as goal

pub returns : goal.returns
returns c = split_at_last 124 c.args.value.now _ c.rsplit_once.ensures.cases (omega arith)
