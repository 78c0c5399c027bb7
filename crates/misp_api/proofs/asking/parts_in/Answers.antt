use Rattle.std.proofs.Common.{arith}
use Rattle.misp_api.proofs.Built.{are_parts}
use Rattle.misp_api.proofs.asking.parts_in.Goals as goal

pub of-parts-requires : goal.of-parts-requires
of-parts-requires c = are_parts c.args.event c.args.object c.args.form c.args.word _ (omega arith) _ c.in_ok-read_parts.ensures
