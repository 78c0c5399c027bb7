use Rattle.std.proofs.Common.{arith}
use Rattle.misp_elem.proofs.Keys.{key_field}
use Rattle.misp_elem.proofs.reading.wire.key_from.Goals as goal

pub invariant_of-result : goal.invariant_of-result
invariant_of-result c = (key_field.takes c.args.bytes.now c.args.form c.requires.0 (λ i. omega (arith, c.type_inv.bytes i)) c.requires.1).0
