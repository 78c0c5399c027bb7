use Rattle.std.proofs.Common.{◌∙◌, arith}
use Rattle.misp_script.proofs.Digits.{hex_at, one_more_sixteen, bound_sixteen, below_sixteen}
use Rattle.misp_script.proofs.numbers.hex_value.Goals as goal

pub digit-requires : goal.digit-requires
digit-requires c = hex_at c.args.digits.now c.loop-byte.byte-index c.requires.digits c.loop-byte-test.true

pub overflow_mul-value : goal.overflow_mul-value
overflow_mul-value c = omega (arith, below_sixteen c.loop-byte.byte-index c.loop-byte.value (omega (arith, c.loop-byte-test.true, c.requires.few)) c.loop-byte.invariant.bound)

pub overflow_add-value : goal.overflow_add-value
overflow_add-value c = omega (arith, c.from.ensures, c.digit.ensures.small, below_sixteen c.loop-byte.byte-index c.loop-byte.value (omega (arith, c.loop-byte-test.true, c.requires.few)) c.loop-byte.invariant.bound)

pub loop-byte-preserved : goal.loop-byte-preserved
loop-byte-preserved c = record {
  is = one_more_sixteen c.args.digits.now c.loop-byte.byte-index c.loop-byte.value _ c.loop-byte-test.true (c.from.ensures ∙ c.digit.ensures.value) c.loop-byte.invariant.is;
  bound = bound_sixteen c.loop-byte.byte-index c.loop-byte.value _ (omega (arith, c.from.ensures, c.digit.ensures.small)) c.loop-byte.invariant.bound;
}
