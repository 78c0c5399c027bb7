use Rattle.std.proofs.Common.{◌≡◌, ◌+◌, ◌*◌, take, sym, arith}
use Rattle.std.specs.Str.Parse.{digits_value}
use Rattle.misp_types.proofs.Digits.{one_more, too_large}
use Rattle.misp_types.proofs.numbers.number_up_to.Goals as goal

pub returns-then-value-from : goal.returns-then-value-from
returns-then-value-from c =
    let digits = c.args.digits.now in
    let i = c.loop-digit.digit-index in
    let is : 10 * c.loop-digit.value + c.from.result ≡ digits_value 10 (take (i + 1) digits) = rw c.from.ensures (one_more digits i c.loop-digit.value c.requires.digits c.loop-digit-test.true c.loop-digit.invariant.is) in
    sym (too_large digits (i + 1) c.args.most _ is (omega (arith, c.if-value-from.true, c.from-in-loop-digit.ensures)))

pub loop-digit-preserved : goal.loop-digit-preserved
loop-digit-preserved c =
    let digits = c.args.digits.now in
    let i = c.loop-digit.digit-index in
    record {
      is = rw c.from.ensures (one_more digits i c.loop-digit.value c.requires.digits c.loop-digit-test.true c.loop-digit.invariant.is);
      few = omega (arith, c.if-value-from.false, c.from-in-loop-digit.ensures);
    }
