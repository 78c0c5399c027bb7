use Rattle.std.proofs.Common.{arith}
use Rattle.std.proofs.lemmas.Bool.Decides.{nat_tests}
use Rattle.misp_dates.proofs.Moments.{padded}
use Rattle.misp_dates.proofs.clock.fraction_in.Goals as goal

pub returns-clause-value : goal.returns-clause-value
returns-clause-value c =
    padded c.args.digits.now c.copy_from_slice.new.self c.six_digits.result c.copy_from_slice.ensures.after
    c.six_digits.ensures.value (grind (arith, nat_tests, c.is_empty.ensures, c.if-is_empty.false)) c.if-digits-gt6.false
