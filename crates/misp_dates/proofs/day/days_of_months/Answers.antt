use Rattle.std.proofs.Common.{arith, ◌∙◌, sym}
use Rattle.misp_dates.proofs.Numbers.{leap_month, other_month, first_month}
use Rattle.misp_dates.proofs.day.days_of_months.Goals.{else-months-gt1-via-then-months-gt1+else-is_leap_year, else-months-gt1-via-else-months-gt1}
use Rattle.misp_dates.proofs.day.days_of_months.Goals as goal

pub returns-then-is_leap_year-clause-value : goal.returns-then-is_leap_year-clause-value
returns-then-is_leap_year-clause-value c =
    leap_month c.args.year c.args.months c.if-months-gt1.true c.requires (sym c.is_leap_year.ensures ∙ c.if-is_leap_year.true)

pub returns-else-months-gt1-clause-value : goal.returns-else-months-gt1-clause-value
returns-else-months-gt1-clause-value c = elim c.else-months-gt1.branch [
  | else-months-gt1-via-then-months-gt1+else-is_leap_year w ↦
      other_month c.args.year c.args.months c.requires (sym w.is_leap_year.ensures ∙ w.if-is_leap_year.false)
  | else-months-gt1-via-else-months-gt1 w ↦ first_month c.args.year c.args.months (omega (arith, w.if-months-gt1.false))
]
