use Rattle.std.proofs.Common.{arith}
use Rattle.misp_dates.proofs.Numbers.{years_closed}
use Rattle.misp_dates.proofs.day.days_of_years.Goals as goal

pub returns-clause-value : goal.returns-clause-value
returns-clause-value c = omega (arith, c.from-years.ensures, years_closed c.args.years)
