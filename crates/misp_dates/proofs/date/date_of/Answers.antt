use Rattle.std.proofs.Common.{◌∙◌, ◌/◌}
use Rattle.misp_dates.specs.Dates.{date_of}
use Rattle.misp_dates.proofs.Days.{jiff_text-nth_day}
use Rattle.misp_dates.proofs.date.date_of.Goals as goal

pub returns : goal.returns
unfolding date_of
returns c =
    let text = jiff_text-nth_day (c.args.seconds / 86400) c.day_at-day.result c.day_at-day.ensures in
    record { date = c.in_ok-format.ensures.ok ∙ text }
