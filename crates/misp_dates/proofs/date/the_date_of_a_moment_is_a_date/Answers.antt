use Rattle.misp_dates.proofs.Texts.{is_date-date_of}
use Rattle.misp_dates.proofs.date.the_date_of_a_moment_is_a_date.Goals as goal

pub returns : goal.returns
returns c = record { is_date = is_date-date_of }
