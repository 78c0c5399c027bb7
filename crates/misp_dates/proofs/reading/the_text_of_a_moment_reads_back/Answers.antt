use Rattle.misp_dates.proofs.Moments.{read_moment-moment_text}
use Rattle.misp_dates.proofs.reading.the_text_of_a_moment_reads_back.Goals as goal

pub returns : goal.returns
returns c = record { read_back = read_moment-moment_text }
