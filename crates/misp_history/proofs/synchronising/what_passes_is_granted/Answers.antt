-- The laws are lemmas of proofs/Passed.antt, proofs/Moving.antt and proofs/ArrivedRows.antt.
use Rattle.misp_history.proofs.Passed.{passing_granted}
use Rattle.misp_history.proofs.Moving.{arriving_here}
use Rattle.misp_history.proofs.ArrivedRows.{arriving_are_rows}
use Rattle.misp_history.proofs.synchronising.what_passes_is_granted.Goals as goal

pub returns : goal.returns
returns c = record { rows = arriving_are_rows; here = arriving_here; granted = λ rows groups r x t m. passing_granted rows groups r t x m }
