-- The laws are lemmas of proofs/Pulled.antt and proofs/ManifestsAnswered.antt.
use Rattle.misp_history.proofs.ManifestsAnswered.{rows_wanted}
use Rattle.misp_history.proofs.Pulled.{part_absent, part_of}
use Rattle.misp_history.proofs.synchronising.a_part_is_the_one_asked_for.Goals as goal

pub returns : goal.returns
returns c = record {
  event = λ s e n p h. (part_of s e n p h).1.0;
  part = λ s e n p h. (part_of s e n p h).1.1.0;
  parts = λ s e n p h. (part_of s e n p h).1.1.1;
  rows = λ s e n p h. (part_of s e n p h).0;
  absent = part_absent;
  wanted = rows_wanted;
}
