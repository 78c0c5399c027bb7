-- The laws are lemmas of proofs/KnownRows.antt and proofs/KnownShown.antt.
use Rattle.misp_model.proofs.KnownRows.{granted_known, chosen_known, live_known_row}
use Rattle.misp_model.proofs.KnownShown.{shown_known, index_known}
use Rattle.misp_model.proofs.known_rows.known_rows_answer_as_all.Goals as goal

pub returns : goal.returns
returns c = record {
  granted = λ rows groups i o row t m. granted_known rows groups i o t row m;
  chosen = λ rows groups i o e t. chosen_known rows groups i o t e;
  live = λ rows groups i o row t m n. live_known_row rows groups i o t row m n;
  shown = λ rows s e owner t. shown_known rows s t e owner;
  index = λ rows s t. index_known rows s t;
}
