-- The laws are lemmas of proofs/HeldRows.antt, proofs/OwnerRows.antt and proofs/LookedRows.antt.
use Rattle.misp_store.proofs.HeldRows.{rows_again, rows_of_event, rows_put_held, rows_put}
use Rattle.misp_store.proofs.OwnerRows.{rows_of_owner}
use Rattle.misp_store.proofs.LookedRows.{rows_held_looked}
use Rattle.misp_store.proofs.laws.rows_are_held_as_their_bytes.Goals as goal

pub returns : goal.returns
returns c = record {
  read = λ rows are. rows_again rows are;
  of_event = λ e rows. rows_of_event e rows;
  of_owner = λ o e rows h are. rows_of_owner o e rows h are;
  looked = λ l rows has are. rows_held_looked l rows has are;
  put = λ vs rows of_vs are. rows_put_held vs rows of_vs are;
  kept = λ vs rows of_vs are. rows_put vs rows of_vs are;
}
