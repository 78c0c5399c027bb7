-- The law is a lemma of proofs/Looked.antt.
use Rattle.misp_model.proofs.Looked.{more_same}
use Rattle.misp_model.proofs.looking.what_is_looked_at_first_says_what_then.Goals as goal

pub returns : goal.returns
returns c = record { more = λ l rows s a h. more_same l rows s a h }
