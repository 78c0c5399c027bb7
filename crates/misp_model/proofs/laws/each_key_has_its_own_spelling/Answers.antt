-- The law is a lemma of proofs/Spelled.antt.
use Rattle.misp_model.proofs.Spelled.{spells}
use Rattle.misp_model.proofs.laws.each_key_has_its_own_spelling.Goals as goal

pub returns : goal.returns
returns c = record { spelling = λ a b h. spells a b h }
