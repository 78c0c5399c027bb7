use Rattle.misp_words.proofs.Dashes.{no_dash}
use Rattle.misp_words.proofs.laws.a_word_with_a_dash_asks_for_nothing.Goals as goal

pub returns : goal.returns
returns c = no_dash
