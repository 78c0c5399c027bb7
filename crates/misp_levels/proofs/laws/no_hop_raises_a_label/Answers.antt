-- The law is a lemma of proofs/Steps.antt.
use Rattle.misp_levels.proofs.Steps.{no_higher}
use Rattle.misp_levels.proofs.laws.no_hop_raises_a_label.Goals as goal

pub returns : goal.returns
returns c = λ way before after h. no_higher way before after h
