-- The law is a lemma of proofs/Steps.antt.
use Rattle.misp_levels.proofs.Steps.{down_landed}
use Rattle.misp_levels.proofs.laws.a_hop_more_lands_on_its_way.Goals as goal

pub returns : goal.returns
returns c = λ way label path. down_landed way label path
