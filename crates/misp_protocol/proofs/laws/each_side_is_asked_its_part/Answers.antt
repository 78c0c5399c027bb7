use Rattle.misp_protocol.proofs.Asking.{asks_each_side}
use Rattle.misp_protocol.proofs.laws.each_side_is_asked_its_part.Goals as goal

pub returns : goal.returns
returns c = asks_each_side
