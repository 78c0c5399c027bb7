use Rattle.misp_protocol.proofs.EachAsked.{hands_in_each}
use Rattle.misp_protocol.proofs.laws.every_package_is_handed_in.Goals as goal

pub returns : goal.returns
returns c = hands_in_each
