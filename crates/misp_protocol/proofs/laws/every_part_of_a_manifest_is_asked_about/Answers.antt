use Rattle.misp_protocol.proofs.EachAsked.{asks_about_each}
use Rattle.misp_protocol.proofs.laws.every_part_of_a_manifest_is_asked_about.Goals as goal

pub returns : goal.returns
returns c = asks_about_each
