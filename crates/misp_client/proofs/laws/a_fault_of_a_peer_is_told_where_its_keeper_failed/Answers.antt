use Rattle.misp_client.proofs.Stops.{keeper_told}
use Rattle.misp_client.proofs.laws.a_fault_of_a_peer_is_told_where_its_keeper_failed.Goals as goal

pub returns : goal.returns
returns c = λ call reply h. keeper_told call reply h
