use Rattle.misp_client.proofs.CallBytes.{call_back}
use Rattle.misp_client.proofs.laws.a_call_is_read_back.Goals as goal

pub returns : goal.returns
returns c = λ key call is small. call_back key call is small
