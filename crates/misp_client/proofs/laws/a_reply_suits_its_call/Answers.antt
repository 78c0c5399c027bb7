use Rattle.misp_client.proofs.Suiting.{suits_did}
use Rattle.misp_client.proofs.laws.a_reply_suits_its_call.Goals as goal

pub returns : goal.returns
returns c = λ peer now key call held reply new is did. suits_did peer now key call is held reply new did
