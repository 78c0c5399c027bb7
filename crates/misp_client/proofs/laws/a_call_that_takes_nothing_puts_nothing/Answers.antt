use Rattle.misp_client.proofs.Moments.{called_puts_nothing}
use Rattle.misp_client.proofs.laws.a_call_that_takes_nothing_puts_nothing.Goals as goal

pub returns : goal.returns
returns c = λ peer now key call seen takes. called_puts_nothing peer now seen key call takes
