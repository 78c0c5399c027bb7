use Rattle.misp_client.proofs.Moments.{called_at_any_moment}
use Rattle.misp_client.proofs.laws.a_call_comes_to_the_same_at_any_moment.Goals as goal

pub returns : goal.returns
returns c = λ peer now key call seen. called_at_any_moment peer now key call seen
