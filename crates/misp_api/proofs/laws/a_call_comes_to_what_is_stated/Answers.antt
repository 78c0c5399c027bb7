use Rattle.misp_api.proofs.Called.{call_comes, call_syncs}
use Rattle.misp_api.proofs.laws.a_call_comes_to_what_is_stated.Goals as goal

pub returns-clause-comes : goal.returns-clause-comes
returns-clause-comes c = λ host now word key call seen is fits. call_comes host word key call is fits now seen

pub returns-clause-asked : goal.returns-clause-asked
returns-clause-asked c = λ host word key call is fits. call_syncs host word key call is fits
