use Rattle.misp_client.proofs.ReadBack.{tells, tells_alone}
use Rattle.misp_client.proofs.laws.a_reply_is_read_back.Goals as goal

pub returns-clause-told : goal.returns-clause-told
returns-clause-told c = λ call reply sound worded suits short. tells call reply sound worded suits short

pub returns-clause-alone : goal.returns-clause-alone
returns-clause-alone c = λ call reply sound worded suits short other by. tells_alone call reply sound worded suits short other by
