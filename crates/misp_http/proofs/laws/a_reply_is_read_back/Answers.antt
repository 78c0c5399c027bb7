use Rattle.misp_http.proofs.ReplyReadBack.{read_back}
use Rattle.misp_http.proofs.laws.a_reply_is_read_back.Goals as goal

pub returns : goal.returns
returns c = λ status kind body close is small. read_back status kind body close small is
