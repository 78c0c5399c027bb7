use Rattle.misp_http.proofs.Readings.{one_reply}
use Rattle.misp_http.proofs.laws.a_reply_is_one_thing.Goals as goal

pub returns : goal.returns
returns c = one_reply
