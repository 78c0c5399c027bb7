use Rattle.misp_http.proofs.RequestReadBack.{read_back}
use Rattle.misp_http.proofs.laws.a_request_is_read_back.Goals as goal

pub returns : goal.returns
returns c = read_back
