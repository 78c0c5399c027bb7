use Rattle.misp_http.proofs.RequestReadBack.{too_long}
use Rattle.misp_http.proofs.laws.a_long_request_is_refused.Goals as goal

pub returns : goal.returns
returns c = too_long
