use Rattle.misp_protocol.proofs.Asking.{asks_as_wanted}
use Rattle.misp_protocol.proofs.laws.what_is_wanted_is_asked_for.Goals as goal

pub returns : goal.returns
returns c = asks_as_wanted
