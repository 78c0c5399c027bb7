use Rattle.std.proofs.Common.{refl}
use Rattle.misp_outside.proofs.Reporting.{stays_same}
use Rattle.misp_api.proofs.Exchanges.{unless_told}
use Rattle.misp_api.proofs.Managed.{sync_stays}
use Rattle.misp_api.proofs.Outgoing.{where_full}
use Rattle.misp_api.proofs.exchanging.answer_to.Goals as goal

pub returns-in-Request-clause-unwritten : goal.returns-in-Request-clause-unwritten
returns-in-Request-clause-unwritten g c = unless_told c.answer.result _ c.answer.ensures.kept

pub returns-in-Refused-clause-unwritten : goal.returns-in-Refused-clause-unwritten
returns-in-Refused-clause-unwritten g c = where_full c.refuse.result (stays_same c.args.instance.now.held c.args.instance.now.held refl)

pub returns-in-Refused-clause-still : goal.returns-in-Refused-clause-still
returns-in-Refused-clause-still g c = λ is. stays_same c.args.instance.now.held c.args.instance.now.held refl
