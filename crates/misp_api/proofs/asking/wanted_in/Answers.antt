use Rattle.std.proofs.Common.{ap}
use Rattle.misp_api.specs.Request.{ask_command}
use Rattle.misp_api.proofs.Handed.{wanted_found}
use Rattle.misp_api.proofs.asking.wanted_in.Goals as goal

pub returns-in-Ok : goal.returns-in-Ok
returns-in-Ok c = ap ask_command (wanted_found c.args.body.now c.in-Ok.wanted c.in-Ok.ensures.exact)
