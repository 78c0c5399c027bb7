use Rattle.std.proofs.Common.{ap, arith}
use Rattle.misp_api.specs.Request.{ask_command}
use Rattle.misp_api.proofs.Handed.{found}
use Rattle.misp_api.proofs.asking.package_in.Goals as goal

pub returns-in-Ok : goal.returns-in-Ok
returns-in-Ok c = ap ask_command (found c.args.body.now (λ i. omega (arith, c.type_inv.body i)) c.in-Ok.package c.in-Ok.ensures.exact)
