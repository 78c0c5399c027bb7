use Rattle.std.proofs.Common.{refl}
use Rattle.misp_package.proofs.PutRows.{landing_put}
use Rattle.misp_package.proofs.landing.Landing.put_row.Goals as goal

pub returns : goal.returns
returns c = landing_put c.args.self.now _ c.args.row.now refl refl refl c.state_after-self.ensures c.in_ok-replace.ensures
