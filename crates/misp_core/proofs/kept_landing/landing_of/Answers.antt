use Rattle.misp_core.proofs.KeptLandings.{landed_made}
use Rattle.misp_core.proofs.kept_landing.landing_of.Goals as goal

pub returns : goal.returns
returns c = landed_made c.of.result _ _ _ _ c.are_rows.ensures c.of.ensures
