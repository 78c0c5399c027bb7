use Rattle.std.proofs.Common.{sym}
use Rattle.misp_core.proofs.OwnRows.{stays_synced}
use Rattle.misp_core.proofs.synced.own_after.Goals as goal

pub returns-in-Some : goal.returns-in-Some
returns-in-Some c = stays_synced c.args.rows.now c.args.landing c.in-Some.landing (sym c.if-not-are_owned.ensures) c.in-Some.ensures
