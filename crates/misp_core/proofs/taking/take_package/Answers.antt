use Rattle.misp_core.proofs.OwnRows.{synced_then}
use Rattle.misp_core.proofs.taking.take_package.Goals as goal

pub returns-in-Ok-clause-synced : goal.returns-in-Ok-clause-synced
returns-in-Ok-clause-synced g c =
    synced_then c.own_after-after.result c.deref.result.now c.in_ok-taken.taken.items c.args.landing _ _ c.deref.ensures.value c.in-Ok.ensures.put c.own_after-after.ensures
