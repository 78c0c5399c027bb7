use Rattle.std.proofs.Common.{sym, ◌∙◌}
use Rattle.misp_sync.proofs.Synchronised.{not_synchronised, synchronised}
use Rattle.misp_sync.proofs.synchronising.synchronise.Goals as goal

pub returns-in-Err-clause-synced : goal.returns-in-Err-clause-synced
returns-in-Err-clause-synced g c =
    rw c.none.ensures
    (not_synchronised c.args.direction c.args.link.now c.args.instance.now _ c.in-Err.cause (sym c.usable.ensures ∙ c.in-Err.is))

pub returns-clause-synced : goal.returns-clause-synced
returns-clause-synced g c =
    rw c.told.ensures
    (synchronised c.args.link.now c.in-Ok.link c.is_identified.ensures c.args.instance.now _ _ _ c.converse_over.result
    (sym c.usable.ensures ∙ c.in-Ok.is) c.args.direction c.converse_over.ensures.conversed)
