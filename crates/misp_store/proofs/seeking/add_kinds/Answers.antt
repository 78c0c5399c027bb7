use Rattle.std.proofs.Common.{◌++◌}
use Rattle.misp_outside.specs.Held.{rows_named}
use Rattle.misp_store.specs.Seen.{kind_front}
use Rattle.misp_outside.proofs.Reporting.{stays_then}
use Rattle.misp_store.proofs.LooksSought.{kinds_sought, on_ok}
use Rattle.misp_store.proofs.Sought.{joined}
use Rattle.misp_store.proofs.seeking.add_kinds.Goals as goal

pub returns-clause-found : goal.returns-clause-found
returns-clause-found g c =
    let e = c.args.event.now in
    let o = c.args.owner.now in
    on_ok c.add_kind-3.result
    (λ found.
    kinds_sought e o _ c.args.found.now.items c.add_kind-3.new.found.items
    (joined _ _ (rows_named e (kind_front o e 2)) (λ raws. rows_named e (kind_front o e 3) raws ++ rows_named e (kind_front o e 4) raws)
    c.args.found.now.items c.add_kind.new.found.items c.add_kind-3.new.found.items (stays_then _ _ _ c.in_ok-add_kind-2.ensures.held c.add_kind-3.ensures.held) c.in_ok-add_kind.ensures.found
    (joined _ _ (rows_named e (kind_front o e 3)) (rows_named e (kind_front o e 4))
    c.add_kind.new.found.items c.add_kind-2.new.found.items c.add_kind-3.new.found.items c.add_kind-3.ensures.held c.in_ok-add_kind-2.ensures.found found)))
    c.add_kind-3.ensures.found
