use Rattle.misp_store.proofs.Sought.{row_absent, row_added}
use Rattle.misp_store.proofs.names_sought.add_row.Goals as goal

pub returns-in_ok-add_named-in-Some-clause-found : goal.returns-in_ok-add_named-in-Some-clause-found
returns-in_ok-add_named-in-Some-clause-found g c =
    row_added _ c.args.event.now c.args.name.now c.in_ok-row.field-0 c.in-Some.row c.args.found.now.items c.add_named.new.found.items
    c.in_ok-row.ensures.found c.in_ok-row.ensures.order c.in-Some.is c.in_ok-add_named-in-Some.ensures

pub returns-in-None-clause-found : goal.returns-in-None-clause-found
returns-in-None-clause-found g c = row_absent _ c.args.event.now c.args.name.now c.in_ok-row.field-0 c.args.found.now.items c.in_ok-row.ensures.found c.in-None.is
