use Rattle.std.proofs.Common.{◌∙◌}
use Rattle.sqlite.specs.Held.{state}
use Rattle.misp_sqlite.proofs.Nexts.{next_loaded}
use Rattle.misp_sqlite.proofs.next.next_row.Goals as goal

pub returns-clause-found : goal.returns-clause-found
returns-clause-found g c clean =
    next_loaded c.args.event c.args.from.now c.as_slice.result.now ((state g.A.Store c.args.connection.now).now.trees 0) c.in_ok-rows.rows.items c.deref.result.now c.in_ok-found.found.items c.first_of.result
    c.ranges.event.fits (c.as_slice.ensures ∙ c.to_be_bytes-bytes.ensures) c.deref.ensures.value (c.in_ok-rows.ensures.found clean) c.in_ok-found.ensures.each c.in_ok-found.ensures.found c.in_ok-found.ensures.order c.first_of.ensures
