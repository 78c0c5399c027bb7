use Rattle.std.proofs.Common.{◌∙◌}
use Rattle.sqlite.specs.Held.{state}
use Rattle.misp_sqlite.proofs.Loads.{between_loaded}
use Rattle.misp_sqlite.proofs.named.between_rows.Goals as goal

pub returns-clause-found : goal.returns-clause-found
returns-clause-found g c clean =
    between_loaded (λ found. found.items) c.event_rows_in.result c.args.event c.args.from.now c.args.until.now c.as_slice.result.now ((state g.A.Store c.args.connection.now).now.trees 0) c.in_ok-rows.rows.items c.deref.result.now
    c.ranges.event.fits (c.as_slice.ensures ∙ c.to_be_bytes-bytes.ensures) c.deref.ensures.value (c.in_ok-rows.ensures.found clean) c.event_rows_in.ensures.each c.event_rows_in.ensures.found c.event_rows_in.ensures.order
