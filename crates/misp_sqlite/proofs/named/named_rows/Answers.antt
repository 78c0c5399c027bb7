use Rattle.sqlite.specs.Held.{state}
use Rattle.misp_sqlite.specs.Standing.{kept_of}
use Rattle.misp_sqlite.specs.Stored.{event_of}
use Rattle.misp_sqlite.proofs.Loads.{named_loaded, named_ascend}
use Rattle.misp_sqlite.proofs.named.named_rows.Goals as goal

pub returns-clause-found : goal.returns-clause-found
returns-clause-found g c clean =
    named_loaded (λ found. found.items) c.named_in.result (event_of c.args.event) c.args.front.now (kept_of (state g.A.Store c.args.connection.now)).rows c.in_ok-rows.rows.items
    (c.in_ok-rows.ensures.found clean) c.named_in.ensures

pub returns-clause-order : goal.returns-clause-order
returns-clause-order g c =
    named_ascend (λ found. found.items) c.named_in.result c.args.front.now c.in_ok-rows.rows.items c.in_ok-rows.ensures.order c.named_in.ensures
