use Rattle.std.proofs.Common.{sym, ap, ◌∙◌, option_map, Vec, Global, ℕ}
use Rattle.sqlite.specs.Held.{state}
use Rattle.misp_sqlite.specs.Standing.{kept_of}
use Rattle.misp_sqlite.specs.Stored.{event_of}
use Rattle.misp_sqlite.proofs.Loads.{range_near, event_near}
use Rattle.misp_sqlite.proofs.named.rows_near.Goals as goal

pub returns-in-Some-clause-found : goal.returns-in-Some-clause-found
returns-in-Some-clause-found g c clean =
    range_near (λ found. found.items) c.between_rows.result (event_of c.args.event) c.args.front.now c.in-Some.after.items c.as_slice.result.now
    (kept_of (state g.A.Store c.args.connection.now)).rows (sym c.in_ok-after.ensures.after ∙ ap (option_map (λ (bytes : Vec ℕ Global). bytes.items)) c.in-Some.is)
    c.as_slice.ensures.value (c.between_rows.ensures.found clean)

pub returns-in-None-clause-found : goal.returns-in-None-clause-found
returns-in-None-clause-found g c clean =
    event_near (λ found. found.items) c.event_rows.result (event_of c.args.event) c.args.front.now (kept_of (state g.A.Store c.args.connection.now)).rows
    (c.event_rows.ensures.found clean)
