use Rattle.std.proofs.Common.{◌∙◌}
use Rattle.sqlite.specs.Held.{state}
use Rattle.misp_sqlite.proofs.Inside.{raw_done}
use Rattle.misp_sqlite.proofs.putting.put_raw.Goals as goal

pub returns-clause-done : goal.returns-clause-done
returns-clause-done g c clean inside =
    raw_done c.put.result (state g.A.Store c.args.transaction.now.conn.now) (state g.A.Store c.put.new.transaction.conn.now) c.args.event c.as_slice.result.now c.args.name.now c.args.bytes.now
    c.ranges.event.fits (c.as_slice.ensures ∙ c.to_be_bytes-event.ensures) (c.put.ensures.done clean inside)
