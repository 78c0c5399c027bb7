use Rattle.std.proofs.Common.{refl}
use Rattle.sqlite.specs.Held.{state}
use Rattle.misp_sqlite.proofs.Inside.{admin_done}
use Rattle.misp_sqlite.proofs.putting.put_admin.Goals as goal

pub returns-clause-done : goal.returns-clause-done
returns-clause-done g c clean inside =
    admin_done c.put.result (state g.A.Store c.args.transaction.now.conn.now) (state g.A.Store c.put.new.transaction.conn.now) c.args.kind _ c.args.name.now c.args.bytes.now
    c.ranges.kind.fits refl (c.put.ensures.done clean inside)
