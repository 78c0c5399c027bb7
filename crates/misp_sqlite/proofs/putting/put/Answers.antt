use Rattle.std.proofs.Common.{pos, Ok}
use Rattle.sqlite.specs.Held.{state}
use Rattle.sqlite.specs.State.{ExecutesInside}
use Rattle.misp_sqlite.specs.Texts.{put_text}
use Rattle.misp_sqlite.proofs.Inside.{inside_put, kind_written}
use Rattle.misp_sqlite.proofs.Upserts.{params_of}
use Rattle.misp_sqlite.proofs.putting.put.Goals as goal

pub returns-in-Ok-eq1-clause-done : goal.returns-in-Ok-eq1-clause-done
returns-in-Ok-eq1-clause-done g c clean inside =
    let old = state g.A.Store c.args.transaction.now.conn.now in
    let new = state g.A.Store c.execute.new.self.conn.now in
    let ran : ExecutesInside 0 put_text (params_of c.args.event.now (pos c.args.kind) c.args.name.now c.args.bytes.now) old new (Ok c.in-Ok-eq1.field-0) =
    rw (c.from.ensures, kind_written c.args.kind c.ranges.kind.fits) at (c.in-Ok-eq1.ensures.runs clean inside.inside) in
    inside_put old new c.args.event.now c.args.name.now c.args.bytes.now (pos c.args.kind) c.in-Ok-eq1.field-0 c.in-Ok-eq1.field-0-test inside ran
