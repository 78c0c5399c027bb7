use Rattle.std.proofs.Common.{arith}
use Rattle.sqlite.specs.Held.{state}
use Rattle.sqlite.specs.State.{HasCleanDisk}
use Rattle.misp_sqlite.proofs.Inside.{batch_done, steps_then}
use Rattle.misp_sqlite.proofs.putting.put_all.Goals as goal

pub returns-clause-steps : goal.returns-clause-steps
returns-clause-steps g c =
    steps_then (state g.A.Store c.args.transaction.now.conn.now) (state g.A.Store c.put_rows.new.transaction.conn.now) (state g.A.Store c.put_admins.new.transaction.conn.now)
    (λ clean inside. (c.in_ok-put_rows.ensures.done clean inside).inside) c.put_rows.ensures.steps c.put_admins.ensures.steps

pub returns-clause-done : goal.returns-clause-done
returns-clause-done g c clean inside =
    let old = state g.A.Store c.args.transaction.now.conn.now in
    let mid = state g.A.Store c.put_rows.new.transaction.conn.now in
    let new = state g.A.Store c.put_admins.new.transaction.conn.now in
    let earlier : HasCleanDisk mid = omega (arith, c.put_admins.ensures.steps.survives.clean) in
    let one = c.in_ok-put_rows.ensures.done earlier inside in
    batch_done c.put_admins.result old mid new c.args.batch.now c.as_slice.result.now c.as_slice-2.result.now c.as_slice.ensures c.as_slice-2.ensures one (c.put_admins.ensures.done clean one.inside)
