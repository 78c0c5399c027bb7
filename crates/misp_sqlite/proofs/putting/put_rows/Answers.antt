use Rattle.std.proofs.Common.{◌∙◌, arith}
use Rattle.sqlite.specs.Held.{state}
use Rattle.sqlite.specs.State.{HasCleanDisk}
use Rattle.misp_sqlite.specs.Standing.{kept_of}
use Rattle.misp_sqlite.specs.Putting.{with_rows}
use Rattle.misp_sqlite.proofs.Inside.{rows_done, rows_step, steps_then}
use Rattle.misp_sqlite.proofs.putting.put_rows.Goals as goal

pub loop-row-preserved : goal.loop-row-preserved
loop-row-preserved g c =
    let old = state g.A.Store c.args.transaction.now.conn.now in
    let mid = state g.A.Store c.loop-row.transaction.conn.now in
    let new = state g.A.Store c.put_raw.new.transaction.conn.now in
    let earlier = λ (clean : HasCleanDisk new). let late : HasCleanDisk mid = omega (arith, c.put_raw.ensures.steps.survives.clean) in late in
    record {
      same_reference = c.put_raw.ensures.same_reference ∙ c.loop-row.invariant.same_reference;
      steps = steps_then old mid new c.loop-row.invariant.inside c.loop-row.invariant.steps c.put_raw.ensures.steps;
      inside = λ clean inside. (c.in_ok-put_raw.ensures.done clean (c.loop-row.invariant.inside (earlier clean) inside)).inside;
      done = λ clean inside. rows_step c.args.rows.now c.loop-row.row-index c.row-item.result c.as_slice.result.now c.as_slice-in-loop-row.result.now
          (with_rows c.args.rows.now (kept_of old)) (kept_of mid) (kept_of new) c.loop-row-test.true c.row-item.is c.as_slice.ensures c.as_slice-in-loop-row.ensures
          (c.loop-row.invariant.done (earlier clean) inside) (c.in_ok-put_raw.ensures.done clean (c.loop-row.invariant.inside (earlier clean) inside)).held;
      apart = λ clean inside. (c.in_ok-put_raw.ensures.done clean (c.loop-row.invariant.inside (earlier clean) inside)).apart ∙ c.loop-row.invariant.apart (earlier clean) inside;
    }

pub returns-clause-done : goal.returns-clause-done
returns-clause-done g c clean inside = record {
  inside = c.loop-row.invariant.inside clean inside;
  held = rows_done c.args.rows.now c.loop-row.row-index (kept_of (state g.A.Store c.args.transaction.now.conn.now)) (kept_of (state g.A.Store c.loop-row.transaction.conn.now)) c.loop-row-test.false (c.loop-row.invariant.done clean inside);
  apart = c.loop-row.invariant.apart clean inside;
}
