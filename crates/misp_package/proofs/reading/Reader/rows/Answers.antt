use Rattle.std.proofs.Common.{None, ap}
use Rattle.std.proofs.lemmas.Result.{err_from_is_err_and}
use Rattle.misp_model.specs.Prelude.{Row}
use Rattle.misp_package.specs.PackageReading.{rows_after}
use Rattle.misp_package.proofs.RowLoop.{goes_on, is_done, stops_at}
use Rattle.misp_package.proofs.reading.Reader.rows.Goals as goal

pub returns-in_err-row : goal.returns-in_err-row
returns-in_err-row c =
    let p = err_from_is_err_and c.from_residual-in_err-row.result c.from_residual-in_err-row.ensures.1 in
    rw (p.1, p.2)
    (stops_at c.args.event c.loop.before c.loop.rows.items c.args.count c.loop.counter c.loop.self (rows_after c.args.event None c.args.count c.args.self.now)
    c.in_err-row.field-0.0 c.loop-test.true c.in_err-row.ensures c.loop.invariant)

pub loop-preserved : goal.loop-preserved
loop-preserved c =
    let same = ap (λ (r : Row). r.key) c.row-in-loop.view_is in
    rw (same, c.in_ok-push.ensures.items)
    (goes_on c.args.event c.loop.before c.loop.rows.items c.args.count c.loop.counter c.loop.self (rows_after c.args.event None c.args.count c.args.self.now)
    c.in_ok-row.row c.row.new.self c.loop-test.true c.in_ok-row.ensures c.loop.invariant)

pub returns : goal.returns
returns c =
    rw c.of.ensures
    (is_done c.args.event c.loop.before c.loop.rows.items c.args.count c.loop.counter c.loop.self (rows_after c.args.event None c.args.count c.args.self.now)
    c.loop-test.false c.loop.invariant)
