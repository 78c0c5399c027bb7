use Rattle.std.proofs.Common.{None}
use Rattle.std.proofs.lemmas.Result.{err_from_is_err_and}
use Rattle.misp_wanted.specs.ManifestReading.{items_after, key_before, key_stamp_at}
use Rattle.misp_wanted.proofs.ListFields.{goes_on, is_done, stops_at}
use Rattle.misp_wanted.proofs.reading.manifests.key_stamps.Goals as goal

pub returns-in_err-told : goal.returns-in_err-told
returns-in_err-told c =
    let p = err_from_is_err_and c.from_residual.result c.from_residual.ensures.1 in
    rw (p.1, p.2)
    (stops_at (key_stamp_at c.args.event) key_before c.loop.before c.loop.keys.items c.args.count c.loop.counter c.loop.reader (items_after (key_stamp_at c.args.event) key_before None c.args.count c.args.reader.now)
    c.in_err-told.field-0.0 c.loop-test.true c.in_err-told.ensures c.loop.invariant)

pub loop-preserved : goal.loop-preserved
loop-preserved c =
    rw c.in_ok-push.ensures.items
    (goes_on (key_stamp_at c.args.event) key_before c.loop.before c.loop.keys.items c.args.count c.loop.counter c.loop.reader (items_after (key_stamp_at c.args.event) key_before None c.args.count c.args.reader.now)
    c.in_ok-told.told c.key_stamp.new.reader c.loop-test.true c.in_ok-told.ensures c.loop.invariant)

pub returns : goal.returns
returns c =
    rw c.of.ensures
    (is_done (key_stamp_at c.args.event) key_before c.loop.before c.loop.keys.items c.args.count c.loop.counter c.loop.reader (items_after (key_stamp_at c.args.event) key_before None c.args.count c.args.reader.now) c.loop-test.false c.loop.invariant)
