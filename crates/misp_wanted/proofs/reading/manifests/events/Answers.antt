use Rattle.std.proofs.Common.{None}
use Rattle.std.proofs.lemmas.Result.{err_from_is_err_and}
use Rattle.misp_wanted.specs.ManifestReading.{event_before, items_after, manifest_event_at}
use Rattle.misp_wanted.proofs.ListFields.{goes_on, is_done, stops_at}
use Rattle.misp_wanted.proofs.reading.manifests.events.Goals as goal

pub returns-in_err-event : goal.returns-in_err-event
returns-in_err-event c =
    let p = err_from_is_err_and c.from_residual.result c.from_residual.ensures.1 in
    rw (p.1, p.2)
    (stops_at manifest_event_at event_before c.loop.before c.loop.events.items c.args.count c.loop.counter c.loop.reader (items_after manifest_event_at event_before None c.args.count c.args.reader.now)
    c.in_err-event.field-0.0 c.loop-test.true c.in_err-event.ensures c.loop.invariant)

pub loop-preserved : goal.loop-preserved
loop-preserved c =
    rw c.in_ok-push.ensures.items
    (goes_on manifest_event_at event_before c.loop.before c.loop.events.items c.args.count c.loop.counter c.loop.reader (items_after manifest_event_at event_before None c.args.count c.args.reader.now)
    c.in_ok-event.event c.manifest_event.new.reader c.loop-test.true c.in_ok-event.ensures c.loop.invariant)

pub returns : goal.returns
returns c =
    rw c.of.ensures
    (is_done manifest_event_at event_before c.loop.before c.loop.events.items c.args.count c.loop.counter c.loop.reader (items_after manifest_event_at event_before None c.args.count c.args.reader.now) c.loop-test.false c.loop.invariant)
