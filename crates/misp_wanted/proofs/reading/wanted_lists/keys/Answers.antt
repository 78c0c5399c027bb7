use Rattle.std.proofs.Common.{None}
use Rattle.std.proofs.lemmas.Result.{err_from_is_err_and}
use Rattle.misp_wanted.specs.ManifestReading.{framed_at, items_after, wanted_before, wanted_key_of}
use Rattle.misp_wanted.proofs.ListFields.{goes_on, is_done, stops_at}
use Rattle.misp_wanted.proofs.reading.wanted_lists.keys.Goals as goal

pub returns-in_err-key : goal.returns-in_err-key
returns-in_err-key c =
    let p = err_from_is_err_and c.from_residual.result c.from_residual.ensures.1 in
    rw (p.1, p.2)
    (stops_at (λ before. framed_at (wanted_key_of c.args.event before)) wanted_before c.loop.before c.loop.keys.items c.args.count c.loop.counter c.loop.reader (items_after (λ before. framed_at (wanted_key_of c.args.event before)) wanted_before None c.args.count c.args.reader.now)
    c.in_err-key.field-0.0 c.loop-test.true c.in_err-key.ensures c.loop.invariant)

pub loop-preserved : goal.loop-preserved
loop-preserved c =
    rw c.in_ok-push.ensures.items
    (goes_on (λ before. framed_at (wanted_key_of c.args.event before)) wanted_before c.loop.before c.loop.keys.items c.args.count c.loop.counter c.loop.reader (items_after (λ before. framed_at (wanted_key_of c.args.event before)) wanted_before None c.args.count c.args.reader.now)
    c.in_ok-key.key c.framed_key.new.reader c.loop-test.true c.in_ok-key.ensures c.loop.invariant)

pub returns : goal.returns
returns c =
    rw c.of.ensures
    (is_done (λ before. framed_at (wanted_key_of c.args.event before)) wanted_before c.loop.before c.loop.keys.items c.args.count c.loop.counter c.loop.reader (items_after (λ before. framed_at (wanted_key_of c.args.event before)) wanted_before None c.args.count c.args.reader.now) c.loop-test.false c.loop.invariant)
