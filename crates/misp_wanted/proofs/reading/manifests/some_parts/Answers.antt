use Rattle.std.proofs.lemmas.Result.{err_from_is_err_and}
use Rattle.misp_wanted.specs.ManifestReading.{any_part, items_after, part_at}
use Rattle.misp_wanted.proofs.ListFields.{goes_on, is_done, stops_at}
use Rattle.misp_wanted.proofs.reading.manifests.some_parts.Goals as goal

pub returns-in_err-part : goal.returns-in_err-part
returns-in_err-part c =
    let p = err_from_is_err_and c.from_residual.result c.from_residual.ensures.1 in
    rw (p.1, p.2)
    (stops_at (λ (u : Unit {0}). part_at c.args.event) any_part tt c.loop.parts.items c.args.count c.loop.counter c.loop.reader (items_after (λ (u : Unit {0}). part_at c.args.event) any_part tt c.args.count c.args.reader.now)
    c.in_err-part.field-0.0 c.loop-test.true c.in_err-part.ensures c.loop.invariant)

pub loop-preserved : goal.loop-preserved
loop-preserved c =
    rw c.in_ok-push.ensures.items
    (goes_on (λ (u : Unit {0}). part_at c.args.event) any_part tt c.loop.parts.items c.args.count c.loop.counter c.loop.reader (items_after (λ (u : Unit {0}). part_at c.args.event) any_part tt c.args.count c.args.reader.now)
    c.in_ok-part.part c.part.new.reader c.loop-test.true c.in_ok-part.ensures c.loop.invariant)

pub returns : goal.returns
returns c =
    rw c.of.ensures
    (is_done (λ (u : Unit {0}). part_at c.args.event) any_part tt c.loop.parts.items c.args.count c.loop.counter c.loop.reader (items_after (λ (u : Unit {0}). part_at c.args.event) any_part tt c.args.count c.args.reader.now) c.loop-test.false c.loop.invariant)
