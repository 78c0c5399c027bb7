use Rattle.std.proofs.Common.{ap, ◌∙◌, []}
use Rattle.std.proofs.lemmas.Result.{err_from_is_err_and}
use Rattle.misp_elem.specs.Fields.{last_name}
use Rattle.misp_elem.specs.ContentReading.{tags_after}
use Rattle.misp_elem.proofs.Tags.{goes_on, stops_at, is_done}
use Rattle.misp_elem.proofs.reading.Reader.tags_of.Goals as goal

pub returns-in_err-tag : goal.returns-in_err-tag
returns-in_err-tag c =
    let p = err_from_is_err_and c.from_residual.result c.from_residual.ensures.1 in
    let before = c.last_name.ensures ∙ ap last_name c.deref.ensures.value in
    rw (p.1, p.2)
    (stops_at c.in_err-tag.field-0.0 c.loop.tags.items c.loop.room c.args.count c.loop.counter c.loop.self (tags_after c.args.room c.args.count [] c.args.self.now) c.last_name.result.now
    c.loop-test.true before c.in_err-tag.ensures c.loop.invariant)

pub loop-preserved : goal.loop-preserved
loop-preserved c =
    let before = c.last_name.ensures ∙ ap last_name c.deref.ensures.value in
    rw (c.room_after-room.ensures, c.in_ok-push.ensures.items)
    (goes_on c.loop.tags.items c.loop.room c.args.count c.loop.counter c.loop.self c.in_ok-tag.tag c.tag.new.self (tags_after c.args.room c.args.count [] c.args.self.now)
    c.last_name.result.now c.loop-test.true before c.in_ok-tag.ensures c.loop.invariant)

pub returns : goal.returns
returns c = rw c.of.ensures (is_done c.loop.tags.items c.loop.room c.args.count c.loop.counter c.loop.self (tags_after c.args.room c.args.count [] c.args.self.now) c.loop-test.false c.loop.invariant)
