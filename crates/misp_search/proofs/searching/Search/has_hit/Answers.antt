use Rattle.misp_search.proofs.Finding.{inner_hit, no_hit, outer_hit}
use Rattle.misp_search.proofs.searching.Search.has_hit.Goals as goal

pub returns-then-has_one : goal.returns-then-has_one
returns-then-has_one c =
    outer_hit c.args.self.now c.args.event.now c.takes_tags-tagged.result c.takes_tags-tagged.ensures c.takes_event.result c.has_one.result c.as_slice.result.now
    c.takes_event.ensures c.if-takes_event.true c.as_slice.ensures c.has_one.ensures c.if-has_one.true

pub returns-else-has_one : goal.returns-else-has_one
returns-else-has_one c =
    inner_hit c.args.self.now c.args.event.now c.takes_tags-tagged.result c.takes_tags-tagged.ensures c.takes_event.result c.has_one.result c.has_inner.result c.as_slice.result.now
    c.as_slice-else-has_one.result.now c.takes_event.ensures c.if-takes_event.true c.as_slice.ensures c.has_one.ensures c.if-has_one.false c.as_slice-else-has_one.ensures c.has_inner.ensures

pub returns-else-takes_event : goal.returns-else-takes_event
returns-else-takes_event c =
    no_hit c.args.self.now c.args.event.now c.takes_tags-tagged.result c.takes_tags-tagged.ensures c.takes_event.result c.takes_event.ensures c.if-takes_event.false
