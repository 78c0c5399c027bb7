use Rattle.std.proofs.Common.{◌∙◌, List, ap, eqb, map, subst, sym}
use Rattle.std.specs.List.{dedup}
use Rattle.misp_model.specs.Machine.{event_number}
use Rattle.misp_model.specs.Prelude.{VisibleEvent}
use Rattle.misp_core.specs.Listing.{seen_at}
use Rattle.misp_core.specs.Pulling.{IsByEvent}
use Rattle.misp_core.proofs.Windowed.{all_come, events_piecewise, none_come, one_comes}
use Rattle.misp_core.proofs.listing.page_of_events.Goals as goal

pub loop-number-init : goal.loop-number-init
loop-number-init c = λ rows table by. none_come (λ (events : List VisibleEvent). events) events_piecewise (seen_at c.args.site.now rows) c.args.page c.as_slice-number-items.result.now c.of-events.result c.of-events.ensures

pub loop-number-preserved : goal.loop-number-preserved
loop-number-preserved c = λ rows table by.
    one_comes (λ (events : List VisibleEvent). events) events_piecewise (seen_at c.args.site.now rows) c.args.page c.as_slice-number-items.result.now c.loop-number.number-index c.loop-number.events c.put_event.new.events c.loop-number-test.true
    (c.in_ok-put_event.ensures rows table (subst (λ l. IsByEvent l rows) (sym c.deref-in-loop-number.ensures.value) by)) (c.loop-number.invariant rows table by)

pub returns : goal.returns
returns c = λ table.
    c.into_items.ensures
    ∙ all_come (λ (events : List VisibleEvent). events) c.args.site.now c.in_ok-list.list.items c.args.rows.items table c.in_ok-list.ensures c.args.page c.as_slice-number-items.result.now c.loop-number.number-index c.loop-number.events c.loop-number-test.false
    (c.as_slice-number-items.ensures.value ∙ c.in_ok-numbers.ensures.all ∙ ap (λ l. dedup eqb (map event_number l)) c.deref.ensures.value)
    (c.loop-number.invariant c.args.rows.items table c.in_ok-list.ensures)
