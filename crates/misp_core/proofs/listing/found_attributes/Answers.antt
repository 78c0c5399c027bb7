use Rattle.std.proofs.Common.{◌∙◌, ap, eqb, get_or, map, option_to_list, subst, sym}
use Rattle.std.specs.List.{dedup}
use Rattle.misp_model.specs.Machine.{event_number}
use Rattle.misp_search.specs.Fitting.{hits}
use Rattle.misp_search.specs.Window.{HaveCome}
use Rattle.misp_search.specs.declared.fitting.Filter.{Filter}
use Rattle.misp_core.specs.Listing.{seen_at}
use Rattle.misp_core.specs.Pulling.{IsByEvent}
use Rattle.misp_core.proofs.Windowed.{all_come, hits_piecewise, none_come, one_comes}
use Rattle.misp_core.proofs.listing.found_attributes.Goals as goal

pub loop-number-init : goal.loop-number-init
loop-number-init c = λ rows table by. none_come (hits c.args.filter.now) (hits_piecewise c.args.filter.now) (seen_at c.args.site.now rows) c.args.filter.now.page c.as_slice-number-items.result.now c.of-found.result c.of-found.ensures

pub loop-number-preserved : goal.loop-number-preserved
loop-number-preserved c = λ rows table by.
    one_comes (hits c.args.filter.now) (hits_piecewise c.args.filter.now) (seen_at c.args.site.now rows) c.args.filter.now.page c.as_slice-number-items.result.now c.loop-number.number-index c.loop-number.found c.put_hits.new.found c.loop-number-test.true
    (subst (λ (f : Filter). HaveCome (hits f (option_to_list (seen_at c.args.site.now rows (get_or c.as_slice-number-items.result.now c.loop-number.number-index 0)))) c.loop-number.found c.put_hits.new.found) c.in_ok-search.ensures
    (c.in_ok-put_hits.ensures rows table (subst (λ l. IsByEvent l rows) (sym c.deref-in-loop-number.ensures.value) by)))
    (c.loop-number.invariant rows table by)

pub returns : goal.returns
returns c = λ table.
    c.into_items.ensures
    ∙ all_come (hits c.args.filter.now) c.args.site.now c.in_ok-list.list.items c.args.rows.items table c.in_ok-list.ensures c.args.filter.now.page c.as_slice-number-items.result.now c.loop-number.number-index c.loop-number.found c.loop-number-test.false
    (c.as_slice-number-items.ensures.value ∙ c.in_ok-numbers.ensures.all ∙ ap (λ l. dedup eqb (map event_number l)) c.deref.ensures.value)
    (c.loop-number.invariant c.args.rows.items table c.in_ok-list.ensures)
