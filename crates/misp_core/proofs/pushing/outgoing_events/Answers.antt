use Rattle.std.proofs.Common.{◌≡◌, ◌∙◌, List, ap, flat_map, refl, subst, sym, take_all}
use Rattle.misp_model.specs.Machine.{event_rows}
use Rattle.misp_model.specs.Package.{IsPackage}
use Rattle.misp_model.specs.Packing.{packages}
use Rattle.misp_model.specs.Passing.{Route}
use Rattle.misp_history.specs.Merging.{arriving_rows}
use Rattle.misp_package.specs.Passing.{route_of}
use Rattle.misp_store.specs.Prelude.{AllByRecursion}
use Rattle.misp_core.specs.Prelude.{EventId, Group, Row}
use Rattle.misp_core.specs.Sending.{numbered}
use Rattle.misp_core.proofs.Arriving.{part_ours, part_table}
use Rattle.misp_core.proofs.Sending.{all_packed, event_packed, one_more, packed_at}
use Rattle.misp_core.proofs.pushing.outgoing_events.Goals as goal

pub loop-number-init : goal.loop-number-init
loop-number-init c = record { packed = λ rows table by. c.new-all.ensures.items; each = subst (AllByRecursion IsPackage) (sym c.new-all.ensures.items) tt }

pub loop-number-preserved : goal.loop-number-preserved
loop-number-preserved c = record {
  packed = λ rows table by.
      let groups : List Group = c.args.via.now.groups.now in
      let route : Route = route_of c.args.via.now in
      let e : EventId = c.event_at-event.result in
      let own : List Row = c.part.result.now in
      let is : own ≡ event_rows e rows = c.part.ensures by.rises ∙ by.same e in
      c.in_ok-add_event.ensures.added (part_table e rows own is table) (part_ours e rows own is)
      ∙ one_more (packed_at rows groups route) c.as_slice-number-items.result.now c.loop-number.number-index 0 (numbered e (packages (arriving_rows own groups route))) c.loop-number.all.items c.loop-number-test.true
      (ap (numbered e) (event_packed rows groups route e own is)
      ∙ ap (λ (id : EventId). numbered id (packages (event_rows id (arriving_rows rows groups route)))) c.event_at-event.ensures.event)
      (c.loop-number.invariant.packed rows table by);
  each = c.in_ok-add_event.ensures.each c.loop-number.invariant.each;
}

pub returns-clause-packed : goal.returns-clause-packed
returns-clause-packed c = λ rows table by.
    c.loop-number.invariant.packed rows table by
    ∙ ap (flat_map (packed_at rows c.args.via.now.groups.now (route_of c.args.via.now)))
    (take_all c.loop-number.number-index c.as_slice-number-items.result.now c.loop-number-test.false ∙ c.as_slice-number-items.ensures.value ∙ c.in_ok-numbers.ensures.all)
    ∙ all_packed rows c.args.via.now.groups.now (route_of c.args.via.now) refl c.args.list.now table by
