use Rattle.std.proofs.Common.{ℕ, Option, ◌∙◌, ap, filter_map, length, nat_cmp, subst, sym, take_all}
use Rattle.misp_model.specs.Machine.{event_rows, seeing}
use Rattle.misp_model.specs.Packing.{packages}
use Rattle.misp_model.specs.Pulling.{pulled_rows}
use Rattle.misp_store.specs.Prelude.{AllByRecursion}
use Rattle.misp_core.specs.Prelude.{EventId, IsStrictlySortedBy, Scene}
use Rattle.misp_core.specs.declared.reply.EventParts.{EventParts}
use Rattle.misp_core.specs.Handing.{pull_scene}
use Rattle.misp_core.specs.Pulling.{event_at, parts_where}
use Rattle.misp_core.specs.Sound.{IsListed}
use Rattle.misp_core.proofs.Listed.{listed_number, next_listed, next_to, none_yet, number_listed}
use Rattle.misp_core.proofs.Pulled.{count_is, events_pulled, one_more}
use Rattle.misp_core.proofs.pulling.pulled_events.Goals as goal

pub loop-number-init : goal.loop-number-init
loop-number-init c = record {
  events = λ rows table by. c.new-events.ensures.items;
  each = subst (AllByRecursion IsListed) (sym c.new-events.ensures.items) tt;
  ascend = λ up. none_yet number_listed c.as_slice-number-items.result.now c.new-events.result.items c.new-events.ensures.items;
}

pub loop-number-preserved : goal.loop-number-preserved
loop-number-preserved c = record {
  events = λ rows table by.
      let s : Scene = pull_scene c.args.site.now in
      let told : ℕ → Option EventParts = λ n. parts_where (event_at n) (length (packages (event_rows (event_at n) (pulled_rows (seeing s rows))))) in
      let e : EventId = c.event_at-event.result in
      c.in_ok-put.ensures
      ∙ one_more told c.as_slice-number-items.result.now c.loop-number.number-index 0 c.in_ok-event_parts.field-0 c.loop-number.events.items c.loop-number-test.true
      (count_is s e rows c.part.result.now table (c.part.ensures by.rises ∙ by.same e) c.in_ok-event_parts.field-0 c.in_ok-event_parts.ensures.parts
      ∙ ap (λ (id : EventId). parts_where id (length (packages (event_rows id (pulled_rows (seeing s rows)))))) c.event_at-event.ensures.event)
      (c.loop-number.invariant.events rows table by);
  each =
      subst (AllByRecursion IsListed) (sym c.in_ok-put.ensures)
      (next_listed c.event_at-event.result c.event_at-event.ensures.fits c.in_ok-event_parts.field-0 c.in_ok-event_parts.ensures.counted c.loop-number.events.items c.loop-number.invariant.each);
  ascend = λ up.
      rw c.in_ok-put.ensures
      (next_to number_listed c.as_slice-number-items.result.now c.loop-number.number-index c.loop-number-test.true c.in_ok-event_parts.field-0
      (listed_number c.event_at-event.result _ c.event_at-event.ensures.event c.in_ok-event_parts.field-0 c.in_ok-event_parts.ensures.counted)
      c.loop-number.events.items c.loop-number.invariant.ascend up);
}

pub returns-clause-events : goal.returns-clause-events
returns-clause-events c = λ rows table by.
    let s : Scene = pull_scene c.args.site.now in
    let told : ℕ → Option EventParts = λ n. parts_where (event_at n) (length (packages (event_rows (event_at n) (pulled_rows (seeing s rows))))) in
    c.loop-number.invariant.events rows table by
    ∙ ap (filter_map told) (take_all c.loop-number.number-index c.as_slice-number-items.result.now c.loop-number-test.false ∙ c.as_slice-number-items.ensures.value ∙ c.in_ok-numbers.ensures.all)
    ∙ sym (events_pulled s c.args.list.now rows table by)

pub returns-clause-listed : goal.returns-clause-listed
returns-clause-listed c = λ rises.
    let up : IsStrictlySortedBy nat_cmp c.as_slice-number-items.result.now =
    subst (IsStrictlySortedBy nat_cmp) (sym c.as_slice-number-items.ensures.value) (c.in_ok-numbers.ensures.ascend rises) in
    record { each = c.loop-number.invariant.each; ascend = (c.loop-number.invariant.ascend up).ascend }
