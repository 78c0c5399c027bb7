use Rattle.std.proofs.Common.{ℕ, Option, ◌∙◌, ap, filter_map, nat_cmp, subst, sym, take_all}
use Rattle.misp_manifest.specs.Manifest.{IsManifestEvent}
use Rattle.misp_manifest.specs.declared.manifest.ManifestFields.{ManifestFields}
use Rattle.misp_model.specs.Machine.{event_rows, seeing}
use Rattle.misp_model.specs.Packing.{packages}
use Rattle.misp_model.specs.Pulling.{pulled_rows}
use Rattle.misp_manifest.specs.Manifest.{manifest_event}
use Rattle.misp_store.specs.Prelude.{AllByRecursion}
use Rattle.misp_core.specs.Prelude.{EventId, IsStrictlySortedBy, Scene}
use Rattle.misp_core.specs.Handing.{pull_scene}
use Rattle.misp_core.specs.Pulling.{event_at}
use Rattle.misp_core.proofs.Listed.{next_said, next_to, none_yet, number_said, said_in_order, said_number}
use Rattle.misp_core.proofs.Pulled.{manifest_pulled, one_more, said_is}
use Rattle.misp_core.proofs.manifest.events_said.Goals as goal

pub loop-number-init : goal.loop-number-init
loop-number-init c = record {
  said = λ rows table by. c.new-events.ensures.items;
  each = subst (AllByRecursion IsManifestEvent) (sym c.new-events.ensures.items) tt;
  ascend = λ up. none_yet number_said c.as_slice-number-items.result.now c.new-events.result.items c.new-events.ensures.items;
}

pub loop-number-preserved : goal.loop-number-preserved
loop-number-preserved c = record {
  said = λ rows table by.
      let s : Scene = pull_scene c.args.site.now in
      let told : ℕ → Option ManifestFields = λ n. manifest_event (event_at n) (packages (event_rows (event_at n) (pulled_rows (seeing s rows)))) in
      let e : EventId = c.event_at-event.result in
      c.in_ok-put.ensures
      ∙ one_more told c.as_slice-number-items.result.now c.loop-number.number-index 0 c.in_ok-event_said.field-0 c.loop-number.events.items c.loop-number-test.true
      (said_is s e rows c.part.result.now table (c.part.ensures by.rises ∙ by.same e) c.in_ok-event_said.field-0 c.in_ok-event_said.ensures.said
      ∙ ap (λ (id : EventId). manifest_event id (packages (event_rows id (pulled_rows (seeing s rows))))) c.event_at-event.ensures.event)
      (c.loop-number.invariant.said rows table by);
  each =
      subst (AllByRecursion IsManifestEvent) (sym c.in_ok-put.ensures)
      (next_said c.event_at-event.result c.in_ok-event_said.field-0 c.in_ok-event_said.ensures.event c.loop-number.events.items c.loop-number.invariant.each);
  ascend = λ up.
      rw c.in_ok-put.ensures
      (next_to number_said c.as_slice-number-items.result.now c.loop-number.number-index c.loop-number-test.true c.in_ok-event_said.field-0
      (said_number c.event_at-event.result _ c.event_at-event.ensures.event c.in_ok-event_said.field-0 c.in_ok-event_said.ensures.event)
      c.loop-number.events.items c.loop-number.invariant.ascend up);
}

pub returns-clause-said : goal.returns-clause-said
returns-clause-said c = λ rows table by.
    let s : Scene = pull_scene c.args.site.now in
    let told : ℕ → Option ManifestFields = λ n. manifest_event (event_at n) (packages (event_rows (event_at n) (pulled_rows (seeing s rows)))) in
    c.loop-number.invariant.said rows table by
    ∙ ap (filter_map told) (take_all c.loop-number.number-index c.as_slice-number-items.result.now c.loop-number-test.false ∙ c.as_slice-number-items.ensures.value ∙ c.in_ok-numbers.ensures.all)
    ∙ sym (manifest_pulled s c.args.list.now rows table by)

pub returns-clause-ascend : goal.returns-clause-ascend
returns-clause-ascend c = λ rises.
    let up : IsStrictlySortedBy nat_cmp c.as_slice-number-items.result.now =
    subst (IsStrictlySortedBy nat_cmp) (sym c.as_slice-number-items.ensures.value) (c.in_ok-numbers.ensures.ascend rises) in
    said_in_order c.loop-number.events.items c.loop-number.invariant.each (c.loop-number.invariant.ascend up).ascend
