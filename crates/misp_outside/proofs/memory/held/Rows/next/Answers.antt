use Rattle.std.proofs.Common.{◌≡◌, Some, None, ap, sym, ◌∙◌, subst, refl, IsTrue}
use Rattle.misp_lists.specs.Order.{ascend}
use Rattle.misp_outside.specs.Held.{Held, comes_before, next_row}
use Rattle.misp_outside.specs.Stored.{raw_rows}
use Rattle.misp_outside.proofs.Rows.{raw_ascend}
use Rattle.misp_outside.proofs.Nexts.{first_here, first_past, no_first}
use Rattle.misp_outside.proofs.memory.held.Rows.next.Goals.{in_default-via-in-Some+else-key-event, in_default-via-in_default}
use Rattle.misp_outside.proofs.memory.held.Rows.next.Goals as goal

pub returns-in_ok-row_at-in-Some-clause-found : goal.returns-in_ok-row_at-in-Some-clause-found
returns-in_ok-row_at-in-Some-clause-found c =
    ap Some c.in_ok-row_at-in-Some.ensures
    ∙ sym (first_here c.args.event.now c.args.from.now (c.args.event.now.0.0, c.in_ok-to_vec.field-0) c.self.inside.rows.entries c.range-keys.result refl
    (c.in_ok-to_vec.ensures.items_if_clones_equal (λ x y e. e)) c.range-keys.ensures.ordered (c.range-keys.ensures.between tt) (c.in-Some.key.now, c.in-Some.bytes.now) c.next.new.self
    c.in-Some.ensures.steps c.if-key-event.true)
    ∙ ap (λ (held : Held). next_row c.args.event.now c.args.from.now held.rows) c.self.view_is

pub returns-in_ok-row_at-in-Some-clause-order : goal.returns-in_ok-row_at-in-Some-clause-order
returns-in_ok-row_at-in-Some-clause-order c =
    subst (λ (held : Held). IsTrue (ascend comes_before held.rows)) c.self.view_is (raw_ascend c.self.inside.rows.entries c.range-keys.ensures.ordered)

none_there : (c : goal.In_default) → None ≡ next_row c.args.event.now c.args.from.now (raw_rows c.self.inside.rows.entries)
none_there c = elim c.in_default.branch [
  | in_default-via-in-Some+else-key-event w ↦
      first_past c.args.event.now c.args.from.now (c.args.event.now.0.0, c.in_ok-to_vec.field-0) c.self.inside.rows.entries c.range-keys.result refl
      (c.in_ok-to_vec.ensures.items_if_clones_equal (λ x y e. e)) c.range-keys.ensures.ordered (c.range-keys.ensures.between tt) (w.in-Some.key.now, w.in-Some.bytes.now) c.next.new.self
      w.in-Some.ensures.steps w.if-key-event.false
  | in_default-via-in_default w ↦
      no_first c.args.event.now c.args.from.now (c.args.event.now.0.0, c.in_ok-to_vec.field-0) c.self.inside.rows.entries c.range-keys.result refl
      (c.in_ok-to_vec.ensures.items_if_clones_equal (λ x y e. e)) c.range-keys.ensures.ordered (c.range-keys.ensures.between tt) w.in_default.ensures.steps.0
]

pub returns-in_default-clause-found : goal.returns-in_default-clause-found
returns-in_default-clause-found c = none_there c ∙ ap (λ (held : Held). next_row c.args.event.now c.args.from.now held.rows) c.self.view_is

pub returns-in_default-clause-order : goal.returns-in_default-clause-order
returns-in_default-clause-order c =
    subst (λ (held : Held). IsTrue (ascend comes_before held.rows)) c.self.view_is (raw_ascend c.self.inside.rows.entries c.range-keys.ensures.ordered)
