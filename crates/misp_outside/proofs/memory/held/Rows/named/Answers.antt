use Rattle.std.proofs.Common.{◌≡◌, ◌++◌, [], refl, ap, sym, ◌∙◌, subst, IsTrue}
use Rattle.misp_lists.specs.Order.{ascend}
use Rattle.misp_outside.specs.Held.{Held, comes_before, rows_named}
use Rattle.misp_outside.specs.Stored.{raw_rows}
use Rattle.misp_outside.proofs.Lists.{more_found}
use Rattle.misp_outside.proofs.Rows.{Cells, raw_ascend}
use Rattle.misp_outside.proofs.Named.{IsFrom, next_named, rest_from, last_named, none_left, all_named, named_ascend, named_part, from_part}
use Rattle.misp_outside.proofs.memory.held.Rows.named.Goals.{in-None, in-Some+then-not-is_named}
use Rattle.misp_outside.proofs.memory.held.Rows.named.Goals as goal

pub loop-key-init : goal.loop-key-init
loop-key-init c = record {
  so_far = ap (λ rows. rows ++ rows_named c.args.event.now c.args.front.now (raw_rows c.into_iter-key-iterator.result)) c.new-found.ensures.items;
  left = subst (λ cells. IsFrom c.args.event.now c.args.front.now (raw_rows cells)) (sym (c.into_iter-key-iterator.ensures.into_iter_gives ∙ c.range-key-items.ensures.between tt))
      (from_part c.args.event.now c.args.front.now (c.args.event.now.0.0, c.in_ok-to_vec.field-0) c.self.inside.rows.entries refl (c.in_ok-to_vec.ensures.items_if_clones_equal (λ x y e. e)) c.range-key-items.ensures.ordered);
}

pub loop-key-preserved : goal.loop-key-preserved
loop-key-preserved c =
    record {
      so_far = more_found (λ cells. rows_named c.args.event.now c.args.front.now (raw_rows cells)) c.loop-key.found.items _ c.add_row.new.found.items (c.in-Some.key.now, c.in-Some.bytes.now) c.next.new.self c.loop-key.key-iterator _
          (next_named c.args.event.now c.args.front.now (c.in-Some.key.now, c.in-Some.bytes.now) c.next.new.self (sym c.if-not-is_named.ensures)) c.in_ok-add_row.ensures c.in-Some.ensures.steps c.loop-key.invariant.so_far;
      left = rest_from c.args.event.now c.args.front.now (c.in-Some.key.now, c.in-Some.bytes.now) c.next.new.self c.loop-key.key-iterator c.in-Some.ensures.steps c.loop-key.invariant.left;
    }

none_after : (c : goal.Joined-next) → rows_named c.args.event.now c.args.front.now (raw_rows c.loop-key.key-iterator) ≡ []
none_after c = elim c.match-next.branch [
  | in-None w ↦ none_left c.args.event.now c.args.front.now c.loop-key.key-iterator w.in-None.ensures.steps.0
  | in-Some+then-not-is_named w ↦
      last_named c.args.event.now c.args.front.now (w.in-Some.key.now, w.in-Some.bytes.now) c.next.new.self c.loop-key.key-iterator w.in-Some.ensures.steps c.loop-key.invariant.left (sym w.if-not-is_named.ensures)
]

found_rows : (c : goal.Joined-next) → c.loop-key.found.items ≡ rows_named c.args.event.now c.args.front.now (raw_rows c.self.inside.rows.entries)
found_rows c =
    all_named c.args.event.now c.args.front.now c.loop-key.found.items _ c.loop-key.key-iterator (none_after c) c.loop-key.invariant.so_far
    ∙ ap (λ (cells : Cells). rows_named c.args.event.now c.args.front.now (raw_rows cells)) (c.into_iter-key-iterator.ensures.into_iter_gives ∙ c.range-key-items.ensures.between tt)
    ∙ named_part c.args.event.now c.args.front.now (c.args.event.now.0.0, c.in_ok-to_vec.field-0) c.self.inside.rows.entries refl (c.in_ok-to_vec.ensures.items_if_clones_equal (λ x y e. e))

pub returns-clause-found : goal.returns-clause-found
returns-clause-found c = found_rows c ∙ ap (λ (held : Held). rows_named c.args.event.now c.args.front.now held.rows) c.self.view_is

pub returns-clause-order : goal.returns-clause-order
returns-clause-order c =
    subst (λ rows. IsTrue (ascend comes_before rows)) (sym (found_rows c)) (named_ascend c.args.event.now c.args.front.now _ (raw_ascend c.self.inside.rows.entries c.range-key-items.ensures.ordered))
