use Rattle.std.proofs.Common.{◌≡◌, ap, sym, ◌∙◌, subst, IsTrue}
use Rattle.misp_lists.specs.Order.{ascend}
use Rattle.misp_outside.specs.Held.{Held, comes_before, rows_of}
use Rattle.misp_outside.specs.Stored.{raw_rows}
use Rattle.misp_outside.proofs.Lists.{more_found, all_found}
use Rattle.misp_outside.proofs.Rows.{next_here, none_here, rows_between, ascend_rows_of, raw_ascend}
use Rattle.misp_outside.proofs.memory.held.Rows.event.Goals as goal

pub loop-key-preserved-in-Continue-1 : goal.loop-key-preserved-in-Continue-1
loop-key-preserved-in-Continue-1 c =
    more_found (λ cells. rows_of c.args.event.now (raw_rows cells)) c.loop-key.found.items _ c.add_row.new.found.items (c.in-Some.key.now, c.in-Some.bytes.now) c.next.new.self c.loop-key.key-iterator _
    (next_here c.args.event.now (c.in-Some.key.now, c.in-Some.bytes.now) c.next.new.self c.if-key-event.true) c.in_ok-add_row.ensures c.in-Some.ensures.steps c.loop-key.invariant

found_rows : (c : goal.In-None) → c.loop-key.found.items ≡ rows_of c.args.event.now (raw_rows c.self.inside.rows.entries)
found_rows c =
    all_found (λ cells. rows_of c.args.event.now (raw_rows cells)) c.loop-key.found.items c.loop-key.key-iterator _ (none_here c.args.event.now) c.in-None.ensures.steps.0 c.loop-key.invariant
    ∙ ap (λ cells. rows_of c.args.event.now (raw_rows cells)) (c.into_iter-key-iterator.ensures.into_iter_gives ∙ c.range-key-items.ensures.between tt)
    ∙ rows_between c.args.event.now _ _ c.span.ensures.whole c.self.inside.rows.entries

pub returns-clause-found : goal.returns-clause-found
returns-clause-found c = found_rows c ∙ ap (λ (held : Held). rows_of c.args.event.now held.rows) c.self.view_is

pub returns-clause-order : goal.returns-clause-order
returns-clause-order c =
    subst (λ rows. IsTrue (ascend comes_before rows)) (sym (found_rows c)) (ascend_rows_of c.args.event.now _ (raw_ascend c.self.inside.rows.entries c.range-key-items.ensures.ordered))
