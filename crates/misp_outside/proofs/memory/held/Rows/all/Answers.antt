use Rattle.std.proofs.Common.{◌≡◌, ap, sym, ◌∙◌, subst, rules, IsTrue}
use Rattle.misp_lists.specs.Order.{ascend}
use Rattle.misp_outside.specs.Held.{Held, comes_before}
use Rattle.misp_outside.specs.Stored.{raw_rows}
use Rattle.misp_outside.proofs.Lists.{more_found, all_found}
use Rattle.misp_outside.proofs.Rows.{next_row, no_rows, raw_ascend}
use Rattle.misp_outside.proofs.memory.held.Rows.all.Goals as goal

pub loop-key-preserved : goal.loop-key-preserved
loop-key-preserved c =
    more_found raw_rows c.loop-key.found.items _ c.add_row.new.found.items (c.in-Some.key.now, c.in-Some.bytes.now) c.next.new.self c.loop-key.key-iterator _
    (next_row (c.in-Some.key.now, c.in-Some.bytes.now) c.next.new.self) c.in_ok-add_row.ensures c.in-Some.ensures.steps c.loop-key.invariant

found_rows : (c : goal.In-None) → c.loop-key.found.items ≡ raw_rows c.self.inside.rows.entries
found_rows c =
    all_found raw_rows c.loop-key.found.items c.loop-key.key-iterator _ no_rows c.in-None.ensures.steps.0 c.loop-key.invariant
    ∙ ap raw_rows c.into_iter-key-iterator.ensures.into_iter_gives.0

pub returns-clause-found : goal.returns-clause-found
returns-clause-found c = found_rows c ∙ ap (λ (held : Held). held.rows) c.self.view_is

pub returns-clause-order : goal.returns-clause-order
returns-clause-order c =
    subst (λ rows. IsTrue (ascend comes_before rows)) (sym (found_rows c)) (raw_ascend c.self.inside.rows.entries (search rules))
