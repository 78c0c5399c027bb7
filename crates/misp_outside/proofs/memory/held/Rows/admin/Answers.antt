use Rattle.std.proofs.Common.{◌≡◌, ap, sym, ◌∙◌, subst, rules, IsTrue}
use Rattle.misp_lists.specs.Order.{ascend}
use Rattle.misp_outside.specs.Held.{Held, admin_before}
use Rattle.misp_outside.specs.Stored.{admin_rows}
use Rattle.misp_outside.proofs.Lists.{more_found, all_found}
use Rattle.misp_outside.proofs.Rows.{next_admin, no_admins, admin_ascend}
use Rattle.misp_outside.proofs.memory.held.Rows.admin.Goals as goal

pub loop-key-preserved : goal.loop-key-preserved
loop-key-preserved c =
    more_found admin_rows c.loop-key.found.items _ c.add_admin.new.found.items (c.in-Some.key.now, c.in-Some.bytes.now) c.next.new.self c.loop-key.key-iterator _
    (next_admin (c.in-Some.key.now, c.in-Some.bytes.now) c.next.new.self) c.in_ok-add_admin.ensures c.in-Some.ensures.steps c.loop-key.invariant

found_admin : (c : goal.In-None) → c.loop-key.found.items ≡ admin_rows c.self.inside.admin.entries
found_admin c =
    all_found admin_rows c.loop-key.found.items c.loop-key.key-iterator _ no_admins c.in-None.ensures.steps.0 c.loop-key.invariant
    ∙ ap admin_rows c.into_iter-key-iterator.ensures.into_iter_gives.0

pub returns-clause-found : goal.returns-clause-found
returns-clause-found c = found_admin c ∙ ap (λ (held : Held). held.admin) c.self.view_is

pub returns-clause-order : goal.returns-clause-order
returns-clause-order c =
    subst (λ rows. IsTrue (ascend admin_before rows)) (sym (found_admin c)) (admin_ascend c.self.inside.admin.entries (search rules))
