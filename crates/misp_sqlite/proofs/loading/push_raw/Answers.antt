use Rattle.std.proofs.Common.{sym, ◌∙◌}
use Rattle.misp_outside.specs.Held.{raw_name, comes_before}
use Rattle.misp_outside.proofs.Names.{order, total}
use Rattle.misp_sqlite.proofs.Ascending.{ascend_last, ascend_one, no_last, none_of}
use Rattle.misp_sqlite.proofs.loading.push_raw.Goals.{in-Some+else-not-comes_before, in_default}
use Rattle.misp_sqlite.proofs.loading.push_raw.Goals as goal

pub returns-clause-order : goal.returns-clause-order
unfolding comes_before
returns-clause-order c = elim c.match-last.branch [
  | in-Some+else-not-comes_before w ↦
      rw c.in_ok-push.ensures.items
      (ascend_last (order raw_name) (total raw_name) c.args.found.now.items w.in-Some.last.now c.args.raw c.requires
      (rw c.deref.ensures.value at (sym w.in-Some.ensures.value)) (sym w.comes_before.ensures ∙ w.if-not-comes_before.false))
  | in_default w ↦
      rw c.in_ok-push.ensures.items
      (ascend_one (order raw_name) (total raw_name) c.args.found.now.items c.args.raw
      (no_last c.args.found.now.items (rw c.deref.ensures.value at (sym (rw (none_of c.last.result w.in_default.not-Some) at c.last.ensures.value)))))
]
