use Rattle.std.proofs.Common.{sym, ◌∙◌}
use Rattle.misp_outside.specs.Held.{admin_name, admin_before}
use Rattle.misp_outside.proofs.Names.{order, total}
use Rattle.misp_sqlite.proofs.Ascending.{ascend_last, ascend_one, no_last, none_of}
use Rattle.misp_sqlite.proofs.loading.push_admin.Goals.{in-Some+else-not-admin_before, in_default}
use Rattle.misp_sqlite.proofs.loading.push_admin.Goals as goal

pub returns-clause-order : goal.returns-clause-order
unfolding admin_before
returns-clause-order c = elim c.match-last.branch [
  | in-Some+else-not-admin_before w ↦
      rw c.in_ok-push.ensures.items
      (ascend_last (order admin_name) (total admin_name) c.args.found.now.items w.in-Some.last.now c.args.admin c.requires
      (rw c.deref.ensures.value at (sym w.in-Some.ensures.value)) (sym w.admin_before.ensures ∙ w.if-not-admin_before.false))
  | in_default w ↦
      rw c.in_ok-push.ensures.items
      (ascend_one (order admin_name) (total admin_name) c.args.found.now.items c.args.admin
      (no_last c.args.found.now.items (rw c.deref.ensures.value at (sym (rw (none_of c.last.result w.in_default.not-Some) at c.last.ensures.value)))))
]
