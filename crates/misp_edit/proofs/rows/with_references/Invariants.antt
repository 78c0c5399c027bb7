use Rattle.std.proofs.Common.{◌≡◌, ◌++◌, filter_map}
use Rattle.misp_elem.specs.Row.{AreRows}
use Rattle.misp_edit.specs.Targets.{target_in}
use Rattle.misp_edit.specs.Rows.{row_with_target}
use Rattle.misp_edit.proofs.rows.with_references.Given as goal

abbrev pub invariant-loop-draft : goal.invariant-loop-draft
invariant-loop-draft l = record {
  so_far : l.rows.items ≡ l.fn.rows.items ++ filter_map (row_with_target (target_in l.targets) l.owner l.event l.now) l.yielded;
  are_rows : AreRows l.rows.items;
}
