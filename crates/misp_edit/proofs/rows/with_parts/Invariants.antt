use Rattle.std.proofs.Common.{◌≡◌, ◌++◌, map}
use Rattle.misp_elem.specs.Row.{AreRows}
use Rattle.misp_edit.specs.Rows.{part_row}
use Rattle.misp_edit.proofs.rows.with_parts.Given as goal

abbrev pub invariant-loop-draft : goal.invariant-loop-draft
invariant-loop-draft l = record {
  so_far : l.rows.items ≡ l.fn.rows.items ++ map (part_row l.owner l.event l.now) l.yielded;
  are_rows : AreRows l.rows.items;
}
