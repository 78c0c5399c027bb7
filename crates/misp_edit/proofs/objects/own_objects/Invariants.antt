use Rattle.std.proofs.Common.{take}
use Rattle.misp_elem.specs.Row.{AreRows}
use Rattle.misp_edit.specs.Objects.{AreObjects, has_object_row}
use Rattle.misp_edit.proofs.objects.own_objects.Given as goal

abbrev pub invariant-loop-row : goal.invariant-loop-row
invariant-loop-row l = record {
  found : AreObjects l.objects (has_object_row (take l.row-index l.rows) l.owner l.event l.deleted);
  rows : AreRows (take l.row-index l.rows);
}
