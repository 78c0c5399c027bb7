use Rattle.std.proofs.Common.{take}
use Rattle.misp_model.proofs.Prelude.{AreRows, is_deleted}
use Rattle.misp_copies.specs.Grants.{IsElementSet}
use Rattle.misp_copies.proofs.copy_view.deletions.Given as goal

abbrev pub invariant-loop-row : goal.invariant-loop-row
invariant-loop-row l = record {
  found : IsElementSet l.elements is_deleted (take l.row-index l.rows);
  rows : AreRows (take l.row-index l.rows);
}
