use Rattle.std.proofs.Common.{◌≡◌, ◌++◌, take, map, filter}
use Rattle.misp_elem.specs.Row.{AreRows}
use Rattle.misp_publish.specs.Release.{cleared_row, is_released}
use Rattle.misp_publish.proofs.releasing.with_cleared.Given as goal

abbrev pub invariant-loop-row : goal.invariant-loop-row
invariant-loop-row l = record {
  so_far : l.made.items ≡ l.fn.made.items ++ map cleared_row (filter (is_released l.owner l.event) (take l.row-index l.rows));
  are_rows : AreRows l.made.items;
}
