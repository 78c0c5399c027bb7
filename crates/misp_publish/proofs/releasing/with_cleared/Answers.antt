use Rattle.std.proofs.Common.{◌∙◌, sym}
use Rattle.misp_elem.proofs.RowLists.{are_rows_push}
use Rattle.misp_publish.specs.Release.{cleared_row, is_released}
use Rattle.misp_publish.proofs.ReleaseLemmas.{one_kept, one_left}
use Rattle.misp_publish.proofs.releasing.with_cleared.Goals.{then-is_released+in_ok-cleared+in_ok-push, else-is_released}
use Rattle.misp_publish.proofs.releasing.with_cleared.Goals as goal

pub loop-row-preserved : goal.loop-row-preserved
loop-row-preserved c = elim c.if-is_released.branch [
  | then-is_released+in_ok-cleared+in_ok-push w ↦ rw (w.made-is, w.in_ok-push.ensures.items, w.in_ok-cleared.ensures.value) record {
    so_far =
        one_kept cleared_row (is_released c.args.owner.now c.args.event.now) c.args.made.items c.args.rows.now c.loop-row.row-index c.row-item.result c.loop-row-test.true c.row-item.is c.loop-row.made.items
        (sym c.is_released.ensures ∙ w.if-is_released.true) c.loop-row.invariant.so_far;
    are_rows = are_rows_push c.loop-row.made.items _ c.loop-row.invariant.are_rows (rw (← w.in_ok-cleared.ensures.value) w.in_ok-cleared.ensures.is_row);
  }
  | else-is_released w ↦ rw w.made-is record {
    so_far =
        one_left cleared_row (is_released c.args.owner.now c.args.event.now) c.args.made.items c.args.rows.now c.loop-row.row-index c.row-item.result c.loop-row-test.true c.row-item.is c.loop-row.made.items
        (sym c.is_released.ensures ∙ w.if-is_released.false) c.loop-row.invariant.so_far;
    are_rows = c.loop-row.invariant.are_rows;
  }
]
