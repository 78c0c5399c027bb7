use Rattle.std.proofs.Common.{arith, subst}
use Rattle.misp_lists.proofs.Prelude.{common_steps, list_any_more}
use Rattle.misp_model.proofs.Prelude.{IsRow, is_row_of}
use Rattle.misp_copies.proofs.RowLists.{rows_more}
use Rattle.misp_copies.proofs.copy_view.deletions.Goals as goal

pub loop-row-preserved : goal.loop-row-preserved
unfolding is_row_of
loop-row-preserved c = record {
  found = λ w e p. grind (arith, common_steps, list_any_more, c.loop-row.invariant.found w e p, c.in_ok-add.ensures w e p);
  rows = rows_more c.args.rows.now c.loop-row.row-index c.row-item.result c.loop-row-test.true c.row-item.is c.loop-row.invariant.rows (subst IsRow c.row.view_is c.row.invariant);
}
