use Rattle.std.proofs.Common.{subst}
use Rattle.misp_model.proofs.Prelude.{IsRow}
use Rattle.misp_copies.proofs.RowLists.{rows_more}
use Rattle.misp_core.proofs.kept_landing.are_rows.Goals as goal

pub loop-row-preserved : goal.loop-row-preserved
loop-row-preserved c = rows_more c.args.rows.now c.loop-row.row-index c.row-item.result c.loop-row-test.true c.row-item.is c.loop-row.invariant (subst IsRow c.row.view_is c.row.invariant)
