use Rattle.std.proofs.Common.{arith}
use Rattle.misp_lists.proofs.Prelude.{common_steps, list_any_more}
use Rattle.misp_copies.proofs.RowLists.{rows_more, rows_all}
use Rattle.misp_edit.specs.Objects.{has_object_row}
use Rattle.misp_edit.proofs.objects.own_objects.Goals as goal

pub loop-row-init : goal.loop-row-init
unfolding has_object_row
loop-row-init c = record { found = λ x. grind (arith, common_steps); rows = tt }

pub loop-row-preserved : goal.loop-row-preserved
unfolding has_object_row
loop-row-preserved c = record {
  found = λ x. grind (arith, common_steps, list_any_more, c.loop-row.invariant.found x);
  rows = rows_more c.args.rows.now c.loop-row.row-index c.row-item.result c.loop-row-test.true c.row-item.is c.loop-row.invariant.rows c.own_object.ensures.row;
}

pub returns-clause-rows : goal.returns-clause-rows
returns-clause-rows c = rows_all c.args.rows.now c.loop-row.row-index c.loop-row-test.false c.loop-row.invariant.rows
