use Rattle.std.proofs.Common.{◌∙◌}
use Rattle.misp_outside.proofs.Rows.{more_admin}
use Rattle.misp_outside.proofs.memory.held.put_admins.Goals as goal

pub loop-row-preserved : goal.loop-row-preserved
loop-row-preserved c = record {
  put = more_admin c.in-Some.row _ c.next.new.self.rest.items _ c.loop-row.table.entries c.put.new.table.entries _ c.in-Some.ensures.steps.0 c.into_vec.ensures c.in_ok-put.ensures.ordered c.in_ok-put.ensures.put c.loop-row.invariant.put;
  undo = c.put.ensures.undo ∙ c.loop-row.invariant.undo;
}
