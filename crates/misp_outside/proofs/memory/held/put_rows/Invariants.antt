use Rattle.std.proofs.Common.{◌≡◌, nat_cmp}
use Rattle.misp_outside.specs.Held.{put_rows}
use Rattle.misp_outside.specs.Stored.{raw_rows, key_order, undone}
use Rattle.misp_outside.proofs.memory.held.put_rows.Given as goal

-- what is left, put among what is there, and what is to be undone
abbrev pub invariant-loop-row : goal.invariant-loop-row
invariant-loop-row l = record {
  put : put_rows l.row-iterator.rest.items (raw_rows l.table.entries) ≡ put_rows l.fn.rows.items (raw_rows l.fn.table.entries);
  undo : undone (key_order nat_cmp) l.before.items l.table.entries ≡ undone (key_order nat_cmp) l.fn.before.items l.fn.table.entries;
}
