use Rattle.std.proofs.Common.{◌≡◌, ◌++◌, [], drop}
use Rattle.misp_admin_rows.specs.Rows.{items_in}
use Rattle.misp_store.specs.Sharing.{groups_in}
use Rattle.misp_store.specs.Decoding.{put_onto}
use Rattle.misp_store.proofs.administration.decode_admin.Given as goal

-- what was read is put, and then what is left; the items that were read, and then those that are left
abbrev pub invariant-loop-row : goal.invariant-loop-row
invariant-loop-row l = record {
  groups : put_onto l.groups (groups_in (drop l.row-index l.rows)) ≡ put_onto [] (groups_in l.fn.rows);
  items : l.items.items ++ items_in (drop l.row-index l.rows) ≡ items_in l.fn.rows;
}
