use Rattle.std.proofs.Common.{◌≡◌, map, take, drop}
use Rattle.misp_store.specs.Sharing.{group_row, AreStorable}
use Rattle.misp_store.proofs.sharing.group_rows.Given as goal

-- the first have their rows, and where the others are storable, all are
abbrev pub invariant-loop-group : goal.invariant-loop-group
invariant-loop-group l = record {
  rows : l.rows.items ≡ map group_row (take l.group-index l.groups);
  storable : AreStorable (drop l.group-index l.groups) → AreStorable l.groups;
}
