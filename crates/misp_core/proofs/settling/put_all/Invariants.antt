use Rattle.std.proofs.Common.{◌≡◌, ◌+◌, length}
use Rattle.misp_groups.specs.Groups.{put_groups}
use Rattle.misp_core.proofs.settling.put_all.Given as goal

-- the first are put, and there is memory for the others
abbrev pub invariant-loop-group : goal.invariant-loop-group
invariant-loop-group l = record {
  put : l.room.groups ≡ put_groups l.fn.room.groups l.yielded;
  spare : l.room.spare + length l.yielded ≡ l.fn.room.spare;
}
