use Rattle.std.proofs.Common.{◌≡◌, drop}
use Rattle.sqlite.specs.Held.{state}
use Rattle.sqlite.specs.State.{HasCleanDisk}
use Rattle.misp_sqlite.specs.Putting.{with_admin_rows}
use Rattle.misp_sqlite.specs.Standing.{IsInside, Steps, is_apart, kept_of}
use Rattle.misp_sqlite.proofs.putting.put_admins.Given as goal

-- the rows that are left come to what all come to at the beginning
abbrev pub invariant-loop-row : goal.invariant-loop-row
invariant-loop-row g l = record {
  same_reference : l.transaction.conn.ghost_name ≡ l.initial.transaction.conn.ghost_name;
  steps : Steps (state g.A.Store l.initial.transaction.conn.now) (state g.A.Store l.transaction.conn.now);
  inside : HasCleanDisk (state g.A.Store l.transaction.conn.now) → IsInside (state g.A.Store l.initial.transaction.conn.now) → IsInside (state g.A.Store l.transaction.conn.now);
  done : HasCleanDisk (state g.A.Store l.transaction.conn.now) → IsInside (state g.A.Store l.initial.transaction.conn.now) →
      with_admin_rows (drop l.row-index l.rows) (kept_of (state g.A.Store l.transaction.conn.now)) ≡ with_admin_rows l.rows (kept_of (state g.A.Store l.initial.transaction.conn.now));
  apart : HasCleanDisk (state g.A.Store l.transaction.conn.now) → IsInside (state g.A.Store l.initial.transaction.conn.now) →
      is_apart (state g.A.Store l.transaction.conn.now) ≡ is_apart (state g.A.Store l.initial.transaction.conn.now);
}
