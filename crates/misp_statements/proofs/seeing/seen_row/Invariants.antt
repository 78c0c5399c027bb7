use Rattle.std.proofs.Common.{◌≡◌, drop, find}
use Rattle.misp_statements.specs.Judging.{is_seen}
use Rattle.misp_statements.proofs.seeing.seen_row.Given as goal

abbrev pub invariant-loop-row : goal.invariant-loop-row
invariant-loop-row l =
    find (is_seen l.rows l.who.groups.now l.who.here l.who.org l.key) (drop l.row-index l.rows) ≡ find (is_seen l.rows l.who.groups.now l.who.here l.who.org l.key) l.rows
