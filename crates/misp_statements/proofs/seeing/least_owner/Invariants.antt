use Rattle.std.proofs.Common.{take}
use Rattle.misp_statements.specs.Judging.{IsLeastOwner}
use Rattle.misp_statements.proofs.seeing.least_owner.Given as goal

abbrev pub invariant-loop-row : goal.invariant-loop-row
invariant-loop-row l = IsLeastOwner l.least l.rows l.who.groups.now l.who.here l.who.org l.key (take l.row-index l.rows)
