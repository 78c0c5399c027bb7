use Rattle.std.proofs.Common.{take}
use Rattle.misp_copies.specs.Grants.{IsOpenings}
use Rattle.misp_copies.proofs.grants.openings.Given as goal

abbrev pub invariant-loop-row : goal.invariant-loop-row
invariant-loop-row l = IsOpenings l.elements l.who.groups.now l.who.here l.who.org l.linked (take l.row-index l.rows)
