use Rattle.std.proofs.Common.{take}
use Rattle.misp_copies.specs.Grants.{IsGranted}
use Rattle.misp_copies.proofs.grants.granted.Given as goal

abbrev pub invariant-loop-row : goal.invariant-loop-row
invariant-loop-row l = IsGranted l.elements l.copied l.opened l.who.groups.now l.who.here l.who.org l.told (take l.row-index l.rows)
