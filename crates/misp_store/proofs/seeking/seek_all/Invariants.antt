use Rattle.std.proofs.Common.{◌≡◌}
use Rattle.misp_outside.specs.Reporting.{StaysHeld}
use Rattle.misp_store.proofs.Sought.{AscendsOnce, OwnersFound, owners_left}
use Rattle.misp_store.proofs.seeking.seek_all.Given as goal

-- what is found, before what is looked at of the owners that are left; and what is held stays
abbrev pub invariant-loop-least : goal.invariant-loop-least
invariant-loop-least g l = record {
  found : OwnersFound l.looks (g.K.Keeper.state l.keeper).held l.found.items l.least;
  order : AscendsOnce (g.K.Keeper.state l.keeper).held l.least;
  held : StaysHeld (g.K.Keeper.state l.fn.keeper).held (g.K.Keeper.state l.keeper).held;
  same : (g.K.Keeper.state l.keeper).faults ≡ (g.K.Keeper.state l.fn.keeper).faults;
}

abbrev pub decreases-loop-least : goal.decreases-loop-least
decreases-loop-least g l = owners_left l.least
