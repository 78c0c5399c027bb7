use Rattle.std.proofs.Common.{◌≡◌, drop}
use Rattle.misp_outside.specs.Reporting.{StaysHeld}
use Rattle.misp_store.proofs.Sought.{KeysFound}
use Rattle.misp_store.proofs.names_sought.add_keys.Given as goal

-- what is found, before the rows of the keys that are left; and what is held stays
abbrev pub invariant-loop-key : goal.invariant-loop-key
invariant-loop-key g l = record {
  found : KeysFound (g.K.Keeper.state l.keeper).held l.event l.owner l.fn.found.items l.keys l.found.items (drop l.key-index l.keys);
  held : StaysHeld (g.K.Keeper.state l.fn.keeper).held (g.K.Keeper.state l.keeper).held;
  same : (g.K.Keeper.state l.keeper).faults ≡ (g.K.Keeper.state l.fn.keeper).faults;
}
