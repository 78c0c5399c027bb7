use Rattle.std.proofs.Common.{◌≡◌, ◌∷◌, take, map}
use Rattle.misp_model.proofs.Prelude.{AreRows}
use Rattle.misp_package.specs.Packing.{on_wire}
use Rattle.misp_package.proofs.packing.all_on_wire.Given as goal

abbrev pub invariant-loop-row : goal.invariant-loop-row
invariant-loop-row l = record {
  wired : l.rows.items ≡ map (on_wire l.way) (l.own ∷ map (λ r. r.now) (take l.row-index l.others));
  rows : AreRows (map (on_wire l.way) (l.own ∷ map (λ r. r.now) (take l.row-index l.others)));
}
