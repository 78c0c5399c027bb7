use Rattle.std.proofs.Common.{◌≡◌, ◌∷◌, take, map}
use Rattle.misp_package.specs.Packing.{AreNumberedFrom, on_wire, rows_in}
use Rattle.misp_package.proofs.packing.packed.Given as goal

abbrev pub invariant-loop-part : goal.invariant-loop-part
invariant-loop-part l = record {
  number : l.number ≡ l.part-index;
  packed : map (λ p. p.rows) l.packages.items ≡ map (λ part. map (on_wire l.way) (l.own ∷ part)) (rows_in (take l.part-index l.parts));
  numbered : AreNumberedFrom 0 l.event l.count l.packages.items;
}
