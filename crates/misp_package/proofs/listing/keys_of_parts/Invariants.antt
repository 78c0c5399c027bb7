use Rattle.std.proofs.Common.{◌≡◌, ◌∷◌, take, map}
use Rattle.misp_manifest.specs.Manifest.{key_stamp}
use Rattle.misp_model.proofs.Prelude.{AllByRecursion, AreRows}
use Rattle.misp_package.specs.Packing.{rows_in}
use Rattle.misp_package.proofs.listing.keys_of_parts.Given as goal

abbrev pub invariant-loop-part : goal.invariant-loop-part
invariant-loop-part l = record {
  keys : l.keys.items ≡ map (λ part. map key_stamp (l.own ∷ part)) (rows_in (take l.part-index l.parts));
  rows : AllByRecursion (λ part. AreRows (l.own ∷ part)) (rows_in (take l.part-index l.parts));
}
