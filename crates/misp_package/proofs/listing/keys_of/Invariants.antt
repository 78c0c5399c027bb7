use Rattle.std.proofs.Common.{◌≡◌, ◌∷◌, take, map}
use Rattle.misp_manifest.specs.Manifest.{key_stamp}
use Rattle.misp_model.proofs.Prelude.{AreRows}
use Rattle.misp_package.proofs.listing.keys_of.Given as goal

abbrev pub invariant-loop-row : goal.invariant-loop-row
invariant-loop-row l = record {
  keys : l.keys.items ≡ map key_stamp (l.own ∷ map (λ r. r.now) (take l.row-index l.others));
  rows : AreRows (l.own ∷ map (λ r. r.now) (take l.row-index l.others));
}
