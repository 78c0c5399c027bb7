-- A version that was just written, as a row.
use Rattle.std.proofs.Common.{◌≡◌, false, ap}
use Rattle.misp_model.specs.Version.{Version, Written, is_handed_in}

pub not_handed_in : (v : Version) → v.came ≡ Written → is_handed_in v.came ≡ false
unfolding is_handed_in
not_handed_in v h = ap is_handed_in h
