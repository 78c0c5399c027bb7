use Rattle.std.proofs.Common.{◌≡◌, ℕ, take, nat_cmp}
use Rattle.std.specs.BTreeSet.{contains}
use Rattle.misp_edit.specs.Uuids.{is_among}
use Rattle.misp_edit.proofs.clash.set_of.Given as goal

abbrev pub invariant-loop-uuid : goal.invariant-loop-uuid
invariant-loop-uuid l = (u : ℕ) → contains nat_cmp l.set u ≡ is_among (take l.uuid-index l.uuids) u
