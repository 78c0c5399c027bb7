use Rattle.std.proofs.Common.{◌≡◌, drop, map, nat_cmp}
use Rattle.std.specs.BTreeSet.{contains}
use Rattle.misp_edit.specs.Uuids.{clash_in}
use Rattle.misp_edit.proofs.clash.first_used.Given as goal

abbrev pub invariant-loop-uuid : goal.invariant-loop-uuid
invariant-loop-uuid l = clash_in (contains nat_cmp l.used) (map (λ p. p.1) (drop l.uuid-index l.uuids)) ≡ clash_in (contains nat_cmp l.fn.used) (map (λ p. p.1) l.uuids)
