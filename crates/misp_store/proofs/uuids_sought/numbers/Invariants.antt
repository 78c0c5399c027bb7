use Rattle.std.proofs.Common.{◌≡◌, ◌<◌, ◌^◌, map, take}
use Rattle.misp_lists.specs.Prelude.{AllByRecursion}
use Rattle.misp_store.proofs.uuids_sought.numbers.Given as goal

abbrev pub invariant-loop-uuid : goal.invariant-loop-uuid
invariant-loop-uuid l = record {
  value : l.numbers.items ≡ map (λ u. u.0.0) (take l.uuid-index l.uuids);
  fit : AllByRecursion (λ n. n < 2 ^ 128) l.numbers.items;
}
