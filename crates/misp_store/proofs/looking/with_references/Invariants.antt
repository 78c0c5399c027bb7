use Rattle.std.proofs.Common.{◌≡◌, ◌++◌, map, take}
use Rattle.misp_lists.specs.Prelude.{AllByRecursion}
use Rattle.misp_ids.specs.Uid.{IsUid}
use Rattle.misp_store.proofs.looking.with_references.Given as goal

abbrev pub invariant-loop-reference : goal.invariant-loop-reference
invariant-loop-reference l = record {
  value : l.uuids.items ≡ l.fn.uuids.items ++ map (λ r. r.uuid) (take l.reference-index l.references);
  uids : AllByRecursion (λ u. IsUid u.0) l.uuids.items;
}
