use Rattle.std.proofs.Common.{◌≡◌, ◌++◌, map, take}
use Rattle.misp_lists.specs.Prelude.{AllByRecursion}
use Rattle.misp_ids.specs.Uid.{IsUid}
use Rattle.misp_model.specs.Looking.{elem_at}
use Rattle.misp_store.proofs.looking.with_parts.Given as goal

abbrev pub invariant-loop-part : goal.invariant-loop-part
invariant-loop-part l = record {
  value : l.uuids.items ≡ l.fn.uuids.items ++ map (λ d. elem_at l.event d.place) (take l.part-index l.parts);
  uids : AllByRecursion (λ u. IsUid u.0) l.uuids.items;
}
