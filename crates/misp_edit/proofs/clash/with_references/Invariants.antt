use Rattle.std.proofs.Common.{◌≡◌, ◌++◌, take, filter_map}
use Rattle.misp_edit.specs.Targets.{target_in}
use Rattle.misp_edit.specs.Uuids.{reference_uuid}
use Rattle.misp_edit.proofs.clash.with_references.Given as goal

abbrev pub invariant-loop-reference : goal.invariant-loop-reference
invariant-loop-reference l = l.uuids.items ≡ l.fn.uuids.items ++ filter_map (reference_uuid (target_in l.targets)) (take l.reference-index l.references)
