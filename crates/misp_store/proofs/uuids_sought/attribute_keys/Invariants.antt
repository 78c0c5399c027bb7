use Rattle.std.proofs.Common.{◌≡◌, map, take}
use Rattle.misp_store.specs.Seeking.{elem_of}
use Rattle.misp_store.specs.Seen.{attributes_of}
use Rattle.misp_store.proofs.uuids_sought.attribute_keys.Given as goal

abbrev pub invariant-loop-number : goal.invariant-loop-number
invariant-loop-number l = l.keys.items ≡ attributes_of l.event (map elem_of (take l.number-index l.numbers))
