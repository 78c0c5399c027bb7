use Rattle.std.proofs.Common.{◌≡◌, take, map, filter}
use Rattle.std.specs.List.Sorted.{IsStrictlySortedBy}
use Rattle.misp_package.specs.Packing.{key_order}
use Rattle.misp_wanted.specs.Wanting.{is_wanted_at}
use Rattle.misp_wanted.proofs.wanting.keys_wanted_at.Given as goal

abbrev pub invariant-loop-told : goal.invariant-loop-told
invariant-loop-told l =
    IsStrictlySortedBy key_order l.held → l.wanted.items ≡ map (λ k. k.key) (filter (is_wanted_at l.here l.state l.held l.owner) (take l.told-index l.keys))
