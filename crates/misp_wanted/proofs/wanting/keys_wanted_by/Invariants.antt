use Rattle.std.proofs.Common.{◌≡◌, take, map, filter}
use Rattle.misp_wanted.specs.Wanting.{is_wanted_by}
use Rattle.misp_wanted.proofs.wanting.keys_wanted_by.Given as goal

abbrev pub invariant-loop-told : goal.invariant-loop-told
invariant-loop-told l = l.wanted.items ≡ map (λ k. k.key) (filter (is_wanted_by l.landing) (take l.told-index l.keys))
