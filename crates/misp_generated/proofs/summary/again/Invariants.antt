use Rattle.std.proofs.Common.{◌≡◌, ◌+◌, ◌-◌, ◌*◌, ◌^◌, ◌≤◌, map, option_map}
use Rattle.std.specs.Prelude.{codes}
use Rattle.std.specs.List.{range_with_len}
use Rattle.misp_generated.specs.Summary.{again, count_at, sum_of}
use Rattle.misp_generated.proofs.summary.again.Given as goal

-- the sum so far and that of the pulls which are left are the sum of all
abbrev pub invariant-loop-place : goal.invariant-loop-place
invariant-loop-place l =
    (option_map (λ rest. l.sum + rest) (sum_of (map (λ place. count_at l.lines place (codes "elements")) (range_with_len l.place (l.first + 4 - l.place)))) ≡ again l.lines (2 * l.count + 4))
    × (l.sum ≤ (l.place - l.first) * 2 ^ 64)
