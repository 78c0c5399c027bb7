use Rattle.std.proofs.Common.{◌≡◌, ◌*◌, ◌≤◌, filter, is_some, length, map}
use Rattle.std.specs.List.{range_with_len}
use Rattle.misp_generated.specs.Summary.{reply_at}
use Rattle.misp_generated.proofs.summary.added.Given as goal

-- those that were added so far
abbrev pub invariant-loop-index : goal.invariant-loop-index
invariant-loop-index l =
    (l.number ≡ length (filter is_some (map (λ index. reply_at l.lines (2 * index)) (range_with_len 0 l.index)))) × (l.number ≤ l.index)
