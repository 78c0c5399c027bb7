use Rattle.std.proofs.Common.{◌≡◌, ◌-◌, length, find}
use Rattle.std.specs.List.{range_with_len}
use Rattle.misp_script.specs.Source.{begins_mark, mark_at}
use Rattle.misp_script.proofs.source.mark_at.Given as goal

-- the first mark from here on is the first of all
abbrev pub invariant-loop-at : goal.invariant-loop-at
invariant-loop-at l = find (begins_mark l.source) (range_with_len l.at (length l.source - l.at)) ≡ mark_at l.source
