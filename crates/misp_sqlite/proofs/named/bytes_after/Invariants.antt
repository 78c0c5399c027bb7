use Rattle.std.proofs.Common.{◌≡◌, length}
use Rattle.misp_sqlite.specs.Ranges.{bytes_after}
use Rattle.misp_sqlite.proofs.named.bytes_after.Given as goal

-- after the bytes that are left comes what comes after all
abbrev pub invariant-loop-last : goal.invariant-loop-last
invariant-loop-last l = bytes_after l.after.items ≡ bytes_after l.front

abbrev pub decreases-loop-last : goal.decreases-loop-last
decreases-loop-last l = length l.after.items
