use Rattle.std.proofs.Common.{◌≡◌, ◌++◌, length, map}
use Rattle.misp_script.specs.Lines.{lines_of}
use Rattle.misp_generated.proofs.lines.Lines.of.Given as goal

-- the lines so far, and those of what is left
abbrev pub invariant-loop-rest : goal.invariant-loop-rest
invariant-loop-rest l = map (λ line. line.now) l.lines.items ++ lines_of l.rest ≡ lines_of l.fn.text

abbrev pub decreases-loop-rest : goal.decreases-loop-rest
decreases-loop-rest l = length l.rest
