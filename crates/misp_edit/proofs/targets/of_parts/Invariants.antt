use Rattle.std.proofs.Common.{map, take}
use Rattle.misp_edit.specs.Targets.{AreTargets}
use Rattle.misp_edit.proofs.targets.of_parts.Given as goal

abbrev pub invariant-loop-draft : goal.invariant-loop-draft
invariant-loop-draft l = AreTargets l.targets (map (λ d. d.place) (take l.draft-index l.parts))
