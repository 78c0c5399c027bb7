use Rattle.std.proofs.Common.{take}
use Rattle.std.specs.List.{AllByRecursion}
use Rattle.misp_core.specs.Callers.{IsOwned}
use Rattle.misp_core.proofs.callers.keys_are_owned.Given as goal

-- the first are of organisations
abbrev pub invariant-loop-held : goal.invariant-loop-held
invariant-loop-held l = AllByRecursion IsOwned (take l.held-index l.keys)
