use Rattle.std.proofs.Common.{◌≡◌, take, filter}
use Rattle.misp_model.specs.Answers.{concerns}
use Rattle.misp_view.proofs.listing.concerning.Given as goal

abbrev pub invariant-loop-group : goal.invariant-loop-group
invariant-loop-group l = l.some.items ≡ filter (concerns l.org l.here) (take l.group-index l.groups)
