use Rattle.std.proofs.Common.{◌≡◌, take}
use Rattle.misp_script.proofs.network.copied.Given as goal

abbrev pub invariant-loop-org : goal.invariant-loop-org
invariant-loop-org l = l.copy.items ≡ take l.org-index l.orgs
