use Rattle.std.proofs.Common.{◌≡◌, map, take}
use Rattle.misp_script.proofs.directory.orgs_of.Given as goal

abbrev pub invariant-loop-org : goal.invariant-loop-org
invariant-loop-org l = l.orgs.items ≡ map (λ org. org.uuid) (take l.org-index l.org-items)
