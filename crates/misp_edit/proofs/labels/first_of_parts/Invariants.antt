use Rattle.std.proofs.Common.{◌≡◌, map, drop, find}
use Rattle.misp_edit.specs.Labels.{is_unusable}
use Rattle.misp_edit.proofs.labels.first_of_parts.Given as goal

abbrev pub invariant-loop-draft : goal.invariant-loop-draft
invariant-loop-draft l =
    find (is_unusable l.groups l.here l.org) (map (λ d. d.label) (drop l.draft-index l.parts))
    ≡ find (is_unusable l.groups l.here l.org) (map (λ d. d.label) l.parts)
