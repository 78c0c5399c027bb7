use Rattle.std.proofs.Common.{◌≡◌, take, map}
use Rattle.misp_view.specs.Form.{object_in}
use Rattle.misp_view.specs.Parts.{Rises}
use Rattle.misp_view.proofs.objects.objects.Given as goal

abbrev pub invariant-loop-row : goal.invariant-loop-row
invariant-loop-row l =
    Rises l.inner → Rises l.references →
    l.items.items ≡ map (object_in (map (λ r. r.now) l.inner) (map (λ r. r.now) l.references) l.proposals l.sightings) (map (λ r. r.now) (take l.row-index l.list))
