use Rattle.std.proofs.Common.{◌≡◌, take, map}
use Rattle.misp_view.specs.Form.{attribute_in}
use Rattle.misp_view.proofs.attributes.attributes.Given as goal

abbrev pub invariant-loop-row : goal.invariant-loop-row
invariant-loop-row l = l.items.items ≡ map (attribute_in l.proposals l.sightings) (map (λ r. r.now) (take l.row-index l.list))
