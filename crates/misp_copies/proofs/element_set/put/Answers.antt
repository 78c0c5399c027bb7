use Rattle.misp_elem.specs.Key.{place_kind}
use Rattle.misp_copies.specs.ElementSet.{first_of, second_of}
use Rattle.misp_copies.proofs.ElementSets.{has_one_more}
use Rattle.misp_copies.proofs.element_set.put.Goals as goal

pub returns : goal.returns
returns c = λ w e p.
    has_one_more c.args.elements.now c.insert.new.self c.args.owner.now w c.args.event.now e c.args.place.now p c.kind.result c.first.result c.second.result
    c.kind.ensures c.first.ensures c.second.ensures
    (c.in_ok-insert.ensures.updates.0 (w.0.0, e.0.0, place_kind p, first_of p, second_of p))
