-- What leads to an element has keys where the element has one.
use Rattle.std.proofs.Common.{refl}
use Rattle.misp_elem.specs.Key.{IsKey}
use Rattle.misp_elem.specs.Parents.{above, up_to}
use Rattle.misp_model.proofs.Prelude.{AllByRecursion, Element, EventId, Place}

pub keys_up_to : (e : EventId) (p : Place) → IsKey (Element e p) → AllByRecursion IsKey (up_to e p)
unfolding up_to above
keys_up_to e Place.Event is = (is, tt)
keys_up_to e (Place.Object x) is = ((is.0, (refl, tt)), (is, tt))
keys_up_to e (Place.Attribute a) is = ((is.0, (refl, tt)), (is, tt))
keys_up_to e (Place.ObjectAttribute x a) is = ((is.0, (refl, tt)), ((is.0, (refl, is.1.1.0)), (is, tt)))
