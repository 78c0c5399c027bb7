-- What a key hangs on.
use Rattle.std.specs.Prelude.{List, [], ◌∷◌, ◌++◌}
use Rattle.misp_ids.specs.declared.uid.EventId.{EventId}
use Rattle.misp_elem.specs.declared.key.Place.{Place}
use Rattle.misp_elem.specs.declared.key.Place.TheVariants.{Event, Object, Attribute, ObjectAttribute}
use Rattle.misp_elem.specs.declared.key.KeyForm.{KeyForm}
use Rattle.misp_elem.specs.declared.key.KeyForm.TheVariants.{Element, Reference, Proposal, Verdict, Sighting}

-- the event of a key
unfoldable pub event_of : KeyForm → EventId
event_of (Element e p) = e
event_of (Reference e x t u) = e
event_of (Proposal e n) = e
event_of (Verdict e n i o) = e
event_of (Sighting e t i o u) = e

-- the key of an event itself
unfoldable pub event_key : EventId → KeyForm
event_key e = Element e Event

-- what stands above a place of an event
unfoldable pub above : EventId → Place → List KeyForm
above e Event = []
above e (Object x) = Element e Event ∷ []
above e (Attribute a) = Element e Event ∷ []
above e (ObjectAttribute x a) = Element e Event ∷ Element e (Object x) ∷ []

-- what stands above a place, and the element at that place
unfoldable pub up_to : EventId → Place → List KeyForm
up_to e p = above e p ++ Element e p ∷ []

-- the parents of a key: its event, its object, its target and the target's parents
unfoldable pub parents : KeyForm → List KeyForm
parents (Element e p) = above e p
parents (Reference e x t u) = Element e (Object x) ∷ up_to e t
parents (Proposal e n) = up_to e n.target
parents (Verdict e n i o) = up_to e n.target
parents (Sighting e t i o u) = up_to e t
