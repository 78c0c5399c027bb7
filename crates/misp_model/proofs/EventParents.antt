-- The parents of a key are of its event.
use Rattle.std.proofs.Common.{◌≡◌, true, refl}
use Rattle.std.proofs.lemmas.Bool.{and_from}
use Rattle.misp_elem.proofs.Same.{of_event}
use Rattle.misp_model.specs.Prelude.{Element, EventId, Key, Place, Proposal, Reference, Sighting, Verdict, above, event_of, list_all, parents, same_event, up_to}

above_of : (e f : EventId) (p : Place) → same_event f e ≡ true → list_all (of_event e) (above f p) ≡ true
unfolding of_event event_of above
above_of e f Place.Event h = refl
above_of e f (Place.Object x) h = and_from _ _ h refl
above_of e f (Place.Attribute x) h = and_from _ _ h refl
above_of e f (Place.ObjectAttribute x a) h = and_from _ _ h (and_from _ _ h refl)

up_to_of : (e f : EventId) (p : Place) → same_event f e ≡ true → list_all (of_event e) (up_to f p) ≡ true
unfolding of_event event_of above up_to
up_to_of e f Place.Event h = and_from _ _ h refl
up_to_of e f (Place.Object x) h = and_from _ _ h (and_from _ _ h refl)
up_to_of e f (Place.Attribute x) h = and_from _ _ h (and_from _ _ h refl)
up_to_of e f (Place.ObjectAttribute x a) h = and_from _ _ h (and_from _ _ h (and_from _ _ h refl))

pub parents_of : (e : EventId) (k : Key) → of_event e k ≡ true → list_all (of_event e) (parents k) ≡ true
unfolding of_event event_of parents
parents_of e (Element f p) h = above_of e f p h
parents_of e (Reference f x t u) h = and_from _ _ h (up_to_of e f t h)
parents_of e (Proposal f n) h = up_to_of e f n.target h
parents_of e (Verdict f n i o) h = up_to_of e f n.target h
parents_of e (Sighting f t i o u) h = up_to_of e f t h
