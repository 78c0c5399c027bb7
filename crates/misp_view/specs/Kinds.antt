-- What shows of a copy, by its kinds.
use Rattle.std.specs.Prelude.{Bool, false, ◌&&◌}
use Rattle.misp_model.specs.Prelude.{Attribute, BTreeSet, Element, Event, EventId, Key, Object, ObjectAttribute, OrgId, Proposal, Reference, Row, Sighting, Verdict, same_event}
use Rattle.misp_model.specs.Shown.{is_plain_attribute, is_object}
use Rattle.misp_copies.specs.declared.copy_view.CopyView.{CopyView}
use Rattle.misp_copies.specs.ElementSet.{Numbers, has_element}
use Rattle.misp_copies.specs.CopyView.{shows_in}
use Rattle.misp_view.specs.declared.kinds.Kind.{Kind}

-- an attribute in some object of the event
unfoldable pub is_inner : EventId → Key → Bool
is_inner e (Element f (ObjectAttribute x a)) = same_event f e
is_inner e (Element f Event) = false
is_inner e (Element f (Object x)) = false
is_inner e (Element f (Attribute a)) = false
is_inner e (Reference f x t u) = false
is_inner e (Proposal f n) = false
is_inner e (Verdict f n i o) = false
is_inner e (Sighting f t i o u) = false

-- a reference of the event, whose target shows
unfoldable pub is_seen_reference : BTreeSet Numbers → OrgId → EventId → Key → Bool
is_seen_reference seen w e (Reference f x t u) = same_event f e && has_element seen w e t
is_seen_reference seen w e (Element f p) = false
is_seen_reference seen w e (Proposal f n) = false
is_seen_reference seen w e (Verdict f n i o) = false
is_seen_reference seen w e (Sighting f t i o u) = false

-- the key is of this kind
unfoldable pub is_of_kind : Kind → BTreeSet Numbers → OrgId → EventId → Key → Bool
is_of_kind Kind.Attribute seen w e k = is_plain_attribute e k
is_of_kind Kind.Object seen w e k = is_object e k
is_of_kind Kind.Inner seen w e k = is_inner e k
is_of_kind Kind.Reference seen w e k = is_seen_reference seen w e k

-- it shows, and is of this kind
unfoldable pub is_one : Kind → CopyView → BTreeSet Numbers → Row → Bool
is_one kind v seen row = shows_in v row && is_of_kind kind seen v.owner v.event row.key
