-- Places that are only what they may be.
use Rattle.std.specs.Prelude.{Option, Some, None}
use Rattle.misp_elem.specs.Key.{IsPlaceBut, of_reference, of_proposal, of_sighting}
use Rattle.misp_model.specs.Prelude.{Attribute, Event, Object, ObjectAttribute, Place}

-- that of an attribute, as that of a sighting
abbrev pub IsAttributePlace : Place → Type 0
IsAttributePlace place = IsPlaceBut of_sighting place

-- that of an object or an attribute, as that of a reference
abbrev pub IsElementPlace : Place → Type 0
IsElementPlace place = IsPlaceBut of_reference place

-- that of the event or an attribute, as that of a proposal
abbrev pub IsTaggedPlace : Place → Type 0
IsTaggedPlace place = IsPlaceBut of_proposal place

-- the place, where it is so
abbrev pub attribute_place : Place → Option Place
attribute_place (Attribute a) = Some (Attribute a)
attribute_place (ObjectAttribute o a) = Some (ObjectAttribute o a)
attribute_place Event = None
attribute_place (Object o) = None

abbrev pub element_place : Place → Option Place
element_place (Object o) = Some (Object o)
element_place (Attribute a) = Some (Attribute a)
element_place (ObjectAttribute o a) = Some (ObjectAttribute o a)
element_place Event = None

abbrev pub tagged_place : Place → Option Place
tagged_place Event = Some Event
tagged_place (Attribute a) = Some (Attribute a)
tagged_place (ObjectAttribute o a) = Some (ObjectAttribute o a)
tagged_place (Object o) = None
