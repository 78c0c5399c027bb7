-- What is shown of an event, where it is whole: each row of it is a row, and stands at its place.
use Rattle.std.specs.Prelude.{◌≡◌, Option, Some, None}
use Rattle.misp_elem.specs.Prelude.{AllByRecursion, Element, ElemId, EventId, IsRow, Place, Reference, RowFields, content_kind}
use Rattle.misp_elem.specs.declared.visible.VisibleAttribute.{VisibleAttribute}
use Rattle.misp_elem.specs.declared.visible.VisibleObject.{VisibleObject}
use Rattle.misp_elem.specs.declared.visible.VisibleEvent.{VisibleEvent}

-- the place of an attribute of an object, or of one outside objects
abbrev pub place_in : Option ElemId → ElemId → Place
place_in None uuid = Place.Attribute uuid
place_in (Some object) uuid = Place.ObjectAttribute object uuid

-- an attribute of this event, in this object or outside objects; a row of such a key has an
-- attribute's content
pub record IsAttributeOf (event : EventId) (object : Option ElemId)
    (a : VisibleAttribute) : Type 0 where
  pub row : IsRow a.row
  pub uuid : ElemId
  pub key : a.row.key ≡ Element event (place_in object uuid)

-- a reference of this object of this event, to whatever target
pub record IsReferenceOf (event : EventId) (object : ElemId) (r : RowFields) : Type 0 where
  pub row : IsRow r
  pub target : Place
  pub uuid : ElemId
  pub key : r.key ≡ Reference event object target uuid

-- an object of this event, with attributes and references of its own
pub record IsObjectOf (event : EventId) (o : VisibleObject) : Type 0 where
  pub row : IsRow o.row
  pub uuid : ElemId
  pub key : o.row.key ≡ Element event (Place.Object uuid)
  pub attributes : AllByRecursion (IsAttributeOf event (Some uuid)) o.attributes
  pub references : AllByRecursion (IsReferenceOf event uuid) o.references

-- WHOLE: the event's own row, which is no tombstone, with attributes and objects of that event
pub record IsWhole (e : VisibleEvent) : Type 0 where
  pub row : IsRow e.row
  pub event : EventId
  pub key : e.row.key ≡ Element event Place.Event
  pub content : content_kind e.row.content ≡ 0
  pub attributes : AllByRecursion (IsAttributeOf event None) e.attributes
  pub objects : AllByRecursion (IsObjectOf event) e.objects
