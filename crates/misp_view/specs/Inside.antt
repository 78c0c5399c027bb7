-- What is in one copy of an event, by the lists of what shows there.
use Rattle.std.specs.Prelude.{◌≡◌, ℕ, eqb, List, [], map, filter}
use Rattle.misp_model.specs.Prelude.{Bor, BTreeSet, EventId, Row, VisibleEvent, event_key, in_order, list_any}
use Rattle.misp_copies.specs.declared.copy_view.CopyView.{CopyView}
use Rattle.misp_copies.specs.Keys.{is_about}
use Rattle.misp_copies.specs.Kinds.{is_link}
use Rattle.misp_copies.specs.ElementSet.{Numbers}
use Rattle.misp_copies.specs.CopyView.{IsSeen}
use Rattle.misp_view.specs.declared.kinds.Kind.{Kind}
use Rattle.misp_view.specs.declared.inside.Inside.{Inside}
use Rattle.misp_view.specs.Order.{goes_before}
use Rattle.misp_view.specs.Kinds.{is_one}
use Rattle.misp_view.specs.Parts.{Rises, around}
use Rattle.misp_view.specs.Form.{attribute_in, object_in}

-- the rows that show and are of this kind, in their order
unfoldable pub in_list : Kind → CopyView → BTreeSet Numbers → List Row → List Row
in_list kind v seen rows = in_order goes_before (filter (is_one kind v seen) rows)

-- the references are to these rows
abbrev pub IsList : List (Bor Row) → List Row → Type 0
IsList list rows = map (λ r. r.now) list ≡ rows

-- they are by objects, those of one object in the order of these rows
pub record IsGrouped (list : List (Bor Row)) (rows : List Row) : Type 0 where
  pub rises : Rises list
  pub same : (g : ℕ) → filter (λ (r : Row). eqb g (around r.key)) (map (λ r. r.now) list)
      ≡ filter (λ (r : Row). eqb g (around r.key)) rows

-- the attributes outside objects and the objects of the lists, with these proposals and sightings
pub record IsInside (n : Inside) (v : CopyView) (proposals sightings rows : List Row) : Type 0 where
  pub seen : BTreeSet Numbers
  pub are_seen : IsSeen seen v (list_any (λ row. is_link row.key) rows) rows
  pub attributes : n.attributes
      ≡ map (attribute_in proposals sightings) (in_list Kind.Attribute v seen rows)
  pub objects : n.objects
      ≡ map (object_in (in_list Kind.Inner v seen rows) (in_list Kind.Reference v seen rows)
      proposals sightings)
      (in_list Kind.Object v seen rows)

-- the event's row with what is inside the copy, and with those of the proposals that are about the
-- event, and no names
pub record IsFormWith (f : VisibleEvent) (v : CopyView) (proposals sightings rows : List Row)
    (e : EventId) (row : Row) : Type 0 where
  pub row_is : f.row ≡ row
  pub inside : IsInside (record { attributes = f.attributes; objects = f.objects })
      v proposals sightings rows
  pub on_event : f.proposals ≡ filter (λ (r : Row). is_about (event_key e) r.key) proposals
  pub no_name : f.org_name ≡ []
  pub no_names : f.group_names ≡ []
