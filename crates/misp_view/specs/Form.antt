-- The form of one copy, by the lists of what shows there.
use Rattle.std.specs.Prelude.{Bool, eqb, ◌&&◌, List, map, filter}
use Rattle.misp_model.specs.Prelude.{EventId, Group, Inst, OrgId, Row, VisibleAttribute, VisibleObject, event_key, granted, is_row_of}
use Rattle.misp_copies.specs.Keys.{is_about}
use Rattle.misp_view.specs.Parts.{around}

-- an attribute, with those of the proposals and sightings that are about it
unfoldable pub attribute_in : List Row → List Row → Row → VisibleAttribute
attribute_in proposals sightings row =
    record {
      row = row;
      proposals = filter (λ (r : Row). is_about row.key r.key) proposals;
      sightings = filter (λ (r : Row). is_about row.key r.key) sightings;
    }

-- those of a list that are in the object of the row
abbrev pub beside : Row → List Row → List Row
beside row list = filter (λ (r : Row). eqb (around row.key) (around r.key)) list

-- an object, with what is in it of the attributes and the references
unfoldable pub object_in : List Row → List Row → List Row → List Row → Row → VisibleObject
object_in inner references proposals sightings row =
    record {
      row = row;
      attributes = map (attribute_in proposals sightings) (beside row inner);
      references = beside row references;
    }

-- it is the owner's row of the event itself, and is granted
unfoldable pub is_granted_row_of : List Group → Inst → OrgId → EventId → OrgId
    → List Row → Row → Bool
is_granted_row_of groups i o e w rows row =
    is_row_of w (event_key e) row && granted rows groups i o row
