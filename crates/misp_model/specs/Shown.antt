-- The form in which an organisation sees an event.
use Rattle.std.specs.Prelude.{ℕ, List, [], ◌∷◌, ◌++◌, Bool, ◌&&◌, filter, true, false, not, map, Option, Some, None, option_map, find}
use Rattle.misp_lists.specs.Order.{in_order}
use Rattle.misp_elem.specs.declared.key.KeyForm.{KeyForm as Key}
use Rattle.misp_elem.specs.declared.key.KeyForm.TheVariants.{Element, Reference, Proposal, Verdict, Sighting}
use Rattle.misp_elem.specs.Prelude.{ElemId, EventId, OrgId, event_key, event_of, is_less, list_any, same_elem, same_event, same_key, same_org, uuid_at}
use Rattle.misp_elem.specs.declared.row.RowFields.{RowFields as Row}
use Rattle.misp_elem.specs.declared.key.Place.{Place}
use Rattle.misp_elem.specs.declared.visible.VisibleAttribute.{VisibleAttribute}
use Rattle.misp_elem.specs.declared.visible.VisibleObject.{VisibleObject}
use Rattle.misp_elem.specs.declared.content.Content.{Content}
use Rattle.misp_elem.specs.declared.visible.VisibleEvent.{VisibleEvent}
use Rattle.misp_model.specs.RowOrder.{spell}
use Rattle.misp_model.specs.View.{granted, is_live, is_row_of, is_least, chosen}
use Rattle.misp_model.specs.Scene.{Scene}

-- how a key is ordered in a list of its kind: its uuid, and of equal uuids the key; for a statement
-- its uuid, its instance as a text (0 ends it, and is no letter), its organisation
unfoldable pub order_of : Key → List ℕ
order_of (Element e p) = uuid_at e p ∷ spell (Element e p)
order_of (Reference e x t u) = u.0.0 ∷ spell (Reference e x t u)
order_of (Proposal e n) = n.uuid.0.0 ∷ (n.at ++ 0 ∷ n.by.0.0 ∷ [])
order_of (Verdict e n i o) = n.uuid.0.0 ∷ []
order_of (Sighting e t i o u) = u.0.0 ∷ (i ++ 0 ∷ o.0.0 ∷ [])

unfoldable pub sorted : List Row → List Row
sorted rows = in_order (λ a b. is_less (order_of a.key) (order_of b.key)) rows

-- the owner's live rows that are granted to the caller
unfoldable pub is_shown : Scene → OrgId → Row → Bool
is_shown s w row =
    same_org row.owner w && granted s.rows s.groups s.at s.by row && is_live s.rows row

-- the rows that show of the owner's copy, which pass a test of their key
unfoldable pub shown_at : Scene → OrgId → (Key → Bool) → List Row
shown_at s w test = sorted (filter (λ row. is_shown s w row && test row.key) s.rows)

-- attributes outside objects; attributes of the object; objects; references of the object
unfoldable pub is_plain_attribute : EventId → Key → Bool
is_plain_attribute e (Element f p) =
    same_event f e
    && elim p [
      | Place.Event ↦ false
      | Place.Object x ↦ false
      | Place.Attribute a ↦ true
      | Place.ObjectAttribute x a ↦ false
    ]
is_plain_attribute e (Reference f x t u) = false
is_plain_attribute e (Proposal f n) = false
is_plain_attribute e (Verdict f n i o) = false
is_plain_attribute e (Sighting f t i o u) = false

unfoldable pub is_attribute_of : EventId → ElemId → Key → Bool
is_attribute_of e y (Element f p) =
    same_event f e
    && elim p [
      | Place.Event ↦ false
      | Place.Object x ↦ false
      | Place.Attribute a ↦ false
      | Place.ObjectAttribute x a ↦ same_elem x y
    ]
is_attribute_of e y (Reference f x t u) = false
is_attribute_of e y (Proposal f n) = false
is_attribute_of e y (Verdict f n i o) = false
is_attribute_of e y (Sighting f t i o u) = false

unfoldable pub is_object : EventId → Key → Bool
is_object e (Element f p) =
    same_event f e
    && elim p [
      | Place.Event ↦ false
      | Place.Object x ↦ true
      | Place.Attribute a ↦ false
      | Place.ObjectAttribute x a ↦ false
    ]
is_object e (Reference f x t u) = false
is_object e (Proposal f n) = false
is_object e (Verdict f n i o) = false
is_object e (Sighting f t i o u) = false

-- both ends of a reference are shown
unfoldable pub is_reference_of : Scene → OrgId → EventId → ElemId → Key → Bool
is_reference_of s w e y (Reference f x t u) =
    same_event f e && same_elem x y
    && list_any (λ row. is_row_of w (Element e t) row && is_shown s w row) s.rows
is_reference_of s w e y (Element f p) = false
is_reference_of s w e y (Proposal f n) = false
is_reference_of s w e y (Verdict f n i o) = false
is_reference_of s w e y (Sighting f t i o u) = false

-- proposals on a place, sightings on a place, and verdicts on a proposal by a judge
unfoldable pub is_proposal_on : Key → Key → Bool
is_proposal_on k (Proposal e n) = same_key (Element e n.target) k
is_proposal_on k (Element f p) = false
is_proposal_on k (Reference f x t u) = false
is_proposal_on k (Verdict f n i o) = false
is_proposal_on k (Sighting f t i o u) = false

unfoldable pub is_sighting_on : Key → Key → Bool
is_sighting_on k (Sighting e t i o u) = same_key (Element e t) k
is_sighting_on k (Element f p) = false
is_sighting_on k (Reference f x t u) = false
is_sighting_on k (Verdict f n i o) = false
is_sighting_on k (Proposal f n) = false

unfoldable pub is_verdict_on : Key → OrgId → Key → Bool
is_verdict_on k judge (Verdict e n i o) = same_key (Proposal e n) k && same_org o judge
is_verdict_on k judge (Element f p) = false
is_verdict_on k judge (Reference f x t u) = false
is_verdict_on k judge (Proposal f n) = false
is_verdict_on k judge (Sighting f t i o u) = false

-- a proposal is closed where a granted verdict on it is by the event's creator
unfoldable pub is_closed : Scene → OrgId → Key → Bool
is_closed s orgc k =
    list_any (λ row. is_verdict_on k orgc row.key && granted s.rows s.groups s.at s.by row) s.rows

unfoldable pub proposals_on : Scene → OrgId → Key → List Row
proposals_on s orgc k =
    sorted (filter (λ row.
    is_proposal_on k row.key && is_least s.rows s.groups s.at s.by row
    && not (is_closed s orgc row.key)) s.rows)

unfoldable pub sightings_on : Scene → Key → List Row
sightings_on s k =
    sorted
    (filter (λ row. is_sighting_on k row.key && is_least s.rows s.groups s.at s.by row) s.rows)

unfoldable pub shown_attribute : Scene → OrgId → Row → VisibleAttribute
shown_attribute s orgc row =
    record {
      row = row;
      proposals = proposals_on s orgc row.key;
      sightings = sightings_on s row.key;
    }

-- the object's uuid
unfoldable pub object_of : Key → ElemId
object_of (Element e p) = record { 0 = record { 0 = uuid_at e p } }
object_of (Reference e x t u) = x
object_of (Proposal e n) = n.uuid
object_of (Verdict e n i o) = n.uuid
object_of (Sighting e t i o u) = u

unfoldable pub shown_object : Scene → OrgId → OrgId → EventId → Row → VisibleObject
shown_object s orgc w e row =
    record {
      row = row;
      attributes = map (shown_attribute s orgc)
          (shown_at s w (is_attribute_of e (object_of row.key)));
      references = shown_at s w (is_reference_of s w e (object_of row.key));
    }

-- the creator in an event's row
unfoldable pub creator : Row → OrgId
creator row =
    elim row.content [
      | Content.Event b ↦ b.orgc
      | Content.Object b ↦ row.owner
      | Content.Attribute b ↦ row.owner
      | Content.Reference b ↦ row.owner
      | Content.Proposal b ↦ row.owner
      | Content.Verdict b ↦ row.owner
      | Content.Sighting b ↦ row.owner
      | Content.Gone ↦ row.owner
    ]

-- the visible form of one copy
unfoldable pub form_of : Scene → EventId → Row → VisibleEvent
form_of s e row =
    record {
      row = row;
      org_name = [];
      attributes = map (shown_attribute s (creator row))
          (shown_at s row.owner (is_plain_attribute e));
      objects = map (shown_object s (creator row) row.owner e) (shown_at s row.owner (is_object e));
      proposals = proposals_on s (creator row) (event_key e);
      group_names = [];
    }

-- the event row of the named owner, where it is granted, or of the chosen copy
unfoldable pub event_row : Scene → EventId → Option OrgId → Option Row
event_row s e None = chosen s.rows s.groups s.at s.by e
event_row s e (Some w) =
    find (λ row. is_row_of w (event_key e) row && granted s.rows s.groups s.at s.by row) s.rows

unfoldable pub shown : Scene → EventId → Option OrgId → Option VisibleEvent
shown s e owner = option_map (form_of s e) (event_row s e owner)

-- the chosen copies of all events, in order of uuid: each event once
unfoldable pub is_chosen : Scene → Row → Bool
is_chosen s row =
    same_key row.key (event_key (event_of row.key))
    && elim (chosen s.rows s.groups s.at s.by (event_of row.key)) [
      | None ↦ false
      | Some best ↦ same_org best.owner row.owner
    ]

unfoldable pub index : Scene → List VisibleEvent
index s = map (λ row. form_of s (event_of row.key) row) (sorted (filter (is_chosen s) s.rows))
