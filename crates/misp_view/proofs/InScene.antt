-- What shows of an event hangs on the rows, the groups, the instance and the caller alone.
use Rattle.std.proofs.Common.{◌≡◌, refl, ap, ◌∙◌, [], Option, Some, None, Bool, map, option_map}
use Rattle.misp_model.specs.Prelude.{Element, ElemId, EventId, Key, OrgId, Proposal, Reference, Row, Scene, Sighting, Verdict, VisibleEvent, VisibleObject, event_key}
use Rattle.misp_model.specs.Shown.{is_shown, shown_at, is_attribute_of, is_object, is_plain_attribute, object_of, creator, is_reference_of, is_closed, proposals_on, sightings_on, shown_attribute, shown_object, form_of, event_row, shown}
use Rattle.misp_view.specs.View.{scene_of}

-- the scene with another number, moment and names
abbrev bare_scene : Scene → Scene
bare_scene s = record { act = 0; at = s.at; by = s.by; by_name = []; partner = None; now = 0; today = []; rows = s.rows; groups = s.groups }

reference_same : (s : Scene) (w : OrgId) (e : EventId) (y : ElemId) (k : Key) → is_reference_of s w e y k ≡ is_reference_of (bare_scene s) w e y k
unfolding is_reference_of is_shown
reference_same s w e y (Reference f x t u) = refl
reference_same s w e y (Element f p) = refl
reference_same s w e y (Proposal f n) = refl
reference_same s w e y (Verdict f n i o) = refl
reference_same s w e y (Sighting f t i o u) = refl

event_row_same : (s : Scene) (e : EventId) (owner : Option OrgId) → event_row s e owner ≡ event_row (bare_scene s) e owner
unfolding event_row
event_row_same s e None = refl
event_row_same s e (Some w) = refl

object_same : (s : Scene) (orgc w : OrgId) (e : EventId) (row : Row) → shown_object s orgc w e row ≡ shown_object (bare_scene s) orgc w e row
unfolding shown_object shown_at is_shown shown_attribute proposals_on sightings_on is_closed
object_same s orgc w e row =
    ap {B = VisibleObject}
    (λ (test : Key → Bool). record { row = row; attributes = map (shown_attribute s orgc) (shown_at s w (is_attribute_of e (object_of row.key))); references = shown_at s w test })
    (λ j k. reference_same s w e (object_of row.key) k j)

form_same : (s : Scene) (e : EventId) (row : Row) → form_of s e row ≡ form_of (bare_scene s) e row
unfolding form_of shown_at is_shown shown_attribute proposals_on sightings_on is_closed
form_same s e row = ap {B = VisibleEvent} (λ (object : Row → VisibleObject). record {
  row = row;
  org_name = [];
  attributes = map (shown_attribute s (creator row)) (shown_at s row.owner (is_plain_attribute e));
  objects = map object (shown_at s row.owner (is_object e));
  proposals = proposals_on s (creator row) (event_key e);
  group_names = [];
}) (λ j r. object_same s (creator row) row.owner e r j)

-- so any scene of these rows and groups serves
pub shown_in_scene : (s : Scene) (e : EventId) (owner : Option OrgId) → shown s e owner ≡ shown (scene_of s.groups s.at s.by s.rows) e owner
unfolding shown
shown_in_scene s e owner =
    ap (λ (form : Row → VisibleEvent). option_map form (event_row s e owner)) (λ j r. form_same s e r j)
    ∙ ap (option_map (form_of (bare_scene s) e)) (event_row_same s e owner)
