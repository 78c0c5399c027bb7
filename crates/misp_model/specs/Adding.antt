-- Adding an event and adding parts: uuids, targets of references, and what is written.
use Rattle.std.specs.Prelude.{ℕ, Bool, false, eqb, ◌&&◌, ◌||◌, true, not, List, [], ◌∷◌, Option, option_map, Some, None, ◌++◌, map, filter, option_to_list, find, filter_map}
use Rattle.misp_elem.specs.declared.key.KeyForm.{KeyForm as Key}
use Rattle.misp_elem.specs.declared.key.KeyForm.TheVariants.{Element, Reference, Proposal, Verdict, Sighting}
use Rattle.misp_elem.specs.Prelude.{ElemId, EventId, Label, ReferenceDraft, Submission, event_key, event_of, list_all, list_any, same_elem, same_event, same_org, same_place, uuid_at}
use Rattle.misp_elem.specs.declared.key.Place.{Place}
use Rattle.misp_elem.specs.Draft.{DraftFields as Draft, EventDraftFields as EventDraft}
use Rattle.misp_elem.specs.declared.content.Content.{Content}
use Rattle.misp_elem.specs.declared.content.EventBody.{EventBody}
use Rattle.misp_model.specs.Scene.{Scene, written, is_usable, own_live}
use Rattle.misp_model.specs.View.{is_live}
use Rattle.misp_model.specs.Version.{Version}

-- the key is that of an element or reference with this uuid
unfoldable pub takes_uuid : ℕ → Key → Bool
takes_uuid u (Element e p) = eqb (uuid_at e p) u
takes_uuid u (Reference e x t v) = eqb v.0.0 u
takes_uuid u (Proposal e n) = false
takes_uuid u (Verdict e n i o) = false
takes_uuid u (Sighting e t i o v) = false

-- the own copy has the uuid, deleted or not
unfoldable pub is_taken : Scene → EventId → ℕ → Bool
is_taken s e u =
    eqb e.0.0 u
    || list_any (λ row.
    same_org row.owner s.by && (same_event (event_of row.key) e && takes_uuid u row.key)) s.rows

-- no number stands twice
unfoldable pub are_distinct : List ℕ → Bool
are_distinct [] = true
are_distinct (u ∷ us) = not (list_any (eqb u) us) && are_distinct us

-- the place is an object's or attribute's of this uuid
unfoldable pub is_place_of : ElemId → Place → Bool
is_place_of u Place.Event = false
is_place_of u (Place.Object x) = same_elem x u
is_place_of u (Place.Attribute a) = same_elem a u
is_place_of u (Place.ObjectAttribute x a) = same_elem a u

-- the key is that of an object or attribute of this uuid
unfoldable pub is_target_key : ElemId → Key → Bool
is_target_key u (Element e p) = is_place_of u p
is_target_key u (Reference e x t v) = false
is_target_key u (Proposal e n) = false
is_target_key u (Verdict e n i o) = false
is_target_key u (Sighting e t i o v) = false

-- the place in a key
unfoldable pub place_in : Key → Place
place_in (Element e p) = p
place_in (Reference e x t v) = t
place_in (Proposal e n) = n.target
place_in (Verdict e n i o) = n.target
place_in (Sighting e t i o v) = t

-- what a reference names: the part of that uuid in the same body, or the live element of the own
-- copy
unfoldable pub target_in_copy : Scene → EventId → ElemId → Option Place
target_in_copy s e u =
    option_map (λ row. place_in row.key)
    (find (λ row.
    same_org row.owner s.by
    && (same_event (event_of row.key) e && (is_target_key u row.key && is_live s.rows row))) s.rows)

unfoldable pub target_of : Scene → EventId → List Draft → ElemId → Option Place
target_of s e parts u =
    elim (find (λ d. is_place_of u d.place) parts) [
      | Some d ↦ Some d.place
      | None ↦ target_in_copy s e u
    ]

-- the versions of a body's parts
unfoldable pub part_version : Scene → EventId → Draft → Version
part_version s e d = written s (Element e d.place) s.now d.label d.content

-- the key of a reference, where it has a target
unfoldable pub reference_key : Scene → EventId → List Draft → ReferenceDraft → Option Key
reference_key s e parts r =
    option_map (λ t. Reference e r.object t r.uuid) (target_of s e parts r.referenced)

-- the version of a reference, where it has a target
unfoldable pub reference_version : Scene → EventId → List Draft → ReferenceDraft → Option Version
reference_version s e parts r =
    option_map (λ k. written s k s.now Label.Inherit (Content.Reference r.body))
    (reference_key s e parts r)

-- the parts and references of a body as versions; a reference without a target is none
unfoldable pub parts_written : Scene → Submission → List Version
parts_written s b =
    map (part_version s b.event) b.parts
    ++ filter_map (reference_version s b.event b.parts) b.references

-- the reference has a target
unfoldable pub has_target : Scene → Submission → ReferenceDraft → Bool
has_target s b r = elim (target_of s b.event b.parts r.referenced) [ Some t ↦ true | None ↦ false ]

-- the uuids that a body brings
unfoldable pub uuids_of : Scene → Submission → List ℕ
uuids_of s b =
    map (λ d. uuid_at b.event d.place) b.parts
    ++ map (λ r. r.uuid.0.0) (filter (has_target s b) b.references)

-- the body brings a uuid twice, or one that the own copy has
unfoldable pub clashes : Scene → Submission → Bool
clashes s b = not (are_distinct (uuids_of s b)) || list_any (is_taken s b.event) (uuids_of s b)

-- a label of the body is not usable
unfoldable pub has_unusable : Scene → Submission → Bool
has_unusable s b = not (is_usable s b.label) || list_any (λ d. not (is_usable s d.label)) b.parts

-- the body of a new event
unfoldable pub new_event : Scene → EventDraft → EventBody
new_event s d =
    record {
      info = d.info;
      date = elim d.date [ Some x ↦ x | None ↦ s.today ];
      threat_level_id = d.threat_level_id;
      analysis = d.analysis;
      publish_stamp = 0;
      extends_uuid = d.extends_uuid;
      orgc = s.by;
      orgc_name = s.by_name;
      tags = d.tags;
    }

-- the versions of an added event
unfoldable pub event_written : Scene → Submission → List Version
event_written s b =
    map (λ d. written s (event_key b.event) s.now b.label (Content.Event (new_event s d)))
    (option_to_list b.body)
    ++ parts_written s b

-- the object is among the parts
unfoldable pub brings_object : Submission → ElemId → Bool
brings_object b x = list_any (λ d. same_place d.place (Place.Object x)) b.parts

-- the object is among the parts, or is live in the own copy
unfoldable pub object_is_there : Scene → Submission → ElemId → Bool
object_is_there s b x = brings_object b x || own_live s (Element b.event (Place.Object x))

-- an attribute in an object has its object there
unfoldable pub part_fits : Scene → Submission → Place → Bool
part_fits s b Place.Event = true
part_fits s b (Place.Object x) = true
part_fits s b (Place.Attribute a) = true
part_fits s b (Place.ObjectAttribute x a) = object_is_there s b x

-- a reference of an object that the body brings, or one that has a target, of a live object of the
-- own copy
unfoldable pub reference_fits : Scene → Submission → ReferenceDraft → Bool
reference_fits s b r =
    brings_object b r.object
    || own_live s (Element b.event (Place.Object r.object)) && has_target s b r

-- each part and each reference has its object there, and a reference of an object of the own copy
-- its target
unfoldable pub fits_parts : Scene → Submission → Bool
fits_parts s b =
    list_all (λ d. part_fits s b d.place) b.parts && list_all (reference_fits s b) b.references
