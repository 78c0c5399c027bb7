-- The rows of an added event and of added parts, by the fields of what is added.
use Rattle.std.specs.Prelude.{ℕ, true, false, not, List, Option, Some, None, map, ◌++◌, option_map, option_to_list, filter_map}
use Rattle.misp_elem.specs.declared.content.EventBody.{EventBody}
use Rattle.misp_model.specs.Prelude.{Content, Draft, Element, ElemId, EventDraft, EventId, Key, Label, OrgId, Place, Reference, ReferenceDraft, Row, Submission, is_gone}

-- a row that is not published
abbrev pub held_row : OrgId → Key → ℕ → Label → Content → Row
held_row w k now l c =
    record { owner = w; key = k; stamp = now; label = l; held = true; carried = false; content = c }

-- a new row of the owner
unfoldable pub new_row : OrgId → EventId → ℕ → Place → Label → Content → Row
new_row w e now p l c =
    record {
      owner = w;
      key = Element e p;
      stamp = now;
      label = l;
      held = not (is_gone c);
      carried = false;
      content = c;
    }

-- the row of a part
unfoldable pub part_row : OrgId → EventId → ℕ → Draft → Row
part_row w e now d = new_row w e now d.place d.label d.content

-- the date that a body gives, or else this day
abbrev pub date_given : Option (List ℕ) → List ℕ → List ℕ
date_given given today = elim given [ Some date ↦ date | None ↦ today ]

-- the body of a new event that this organisation created on this day
unfoldable pub body_of : OrgId → List ℕ → List ℕ → EventDraft → EventBody
body_of w name today d =
    record {
      info = d.info;
      date = date_given d.date today;
      threat_level_id = d.threat_level_id;
      analysis = d.analysis;
      publish_stamp = 0;
      extends_uuid = d.extends_uuid;
      orgc = w;
      orgc_name = name;
      tags = d.tags;
    }

-- the event's own row
unfoldable pub event_row : OrgId → List ℕ → List ℕ → EventId → ℕ → Label → EventDraft → Row
event_row w name today e now l d =
    new_row w e now Place.Event l (Content.Event (body_of w name today d))

-- the row of a reference that has this target
unfoldable pub reference_row : OrgId → EventId → ℕ → ReferenceDraft → Place → Row
reference_row w e now r t =
    held_row w (Reference e r.object t r.uuid) now Label.Inherit (Content.Reference r.body)

-- the same, where it has a target
unfoldable pub row_with_target :
    (ElemId → Option Place) → OrgId → EventId → ℕ → ReferenceDraft → Option Row
row_with_target target w e now r = option_map (reference_row w e now r) (target r.referenced)

-- the row of the event, where the body has it, those of the parts, and those of the references
-- that have a target
unfoldable pub added_rows :
    (ElemId → Option Place) → OrgId → List ℕ → List ℕ → ℕ → Submission → List Row
added_rows target w name today now b =
    map (λ d. event_row w name today b.event now b.label d) (option_to_list b.body)
    ++ map (part_row w b.event now) b.parts
    ++ filter_map (row_with_target target w b.event now) b.references

-- the rows of the parts, and those of the references that have a target
unfoldable pub parts_rows : (ElemId → Option Place) → OrgId → ℕ → Submission → List Row
parts_rows target w now b =
    map (part_row w b.event now) b.parts
    ++ filter_map (row_with_target target w b.event now) b.references
