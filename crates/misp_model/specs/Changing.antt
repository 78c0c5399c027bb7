-- The rules that refuse a change, and what an accepted one writes.
use Rattle.std.specs.Prelude.{Bool, false, ◌&&◌, Option, Some, None, List, [], ◌∷◌, ◌++◌, true, not, eqb, map, filter, cond, option_to_list, find}
use Rattle.misp_elem.specs.Prelude.{ElemId, EventId, Label, Stamp, event_key, event_of, last_stamp, same_elem, same_event, same_key, same_org}
use Rattle.misp_elem.specs.declared.key.KeyForm.{KeyForm as Key}
use Rattle.misp_elem.specs.declared.key.KeyForm.TheVariants.{Element, Reference, Proposal, Verdict, Sighting}
use Rattle.misp_elem.specs.declared.row.RowFields.{RowFields as Row}
use Rattle.misp_elem.specs.declared.content.Content.{Content}
use Rattle.misp_elem.specs.declared.key.Place.{Place}
use Rattle.misp_model.specs.View.{is_live}
use Rattle.misp_model.specs.Scene.{Scene, Rule, GroupNotUsable, OlderTime, TimeLimit, ElementFull, is_too_long, own_row_is, is_at_limit, wants_unusable, is_newer_than, bars, NotGranted, NotOwner, EventExists, EventGone, ElementExists}
use Rattle.misp_model.specs.Scene.{holds_copy, holds_tombstone, sees, own_live, changed, changed_row}
use Rattle.misp_model.specs.declared.change.Change.{Change}
use Rattle.misp_model.specs.declared.change.Change.TheVariants.{AddEvent, AddParts, EditEvent, EditAttribute, EditObject, Delete, DeleteReference, DeleteEvent, Publish}
use Rattle.misp_model.specs.Adding.{clashes, has_unusable, fits_parts, parts_written, event_written}
use Rattle.misp_model.specs.Edits.{edited, at_attribute, edited_event, edited_object, at_event, at_object, as_deleted, at_tags, tagged, has_tag, given, untagged, at_publishing}
use Rattle.misp_model.specs.Version.{Version, Published}

-- the caller's own live reference of this object and uuid, whatever its target
unfoldable pub is_reference_named : EventId → ElemId → ElemId → Key → Bool
is_reference_named e y v (Reference f x t u) = same_event f e && same_elem x y && same_elem u v
is_reference_named e y v (Element f p) = false
is_reference_named e y v (Proposal f n) = false
is_reference_named e y v (Verdict f n i o) = false
is_reference_named e y v (Sighting f t i o u) = false

unfoldable pub own_reference : Scene → EventId → ElemId → ElemId → Option Row
own_reference s e x u =
    find (λ row.
    same_org row.owner s.by && (is_reference_named e x u row.key && is_live s.rows row)) s.rows

unfoldable pub row_passes : (Row → Bool) → Option Row → Bool
row_passes test None = false
row_passes test (Some row) = test row

-- the rules that refuse an edit of one row: who may, the label, the stamp that it gives, the limit
-- of stamps, the limit of texts
unfoldable pub edit_rules : Scene → EventId → Key → Bool → Option Label → Option Stamp
    → (Content → Content) → List (Bool × Rule)
edit_rules s e k fits l t f =
    bars s e fits
    ++ (wants_unusable s l, GroupNotUsable) ∷ (own_row_is s k (is_newer_than t), OlderTime)
    ∷ (is_at_limit s k, TimeLimit)
    ∷ (own_row_is s k (λ row. is_too_long (f row.content)), ElementFull) ∷ []

-- the rules that refuse a change, in their order
unfoldable pub change_rules : Scene → Change → List (Bool × Rule)
change_rules s (AddEvent b) =
    (holds_copy s b.event, EventExists) ∷ (holds_tombstone s b.event, EventGone)
    ∷ (clashes s b, ElementExists) ∷ (has_unusable s b, GroupNotUsable) ∷ []
change_rules s (AddParts e b) =
    bars s b.event (fits_parts s b)
    ++ (clashes s b, ElementExists) ∷ (has_unusable s b, GroupNotUsable) ∷ []
change_rules s (EditEvent e edit) =
    edit_rules s e (event_key e) true edit.label edit.stamp (at_event (edited_event edit))
change_rules s (EditAttribute e p edit) =
    edit_rules s e (Element e p) (own_live s (Element e p)) edit.label edit.stamp
    (at_attribute (edited edit))
change_rules s (EditObject e x edit) =
    edit_rules s e (Element e (Place.Object x)) (own_live s (Element e (Place.Object x)))
    edit.label edit.stamp (at_object (edited_object edit))
change_rules s (Delete e p) =
    edit_rules s e (Element e p) (own_live s (Element e p)) None None as_deleted
change_rules s (DeleteReference e x u) =
    bars s e (row_passes (λ row. true) (own_reference s e x u))
    ++ (row_passes (λ row. eqb row.stamp last_stamp) (own_reference s e x u), TimeLimit) ∷ []
change_rules s (Change.Tag e p tag) =
    edit_rules s e (Element e p) (own_live s (Element e p)) None None (at_tags (tagged tag))
change_rules s (Change.Untag e p name) =
    bars s e (own_live s (Element e p))
    ++ (own_row_is s (Element e p) (λ row. has_tag name row && eqb row.stamp last_stamp), TimeLimit)
    ∷ []
change_rules s (DeleteEvent e) =
    (not (holds_copy s e) && not (sees s (event_key e)), NotGranted)
    ∷ (not (holds_copy s e) && sees s (event_key e), NotOwner)
    ∷ (is_at_limit s (event_key e), TimeLimit) ∷ []
change_rules s (Publish e) = bars s e true ++ (is_at_limit s (event_key e), TimeLimit) ∷ []

-- the row is a held one of the caller's copy, and not the event's
unfoldable pub is_held_in : Scene → EventId → Row → Bool
is_held_in s e row =
    same_org row.owner s.by
    && (same_event (event_of row.key) e && (row.held && not (same_key row.key (event_key e))))

-- a row as a publishing lets it out
unfoldable pub let_out_row : Scene → Row → Version
let_out_row s row =
    record {
      at = s.at;
      owner = s.by;
      key = row.key;
      stamp = row.stamp;
      label = row.label;
      content = row.content;
      came = Published;
      act = s.act;
      path = [];
    }

-- the held rows of the caller's copy but the event's, as a publishing lets them out
unfoldable pub let_out : Scene → EventId → List Version
let_out s e = map (let_out_row s) (filter (is_held_in s e) s.rows)

-- a version as a publishing writes it
unfoldable pub as_published : Version → Version
as_published v = record v { came = Published }

-- what a change writes
unfoldable pub change_writes : Scene → Change → List Version
change_writes s (AddEvent b) = event_written s b
change_writes s (AddParts e b) = parts_written s b
change_writes s (EditEvent e edit) =
    changed_row s (event_key e) (λ row. given edit.label row.label) (at_event (edited_event edit))
change_writes s (EditObject e x edit) =
    changed_row s (Element e (Place.Object x)) (λ row. given edit.label row.label)
    (at_object (edited_object edit))
change_writes s (Delete e p) = changed_row s (Element e p) (λ row. row.label) as_deleted
change_writes s (DeleteReference e x u) =
    map (λ row. changed s row row.label (as_deleted row.content))
    (option_to_list (own_reference s e x u))
change_writes s (Change.Tag e p tag) =
    changed_row s (Element e p) (λ row. row.label) (at_tags (tagged tag))
change_writes s (Change.Untag e p name) =
    cond (own_row_is s (Element e p) (has_tag name))
    (changed_row s (Element e p) (λ row. row.label) (at_tags (untagged name))) []
change_writes s (EditAttribute e p edit) =
    changed_row s (Element e p) (λ row. given edit.label row.label) (at_attribute (edited edit))
change_writes s (DeleteEvent e) = changed_row s (event_key e) (λ row. Label.Own) (λ c. Content.Gone)
change_writes s (Publish e) =
    map as_published (changed_row s (event_key e) (λ row. row.label) (at_publishing s.now))
    ++ let_out s e
