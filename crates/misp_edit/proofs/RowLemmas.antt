-- The rows of what adding an event or parts writes.
use Rattle.std.proofs.Common.{◌≡◌, ℕ, List, [], ◌∷◌, ◌++◌, map, Option, Some, None, option_map, option_to_list, refl, sym, ◌∙◌, append_assoc, filter_map}
use Rattle.misp_model.proofs.Prelude.{Content, Draft, Element, ElemId, EventId, Group, Inst, Label, OrgId, Place, Reference, ReferenceDraft, Row, Scene, Submission, cons_option, event_key, event_written, is_gone, is_published}
use Rattle.misp_model.proofs.Prelude.{is_statement, map-append, new_event, part_version, parts_written, reference_key, reference_version, target_of, written}
use Rattle.misp_lists.proofs.Lists.{map_twice}
use Rattle.misp_model.specs.Prelude.{EventDraft, Stamp}
use Rattle.misp_history.specs.History.{fresh_row}
use Rattle.misp_copies.specs.Scenes.{scene_of}
use Rattle.misp_edit.specs.Rows.{new_row, part_row, reference_row, row_with_target, event_row, body_of, added_rows, parts_rows}

module _ (act : ℕ) (at : Inst) (w : OrgId) (name : List ℕ) (now : Stamp) (today : List ℕ) (groups : List Group) (rows : List Row) where
  -- a written version's row
  new_row_is : (e : EventId) (p : Place) (l : Label) (c : Content) →
      new_row w e now p l c ≡ fresh_row (written (scene_of act at w name now today groups rows) (Element e p) now l c)
  unfolding new_row fresh_row written is_statement is_gone is_published
  new_row_is e p l Content.Gone = refl
  new_row_is e p l (Content.Event b) = refl
  new_row_is e p l (Content.Object b) = refl
  new_row_is e p l (Content.Attribute b) = refl
  new_row_is e p l (Content.Reference b) = refl
  new_row_is e p l (Content.Proposal b) = refl
  new_row_is e p l (Content.Verdict b) = refl
  new_row_is e p l (Content.Sighting b) = refl

  part_row_is : (e : EventId) (d : Draft) → part_row w e now d ≡ fresh_row (part_version (scene_of act at w name now today groups rows) e d)
  unfolding part_row part_version
  part_row_is e d = new_row_is e d.place d.label d.content

  event_row_is : (e : EventId) (l : Label) (d : EventDraft) →
      event_row w name today e now l d ≡ fresh_row (written (scene_of act at w name now today groups rows) (event_key e) now l (Content.Event (new_event (scene_of act at w name now today groups rows) d)))
  unfolding event_row event_key body_of new_event
  event_row_is e l d = new_row_is e _ l _

  reference_row_is : (e : EventId) (r : ReferenceDraft) (t : Place) →
      reference_row w e now r t ≡ fresh_row (written (scene_of act at w name now today groups rows) (Reference e r.object t r.uuid) now Label.Inherit (Content.Reference r.body))
  unfolding reference_row fresh_row written is_statement is_gone is_published
  reference_row_is e r t = refl

  module _ (b : Submission) (target : ElemId → Option Place) (is : (u : ElemId) → target u ≡ target_of (scene_of act at w name now today groups rows) b.event b.parts u) where
    references_are : (rs : List ReferenceDraft) →
        filter_map (row_with_target target w b.event now) rs ≡ map fresh_row (filter_map (reference_version (scene_of act at w name now today groups rows) b.event b.parts) rs)
    unfolding row_with_target reference_version reference_key
    references_are [] = refl
    references_are (r ∷ rs) = rw (is r.referenced) (one (target_of (scene_of act at w name now today groups rows) b.event b.parts r.referenced) (references_are rs))
      where
        s : Scene
        s = scene_of act at w name now today groups rows

        one : (t : Option Place) → filter_map (row_with_target target w b.event now) rs ≡ map fresh_row (filter_map (reference_version s b.event b.parts) rs) →
            cons_option (option_map (reference_row w b.event now r) t) (filter_map (row_with_target target w b.event now) rs)
            ≡ map fresh_row (cons_option (option_map (λ k. written s k now Label.Inherit (Content.Reference r.body)) (option_map (λ p. Reference b.event r.object p r.uuid) t)) (filter_map (reference_version s b.event b.parts) rs))
        one None ih = ih
        one (Some p) ih = λ i. reference_row_is b.event r p i ∷ ih i

    -- the rows of the parts and references of a body, by what the references name
    pub parts_rows_are : parts_rows target w now b ≡ map fresh_row (parts_written (scene_of act at w name now today groups rows) b)
    unfolding parts_rows parts_written
    parts_rows_are =
        let s : Scene = scene_of act at w name now today groups rows in
        (λ i. sym (map_twice (part_version s b.event) fresh_row (part_row w b.event now) (λ d. sym (part_row_is b.event d)) b.parts) i ++ references_are b.references i)
        ∙ sym (map-append fresh_row (map (part_version s b.event) b.parts) (filter_map (reference_version s b.event b.parts) b.references))

    -- and all rows of it
    pub added_rows_are : added_rows target w name today now b ≡ map fresh_row (event_written (scene_of act at w name now today groups rows) b)
    unfolding added_rows parts_rows event_written
    added_rows_are =
        let s : Scene = scene_of act at w name now today groups rows in
        append_assoc (map (event_row w name today b.event now b.label) (option_to_list b.body)) (map (part_row w b.event now) b.parts) (filter_map (row_with_target target w b.event now) b.references)
        ∙ (λ i. sym (map_twice (λ d. written s (event_key b.event) now b.label (Content.Event (new_event s d))) fresh_row (event_row w name today b.event now b.label) (λ d. sym (event_row_is b.event b.label d)) (option_to_list b.body)) i
        ++ parts_rows_are i)
        ∙ sym (map-append fresh_row (map (λ d. written s (event_key b.event) now b.label (Content.Event (new_event s d))) (option_to_list b.body)) (parts_written s b))
