-- Edits, deletions, tags, publishing, proposals and sightings are refused, answered and written alike over the rows that are looked at.
use Rattle.std.proofs.Common.{◌≡◌, ℕ, List, [], ◌∷◌, ◌++◌, Bool, true, refl, ap, map, cond, eqb, not, ◌&&◌, None, option_to_list}
use Rattle.misp_model.specs.Prelude.{Ask, Change, Delete, DeleteEvent, DeleteReference, EditAttribute, EditEvent, EditObject, ElemId, Element, ElementExists, EventGone, EventId, Key, NotGranted, NotOwner, OrgId, Place, ProposalDraft}
use Rattle.misp_model.specs.Prelude.{ProposalExists, Propose, Publish, Scene, Sight, SightingDraft, Tag, TimeLimit, as_deleted, as_published, ask_rules, at_attribute, at_event, at_object, at_publishing, at_tags, brings, change_rules}
use Rattle.misp_model.specs.Prelude.{change_writes, changed, edited, edited_event, edited_object, event_key, has_tag, last_stamp, ok_answer, own_live, proposal_key, propose_rules, propose_writes, row_passes, sight_rules, sight_writes}
use Rattle.misp_model.specs.Prelude.{sighting_key, tagged, untagged, written}
use Rattle.misp_model.specs.declared.edit.AttributeEditFields.{AttributeEditFields as AttributeEdit}
use Rattle.misp_model.specs.declared.edit.EventEditFields.{EventEditFields as EventEdit}
use Rattle.misp_model.specs.declared.edit.ObjectEditFields.{ObjectEditFields as ObjectEdit}
use Rattle.misp_model.proofs.LookedRows.{IsClosedFor, element_looked, event_of_place_looked}
use Rattle.misp_model.proofs.LookedScenes.{HasEvent, bars_looked, changed_row_looked, edit_rules_looked, holds_tombstone_looked, is_at_limit_looked, looked_scene, own_any_looked, own_live_looked, own_row_is_looked, sees_live_looked, sees_target_looked, without_copy}
use Rattle.misp_model.proofs.LookedCopy.{HasCopy, let_out_looked, own_reference_looked}
use Rattle.misp_model.proofs.SameAnswers.{IsSame, accepted_from, from_rules, same_change}

module _ (keep : OrgId → Key → Bool) (s : Scene) (c : IsClosedFor s.by keep) where
  abbrev near : Scene
  near = looked_scene keep s

  module _ (e : EventId) (event : HasEvent keep s e) where
    live : (p : Place) → keep s.by (Element e p) ≡ true → own_live near (Element e p) ≡ own_live s (Element e p)
    live p h = own_live_looked keep s c (Element e p) (element_looked s.by keep c s.by e p h)

    -- ---- edits

    pub edit_event_looked : (edit : EventEdit) → IsSame near s (Ask.Change (EditEvent e edit))
    unfolding change_rules change_writes
    edit_event_looked edit =
        same_change near s (EditEvent e edit)
        (edit_rules_looked keep s c e (event_key e) true true edit.label edit.stamp (at_event (edited_event edit)) event.own event refl)
        (changed_row_looked keep s c (event_key e) _ _ event.own)

    pub edit_attribute_looked : (p : Place) (edit : AttributeEdit) → keep s.by (Element e p) ≡ true → IsSame near s (Ask.Change (EditAttribute e p edit))
    unfolding change_rules change_writes
    edit_attribute_looked p edit h =
        same_change near s (EditAttribute e p edit)
        (edit_rules_looked keep s c e (Element e p) _ _ edit.label edit.stamp (at_attribute (edited edit)) h event (live p h))
        (changed_row_looked keep s c (Element e p) _ _ h)

    pub edit_object_looked : (x : ElemId) (edit : ObjectEdit) → keep s.by (Element e (Place.Object x)) ≡ true → IsSame near s (Ask.Change (EditObject e x edit))
    unfolding change_rules change_writes
    edit_object_looked x edit h =
        same_change near s (EditObject e x edit)
        (edit_rules_looked keep s c e (Element e (Place.Object x)) _ _ edit.label edit.stamp (at_object (edited_object edit)) h event (live (Place.Object x) h))
        (changed_row_looked keep s c (Element e (Place.Object x)) _ _ h)

    pub delete_looked : (p : Place) → keep s.by (Element e p) ≡ true → IsSame near s (Ask.Change (Delete e p))
    unfolding change_rules change_writes
    delete_looked p h =
        same_change near s (Delete e p) (edit_rules_looked keep s c e (Element e p) _ _ None None as_deleted h event (live p h))
        (changed_row_looked keep s c (Element e p) _ _ h)

    pub tag_looked : (p : Place) (tag : Tag) → keep s.by (Element e p) ≡ true → IsSame near s (Ask.Change (Change.Tag e p tag))
    unfolding change_rules change_writes
    tag_looked p tag h =
        same_change near s (Change.Tag e p tag) (edit_rules_looked keep s c e (Element e p) _ _ None None (at_tags (tagged tag)) h event (live p h))
        (changed_row_looked keep s c (Element e p) _ _ h)

    pub untag_looked : (p : Place) (name : List ℕ) → keep s.by (Element e p) ≡ true → IsSame near s (Ask.Change (Change.Untag e p name))
    unfolding change_rules change_writes
    untag_looked p name h =
        same_change near s (Change.Untag e p name)
        (λ i. bars_looked keep s c e _ _ event (live p h) i ++ (own_row_is_looked keep s c (Element e p) (λ row. has_tag name row && eqb row.stamp last_stamp) h i, TimeLimit) ∷ [])
        (λ i. cond (own_row_is_looked keep s c (Element e p) (has_tag name) h i) (changed_row_looked keep s c (Element e p) (λ row. row.label) (at_tags (untagged name)) h i) [])

    -- ---- deletions

    pub delete_reference_looked : HasCopy keep s.by e → (x u : ElemId) → IsSame near s (Ask.Change (DeleteReference e x u))
    unfolding change_rules change_writes looked_scene changed written
    delete_reference_looked whole x u =
        same_change near s (DeleteReference e x u)
        (λ i. bars_looked keep s c e _ _ event (ap (row_passes (λ row. true)) (own_reference_looked keep s c e whole x u)) i
        ++ (row_passes (λ row. eqb row.stamp last_stamp) (own_reference_looked keep s c e whole x u i), TimeLimit) ∷ [])
        (λ i. map (λ row. changed s row row.label (as_deleted row.content)) (option_to_list (own_reference_looked keep s c e whole x u i)))

    pub delete_event_looked : IsSame near s (Ask.Change (DeleteEvent e))
    unfolding change_rules change_writes
    delete_event_looked =
        same_change near s (DeleteEvent e)
        (λ i. (without_copy keep s c e not event i, NotGranted) ∷ (without_copy keep s c e (λ b. b) event i, NotOwner)
        ∷ (is_at_limit_looked keep s c (event_key e) event.own i, TimeLimit) ∷ [])
        (changed_row_looked keep s c (event_key e) _ _ event.own)

    -- ---- publishing

    pub publish_looked : HasCopy keep s.by e → IsSame near s (Ask.Change (Publish e))
    unfolding change_rules change_writes looked_scene
    publish_looked whole =
        same_change near s (Publish e)
        (λ i. bars_looked keep s c e true true event refl i ++ (is_at_limit_looked keep s c (event_key e) event.own i, TimeLimit) ∷ [])
        (λ i. map as_published (changed_row_looked keep s c (event_key e) (λ row. row.label) (at_publishing s.now) event.own i) ++ let_out_looked keep s c e whole i)

  -- ---- statements

  pub propose_looked : (d : ProposalDraft) → ((w : OrgId) → keep w (Element d.event d.target) ≡ true) → keep s.by (proposal_key s d) ≡ true → IsSame near s (Propose d)
  unfolding ask_rules brings ok_answer propose_writes written looked_scene proposal_key propose_rules
  propose_looked d h own = record {
    rules = rules;
    accepted = accepted_from near s (Propose d) rules;
    answers = from_rules near s (Propose d) rules refl;
    brought = refl;
  }
    where
      rules : propose_rules near d ≡ propose_rules s d
      rules = λ i.
          (not (sees_target_looked keep s c d.event d.target h i), NotGranted)
          ∷ (holds_tombstone_looked keep s c d.event (event_of_place_looked s.by keep c s.by d.event d.target (h s.by)) i, EventGone)
          ∷ (own_any_looked keep s c (proposal_key s d) own i, ProposalExists) ∷ []

  pub sight_looked : (e : EventId) (t : Place) (d : SightingDraft) → ((w : OrgId) → keep w (Element e t) ≡ true) → keep s.by (sighting_key s e t d) ≡ true → IsSame near s (Sight e t d)
  unfolding ask_rules brings ok_answer sight_writes written looked_scene sighting_key sight_rules
  sight_looked e t d h own = record {
    rules = rules;
    accepted = accepted_from near s (Sight e t d) rules;
    answers = from_rules near s (Sight e t d) rules refl;
    brought = refl;
  }
    where
      rules : sight_rules near e t d ≡ sight_rules s e t d
      rules = λ i.
          (not (sees_live_looked keep s c (Element e t) (λ w. element_looked s.by keep c w e t (h w)) i), NotGranted)
          ∷ (holds_tombstone_looked keep s c e (event_of_place_looked s.by keep c s.by e t (h s.by)) i, EventGone)
          ∷ (own_any_looked keep s c (sighting_key s e t d) own i, ElementExists) ∷ []
