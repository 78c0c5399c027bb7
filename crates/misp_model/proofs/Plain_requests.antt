-- Where a request names one key, what is left of it is accepted over the kept rows, and brings there what is kept.
use Rattle.std.proofs.Common.{◌≡◌, [], refl, List, Bool, ◌∷◌, true, false, ℕ, ◌++◌, ap, sym, ◌∙◌, map, cond, eqb, filter, not, Some, None, Option, ◌&&◌, option_to_list}
use Rattle.std.proofs.lemmas.List.Elements.{filter-append}
use Rattle.misp_lists.proofs.Lists.{find_first, filter_none}
use Rattle.misp_elem.proofs.Same.{target_kept}
use Rattle.misp_model.specs.Prelude.{Ask, Change, Delete, DeleteEvent, DeleteReference, EditAttribute, EditEvent, EditObject, ElemId, Element, EventId, IsClosed, Key, Place, ProposalDraft, Propose, Publish, Row, Rule, Scene, Sight}
use Rattle.misp_model.specs.Prelude.{SightingDraft, Tag, TakePart, TimeLimit, Version, as_deleted, as_published, ask_rules, at_publishing, at_tags, brings, change_rules, change_writes, changed, changed_row, counted, cut, cut_rows}
use Rattle.misp_model.specs.Prelude.{event_key, event_of, first_rule, handed_in, has_tag, is_accepted, is_held_in, is_live, last_stamp, let_out, let_out_row, list_any, own_reference, own_row_is, parents, proposal_key, propose_rules}
use Rattle.misp_model.specs.Prelude.{propose_writes, row_passes, same_event, same_org, sight_rules, sight_writes, sighting_key, taken_rows, untagged, written}
use Rattle.misp_model.specs.Closed.{where_kept, is_empty}
use Rattle.misp_model.proofs.Prelude.{and_parts, cut_scene, event_kept, false≢true, filter-map, filter_cut, find_passes, is_live_cut, same_event-sound}
use Rattle.misp_model.proofs.Scenes.{bars_cut, changed_row_cut, changed_row_kept, edit_rules_cut, holds_copy_cut, holds_tombstone_cut, is_at_limit_cut, own_any_cut, own_live_cut, own_row_is_cut, sees_cut, sees_live_cut, sees_target_cut}
use Rattle.misp_model.proofs.LookedCopy.{reference_event}
use Rattle.misp_model.specs.declared.edit.AttributeEditFields.{AttributeEditFields as AttributeEdit}
use Rattle.misp_model.specs.declared.package.PackageFields.{PackageFields as Package}
use Rattle.misp_model.specs.declared.edit.EventEditFields.{EventEditFields as EventEdit}
use Rattle.misp_model.specs.declared.edit.ObjectEditFields.{ObjectEditFields as ObjectEdit}
use Rattle.misp_model.specs.Changing.{is_reference_named}
use Rattle.misp_model.proofs.Knowing.{event_of_place_kept}
use Rattle.misp_model.proofs.Moving.{counted_cut}

-- no rows bring nothing
taken_none : (s : Scene) → taken_rows s [] ≡ []
unfolding taken_rows counted
taken_none s = refl

-- some rule refuses
unfoldable pub refuses : List (Bool × Rule) → Bool
refuses rs = list_any (λ (r : Bool × Rule). r.0) rs

-- a request is accepted where no rule refuses
accepted_step : (b : Bool) (rule : Rule) (rs : List (Bool × Rule)) → (elim (first_rule rs) [ None ↦ true | Some r ↦ false ]) ≡ not (refuses rs) →
    (elim (first_rule ((b, rule) ∷ rs)) [ None ↦ true | Some r ↦ false ]) ≡ not (refuses ((b, rule) ∷ rs))
unfolding first_rule refuses
accepted_step true rule rs ih = refl
accepted_step false rule rs ih = ih

pub accepted_is : (rs : List (Bool × Rule)) → (elim (first_rule rs) [ None ↦ true | Some r ↦ false ]) ≡ not (refuses rs)
unfolding first_rule refuses
accepted_is [] = refl
accepted_is (r ∷ rs) = accepted_step r.0 r.1 rs (accepted_is rs)

-- what is left of a request is accepted over the kept rows and brings there what is kept
pub record IsCut (keep : Key → Bool) (s : Scene) (a b : Ask) : Type 0 where
  pub accepted : is_accepted (cut_scene keep s) b ≡ true
  pub brought : brings (cut_scene keep s) b ≡ cut keep (brings s a)

-- where nothing is left, nothing is kept
abbrev pub Follows : (Key → Bool) → Scene → Ask → Option Ask → Type 0
Follows keep s a None = cut keep (brings s a) ≡ []
Follows keep s a (Some b) = IsCut keep s a b

module _ (keep : Key → Bool) (c : IsClosed keep) (s : Scene) where
  -- the rules are the same
  pub same_rules : (a b : Ask) → ask_rules (cut_scene keep s) b ≡ ask_rules s a → is_accepted s a ≡ true → is_accepted (cut_scene keep s) b ≡ true
  unfolding is_accepted
  same_rules a b e h = ap (λ rs. elim (first_rule rs) [ None ↦ true | Some r ↦ false ]) e ∙ h

  pub edit_event_follows : (e : EventId) (edit : EventEdit) (b : Bool) → keep (event_key e) ≡ b →
      is_accepted s (Ask.Change (EditEvent e edit)) ≡ true → Follows keep s (Ask.Change (EditEvent e edit)) (where_kept b (Ask.Change (EditEvent e edit)))
  unfolding where_kept brings change_writes ask_rules change_rules
  edit_event_follows e edit false k h = changed_row_kept keep c s (event_key e) _ _ false k
  edit_event_follows e edit true k h =
      record {
        accepted = same_rules (Ask.Change (EditEvent e edit)) (Ask.Change (EditEvent e edit)) (edit_rules_cut keep c s e (event_key e) _ _ _ _ _ k k refl) h;
        brought = changed_row_cut keep c s (event_key e) _ _ k ∙ sym (changed_row_kept keep c s (event_key e) _ _ true k);
      }

  pub edit_follows : (e : EventId) (p : Place) (edit : AttributeEdit) (b : Bool) → keep (Element e p) ≡ b →
      is_accepted s (Ask.Change (EditAttribute e p edit)) ≡ true → Follows keep s (Ask.Change (EditAttribute e p edit)) (where_kept b (Ask.Change (EditAttribute e p edit)))
  unfolding where_kept brings change_writes ask_rules change_rules
  edit_follows e p edit false k h = changed_row_kept keep c s (Element e p) _ _ false k
  edit_follows e p edit true k h =
      record {
        accepted = same_rules (Ask.Change (EditAttribute e p edit)) (Ask.Change (EditAttribute e p edit)) (edit_rules_cut keep c s e (Element e p) _ _ _ _ _ k (event_of_place_kept keep c e p k) (own_live_cut keep c s (Element e p) k)) h;
        brought = changed_row_cut keep c s (Element e p) _ _ k ∙ sym (changed_row_kept keep c s (Element e p) _ _ true k);
      }

  pub edit_object_follows : (e : EventId) (x : ElemId) (edit : ObjectEdit) (b : Bool) → keep (Element e (Place.Object x)) ≡ b →
      is_accepted s (Ask.Change (EditObject e x edit)) ≡ true → Follows keep s (Ask.Change (EditObject e x edit)) (where_kept b (Ask.Change (EditObject e x edit)))
  unfolding where_kept brings change_writes ask_rules change_rules
  edit_object_follows e x edit false k h = changed_row_kept keep c s (Element e (Place.Object x)) _ _ false k
  edit_object_follows e x edit true k h =
      record {
        accepted =
            same_rules (Ask.Change (EditObject e x edit)) (Ask.Change (EditObject e x edit))
            (edit_rules_cut keep c s e (Element e (Place.Object x)) _ _ _ _ _ k (event_of_place_kept keep c e (Place.Object x) k) (own_live_cut keep c s (Element e (Place.Object x)) k)) h;
        brought = changed_row_cut keep c s (Element e (Place.Object x)) _ _ k ∙ sym (changed_row_kept keep c s (Element e (Place.Object x)) _ _ true k);
      }

  pub delete_element_follows : (e : EventId) (p : Place) (b : Bool) → keep (Element e p) ≡ b →
      is_accepted s (Ask.Change (Delete e p)) ≡ true → Follows keep s (Ask.Change (Delete e p)) (where_kept b (Ask.Change (Delete e p)))
  unfolding where_kept brings change_writes ask_rules change_rules
  delete_element_follows e p false k h = changed_row_kept keep c s (Element e p) _ _ false k
  delete_element_follows e p true k h =
      record {
        accepted = same_rules (Ask.Change (Delete e p)) (Ask.Change (Delete e p)) (edit_rules_cut keep c s e (Element e p) _ _ _ _ _ k (event_of_place_kept keep c e p k) (own_live_cut keep c s (Element e p) k)) h;
        brought = changed_row_cut keep c s (Element e p) _ _ k ∙ sym (changed_row_kept keep c s (Element e p) _ _ true k);
      }

  pub tag_follows : (e : EventId) (p : Place) (tag : Tag) (b : Bool) → keep (Element e p) ≡ b →
      is_accepted s (Ask.Change (Change.Tag e p tag)) ≡ true → Follows keep s (Ask.Change (Change.Tag e p tag)) (where_kept b (Ask.Change (Change.Tag e p tag)))
  unfolding where_kept brings change_writes ask_rules change_rules
  tag_follows e p tag false k h = changed_row_kept keep c s (Element e p) _ _ false k
  tag_follows e p tag true k h =
      record {
        accepted = same_rules (Ask.Change (Change.Tag e p tag)) (Ask.Change (Change.Tag e p tag)) (edit_rules_cut keep c s e (Element e p) _ _ _ _ _ k (event_of_place_kept keep c e p k) (own_live_cut keep c s (Element e p) k)) h;
        brought = changed_row_cut keep c s (Element e p) _ _ k ∙ sym (changed_row_kept keep c s (Element e p) _ _ true k);
      }

  -- taking a tag away changes the row only where it has the tag
  untag_writes : (t : Bool) (e : EventId) (p : Place) (name : List ℕ) (b : Bool) → keep (Element e p) ≡ b →
      cut keep (cond t (changed_row s (Element e p) (λ row. row.label) (at_tags (untagged name))) []) ≡ cond b (cond t (changed_row s (Element e p) (λ row. row.label) (at_tags (untagged name))) []) []
  unfolding cut
  untag_writes true e p name b k = changed_row_kept keep c s (Element e p) _ _ b k
  untag_writes false e p name true k = refl
  untag_writes false e p name false k = refl

  pub untag_follows : (e : EventId) (p : Place) (name : List ℕ) (b : Bool) → keep (Element e p) ≡ b →
      is_accepted s (Ask.Change (Change.Untag e p name)) ≡ true → Follows keep s (Ask.Change (Change.Untag e p name)) (where_kept b (Ask.Change (Change.Untag e p name)))
  unfolding where_kept brings change_writes ask_rules change_rules
  untag_follows e p name false k h = untag_writes (own_row_is s (Element e p) (has_tag name)) e p name false k
  untag_follows e p name true k h =
      record {
        accepted = same_rules (Ask.Change (Change.Untag e p name)) (Ask.Change (Change.Untag e p name))
            (rw (
              bars_cut keep c s e _ _ (event_of_place_kept keep c e p k) (own_live_cut keep c s (Element e p) k),
              own_row_is_cut keep c s (Element e p) (λ row. has_tag name row && eqb row.stamp last_stamp) k,
            ) refl) h;
        brought =
            (λ i. cond (own_row_is_cut keep c s (Element e p) (has_tag name) k i) (changed_row_cut keep c s (Element e p) (λ row. row.label) (at_tags (untagged name)) k i) [])
            ∙ sym (untag_writes (own_row_is s (Element e p) (has_tag name)) e p name true k);
      }

  own_reference_cut : (e : EventId) (x u : ElemId) (row : Row) → own_reference s e x u ≡ Some row → keep row.key ≡ true → own_reference (cut_scene keep s) e x u ≡ Some row
  unfolding own_reference cut_scene cut_rows
  own_reference_cut e x u row h k =
      find_first (λ r. same_org r.owner s.by && (is_reference_named e x u r.key && is_live (cut_rows keep s.rows) r)) (λ r. same_org r.owner s.by && (is_reference_named e x u r.key && is_live s.rows r)) (λ r. keep r.key)
      (λ r g. ap (λ b. same_org r.owner s.by && (is_reference_named e x u r.key && b)) (is_live_cut keep c s.rows r g)) s.rows row h k

  reference_in_event : (e : EventId) (x u : ElemId) (row : Row) → own_reference s e x u ≡ Some row → same_event (event_of row.key) e ≡ true
  unfolding own_reference
  reference_in_event e x u row h =
      reference_event e x u row.key (and_parts _ _ (and_parts _ _ (find_passes (λ r. same_org r.owner s.by && (is_reference_named e x u r.key && is_live s.rows r)) s.rows row h)).1).0

  -- the version of a deleted reference
  reference_writes : Scene → Option Row → List Version
  reference_writes t o = map (λ row. changed t row row.label (as_deleted row.content)) (option_to_list o)

  reference_written_none : (row : Row) → keep row.key ≡ false → cut keep (reference_writes s (Some row)) ≡ []
  unfolding cut reference_writes changed written
  reference_written_none row k = rw k refl

  reference_written : (row : Row) → keep row.key ≡ true → reference_writes (cut_scene keep s) (Some row) ≡ cut keep (reference_writes s (Some row))
  unfolding cut reference_writes changed written cut_scene
  reference_written row k = sym (rw k refl)

  reference_rules : (e : EventId) (x u : ElemId) (row : Row) → own_reference s e x u ≡ Some row → keep row.key ≡ true →
      change_rules (cut_scene keep s) (DeleteReference e x u) ≡ change_rules s (DeleteReference e x u)
  unfolding change_rules
  reference_rules e x u row f k =
      let same : own_reference (cut_scene keep s) e x u ≡ own_reference s e x u = own_reference_cut e x u row f k ∙ sym f in
      let event : keep (event_key e) ≡ true = ap (λ y. keep (event_key y)) (sym (same_event-sound (event_of row.key) e (reference_in_event e x u row f))) ∙ event_kept keep c row.key k in
      (λ i. bars_cut keep c s e _ _ event (ap (row_passes (λ row. true)) same) i ++ (ap (row_passes (λ row. eqb row.stamp last_stamp)) same i, TimeLimit) ∷ [])

  reference_left : (e : EventId) (x u : ElemId) (o : Option Row) → own_reference s e x u ≡ o → (b : Bool) → row_passes (λ row. keep row.key) o ≡ b →
      is_accepted s (Ask.Change (DeleteReference e x u)) ≡ true → Follows keep s (Ask.Change (DeleteReference e x u)) (where_kept b (Ask.Change (DeleteReference e x u)))
  unfolding brings change_writes where_kept ask_rules row_passes reference_writes cut
  reference_left e x u None f false k h = ap (λ o. cut keep (reference_writes s o)) f
  reference_left e x u None f true k h = absurd (false≢true k)
  reference_left e x u (Some row) f false k h = ap (λ o. cut keep (reference_writes s o)) f ∙ reference_written_none row k
  reference_left e x u (Some row) f true k h =
      record {
        accepted = same_rules (Ask.Change (DeleteReference e x u)) (Ask.Change (DeleteReference e x u)) (reference_rules e x u row f k) h;
        brought = ap (reference_writes (cut_scene keep s)) (own_reference_cut e x u row f k) ∙ reference_written row k ∙ sym (ap (λ o. cut keep (reference_writes s o)) f);
      }

  pub delete_reference_follows : (e : EventId) (x u : ElemId) →
      is_accepted s (Ask.Change (DeleteReference e x u)) ≡ true →
      Follows keep s (Ask.Change (DeleteReference e x u)) (where_kept (row_passes (λ row. keep row.key) (own_reference s e x u)) (Ask.Change (DeleteReference e x u)))
  delete_reference_follows e x u h = reference_left e x u (own_reference s e x u) refl _ refl h

  pub sight_follows : (e : EventId) (t : Place) (d : SightingDraft) (b : Bool) → keep (sighting_key s e t d) ≡ b →
      is_accepted s (Sight e t d) ≡ true → Follows keep s (Sight e t d) (where_kept b (Sight e t d))
  unfolding where_kept brings ask_rules sight_rules sight_writes sighting_key cut written event_of parents cut_scene
  sight_follows e t d false k h = rw k refl
  sight_follows e t d true k h =
      record {
        accepted = same_rules (Sight e t d) (Sight e t d)
            (rw (
              sees_live_cut keep c s (Element e t) (target_kept keep e t (c.above _ k)),
              holds_tombstone_cut keep c s e (event_kept keep c _ k),
              own_any_cut keep c s (sighting_key s e t d) k,
            ) refl) h;
        brought = rw k refl;
      }

  pub delete_follows : (e : EventId) (b : Bool) → keep (event_key e) ≡ b →
      is_accepted s (Ask.Change (DeleteEvent e)) ≡ true → Follows keep s (Ask.Change (DeleteEvent e)) (where_kept b (Ask.Change (DeleteEvent e)))
  unfolding where_kept brings change_writes ask_rules change_rules
  delete_follows e false k h = changed_row_kept keep c s (event_key e) _ _ false k
  delete_follows e true k h =
      record {
        accepted = same_rules (Ask.Change (DeleteEvent e)) (Ask.Change (DeleteEvent e))
            (rw (holds_copy_cut keep c s e k, sees_cut keep c s (event_key e) k, is_at_limit_cut keep c s (event_key e) k) refl) h;
        brought = changed_row_cut keep c s (event_key e) _ _ k ∙ sym (changed_row_kept keep c s (event_key e) _ _ true k);
      }

  -- what a publishing lets out of the kept rows
  let_out_cut : (e : EventId) → let_out (cut_scene keep s) e ≡ cut keep (let_out s e)
  unfolding let_out let_out_row is_held_in cut cut_scene cut_rows
  let_out_cut e =
      ap (map (let_out_row s)) (filter_cut (is_held_in s e) (is_held_in s e) (λ row. keep row.key) (λ row h. refl) s.rows)
      ∙ sym (filter-map (let_out_row s) (λ v. keep v.key) (filter (is_held_in s e) s.rows))

  -- a key of an event that is not kept is not kept
  pub not_kept : (k : Key) (e : EventId) → same_event (event_of k) e ≡ true → keep (event_key e) ≡ false → (b : Bool) → keep k ≡ b → b ≡ false
  not_kept k e h f false g = refl
  not_kept k e h f true g = absurd (false≢true (sym f ∙ ap (λ x. keep (event_key x)) (sym (same_event-sound (event_of k) e h)) ∙ event_kept keep c k g))

  let_out_none : (e : EventId) → keep (event_key e) ≡ false → cut keep (let_out s e) ≡ []
  unfolding let_out let_out_row cut is_held_in
  let_out_none e h =
      filter-map (let_out_row s) (λ v. keep v.key) (filter (is_held_in s e) s.rows)
      ∙ ap (map (let_out_row s)) (filter_none (is_held_in s e) (λ row. keep row.key)
      (λ row g. not_kept row.key e (and_parts _ _ (and_parts _ _ g).1).0 h (keep row.key) refl) s.rows)

  as_published_cut : (vs : List Version) → cut keep (map as_published vs) ≡ map as_published (cut keep vs)
  unfolding cut as_published
  as_published_cut vs = filter-map as_published (λ v. keep v.key) vs

  pub publish_follows : (e : EventId) (b : Bool) → keep (event_key e) ≡ b →
      is_accepted s (Ask.Change (Publish e)) ≡ true → Follows keep s (Ask.Change (Publish e)) (where_kept b (Ask.Change (Publish e)))
  unfolding where_kept brings change_writes ask_rules change_rules cut cut_scene
  publish_follows e false k h =
      filter-append (λ v. keep v.key) (map as_published (changed_row s (event_key e) (λ row. row.label) (at_publishing s.now))) (let_out s e)
      ∙ (λ i. published i ++ let_out_none e k i)
    where
      published : filter (λ (v : Version). keep v.key) (map as_published (changed_row s (event_key e) (λ row. row.label) (at_publishing s.now))) ≡ []
      published = as_published_cut _ ∙ ap (map as_published) (changed_row_kept keep c s (event_key e) _ _ false k)
  publish_follows e true k h =
      record {
        accepted = same_rules (Ask.Change (Publish e)) (Ask.Change (Publish e))
            (rw (bars_cut keep c s e true true k refl, is_at_limit_cut keep c s (event_key e) k) refl) h;
        brought =
            (λ i. map as_published (changed_row_cut keep c s (event_key e) (λ row. row.label) (at_publishing s.now) k i) ++ let_out_cut e i)
            ∙ (λ i. (sym published) i ++ cut keep (let_out s e))
            ∙ sym (filter-append (λ v. keep v.key) (map as_published (changed_row s (event_key e) (λ row. row.label) (at_publishing s.now))) (let_out s e));
      }
    where
      published : filter (λ (v : Version). keep v.key) (map as_published (changed_row s (event_key e) (λ row. row.label) (at_publishing s.now)))
          ≡ map as_published (changed_row s (event_key e) (λ row. row.label) (at_publishing s.now))
      published = as_published_cut _ ∙ ap (map as_published) (changed_row_kept keep c s (event_key e) _ _ true k)

  pub propose_follows : (d : ProposalDraft) (b : Bool) → keep (proposal_key s d) ≡ b →
      is_accepted s (Propose d) ≡ true → Follows keep s (Propose d) (where_kept b (Propose d))
  unfolding where_kept brings ask_rules propose_rules propose_writes proposal_key cut written event_of parents cut_scene
  propose_follows d false k h = rw k refl
  propose_follows d true k h =
      record {
        accepted = same_rules (Propose d) (Propose d)
            (rw (
              sees_target_cut keep c s d.event d.target (target_kept keep d.event d.target (c.above _ k)),
              holds_tombstone_cut keep c s d.event (event_kept keep c _ k),
              own_any_cut keep c s (proposal_key s d) k,
            ) refl) h;
        brought = rw k refl;
      }

  -- the kept rows of a package count where they did
  taken_cut : (rows : List Row) → taken_rows (cut_scene keep s) (cut_rows keep rows) ≡ cut keep (taken_rows s rows)
  unfolding taken_rows cut_scene cut_rows cut handed_in
  taken_cut rows =
      ap (counted (cut_rows keep s.rows) s.groups) (sym (filter-map (handed_in s.act s.at s.by) (λ v. keep v.key) rows))
      ∙ counted_cut keep c s.rows s.groups (map (handed_in s.act s.at s.by) rows)

  pub empty_is : {A : Type 0} (xs : List A) → is_empty xs ≡ true → xs ≡ []
  unfolding is_empty
  empty_is [] h = refl
  empty_is (x ∷ xs) h = absurd (false≢true h)

  pub take_follows : (p : Package) (b : Bool) → is_empty (cut_rows keep p.rows) ≡ b →
      is_accepted s (TakePart p) ≡ true → Follows keep s (TakePart p) (where_kept (not b) (TakePart (record p { rows = cut_rows keep p.rows })))
  unfolding where_kept brings ask_rules is_accepted first_rule
  take_follows p true k h = sym (taken_cut p.rows) ∙ ap (taken_rows (cut_scene keep s)) (empty_is (cut_rows keep p.rows) k) ∙ taken_none (cut_scene keep s)
  take_follows p false k h = record { accepted = refl; brought = taken_cut p.rows }
