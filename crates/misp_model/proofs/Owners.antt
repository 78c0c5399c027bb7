-- What a request brings is the caller's, and of its act.
use Rattle.std.proofs.Common.{◌≡◌, List, [], ◌∷◌, Bool, true, refl, false, map, cond, Option, Some, None, option_to_list, option_map, filter_map}
use Rattle.misp_lists.proofs.Lists.{all-map, all_both}
use Rattle.misp_model.specs.Prelude.{AddEvent, AddParts, Ask, Change, Content, Delete, DeleteEvent, DeleteReference, EditAttribute, EditEvent, EditObject, Element, EventId, Groups, Index, Search, Judge, Key, Label, ProposalBody, ProposalName}
use Rattle.misp_model.specs.Prelude.{Propose, Publish, ReferenceDraft, Row, Scene, Sight, Stamp, Submission, SyncEvents, SyncGroups, SyncManifest, SyncPart, SyncRows, TakePart, Version, View, acceptance, accepted, as_deleted, as_published, at_attribute, at_publishing, at_tags, body_seen, brings}
use Rattle.misp_model.specs.Prelude.{change_writes, changed, changed_row, counted, event_key, handed_in, has_tag, is_for_new, judge_writes, judged_place, let_out, let_out_row, list_all, made, own_reference, own_row, own_row_is}
use Rattle.misp_model.specs.Prelude.{part_version, parts_written, propose_writes, same_inst, sight_writes, taken_rows, untagged, written}
use Rattle.misp_model.proofs.Prelude.{all-filter, and_from, and_parts, cons_option, event_written, new_event, reference_key, reference_version, same_inst-refl}

module _ {X Y : Type 0} where
  all-filter_map : (p : Y → Bool) (f : X → Option Y) → ((x : X) → list_all p (option_to_list (f x)) ≡ true) → (xs : List X) → list_all p (filter_map f xs) ≡ true
  all-filter_map p f h [] = refl
  all-filter_map p f h (x ∷ xs) = one (f x) (h x) (all-filter_map p f h xs)
    where
      one : (o : Option Y) → list_all p (option_to_list o) ≡ true → list_all p (filter_map f xs) ≡ true → list_all p (cons_option o (filter_map f xs)) ≡ true
      one None g ih = ih
      one (Some y) g ih = and_from _ _ (and_parts _ _ g).0 ih

module _ (s : Scene) (own : Version → Bool)
    (written_is : (k : Key) (t : Stamp) (l : Label) (c : Content) → own (written s k t l c) ≡ true)
    (published_is : (v : Version) → own v ≡ true → own (as_published v) ≡ true)
    (let_out_is : (row : Row) → own (let_out_row s row) ≡ true)
    (handed_is : (row : Row) → own (handed_in s.act s.at s.by row) ≡ true) where
  changed_row_own : (k : Key) (l : Row → Label) (f : Content → Content) → list_all own (changed_row s k l f) ≡ true
  unfolding changed_row changed
  changed_row_own k l f = all-map own (λ row. changed s row (l row) (f row.content)) (λ row. written_is _ _ _ _) (option_to_list (own_row s k))

  parts_own : (b : Submission) → list_all own (parts_written s b) ≡ true
  unfolding parts_written part_version reference_version
  parts_own b = all_both own _ _ (all-map own (part_version s b.event) (λ d. written_is _ _ _ _) b.parts) (all-filter_map own (reference_version s b.event b.parts) (λ r. one r (reference_key s b.event b.parts r)) b.references)
    where
      one : (r : ReferenceDraft) (o : Option Key) → list_all own (option_to_list (option_map (λ k. written s k s.now Label.Inherit (Content.Reference r.body)) o)) ≡ true
      one r None = refl
      one r (Some k) = and_from _ _ (written_is _ _ _ _) refl

  acceptance_own : (e : EventId) (n : ProposalName) (p : ProposalBody) → list_all own (acceptance s e n p) ≡ true
  unfolding acceptance
  acceptance_own e n p = choice (is_for_new n)
    where
      choice : (b : Bool)
          → list_all own (cond b (written s (Element e (judged_place n)) s.now Label.Inherit (Content.Attribute (made p)) ∷ []) (changed_row s (Element e (judged_place n)) (λ row. row.label) (at_attribute (accepted p))))
          ≡ true
      choice true = and_from _ _ (written_is _ _ _ _) refl
      choice false = changed_row_own _ _ _

  change_own : (c : Change) → list_all own (change_writes s c) ≡ true
  unfolding change_writes event_written changed let_out
  change_own (AddEvent b) = all_both own _ _ (all-map own (λ d. written s (event_key b.event) s.now b.label (Content.Event (new_event s d))) (λ d. written_is _ _ _ _) (option_to_list b.body)) (parts_own b)
  change_own (AddParts e b) = parts_own b
  change_own (EditAttribute e p edit) = changed_row_own _ _ _
  change_own (EditEvent e edit) = changed_row_own _ _ _
  change_own (EditObject e x edit) = changed_row_own _ _ _
  change_own (Delete e p) = changed_row_own _ _ _
  change_own (DeleteReference e x u) = all-map own (λ row. changed s row row.label (as_deleted row.content)) (λ row. written_is _ _ _ _) (option_to_list (own_reference s e x u))
  change_own (Change.Tag e p tag) = changed_row_own _ _ _
  change_own (Change.Untag e p name) = choice (own_row_is s (Element e p) (has_tag name))
    where
      choice : (b : Bool) → list_all own (cond b (changed_row s (Element e p) (λ row. row.label) (at_tags (untagged name))) []) ≡ true
      choice true = changed_row_own _ _ _
      choice false = refl
  change_own (DeleteEvent e) = changed_row_own _ _ _
  change_own (Publish e) =
      all_both own _ _ (published (changed_row s (event_key e) (λ row. row.label) (at_publishing s.now)) (changed_row_own _ _ _))
      (all-map own (let_out_row s) let_out_is _)
    where
      published : (vs : List Version) → list_all own vs ≡ true → list_all own (map as_published vs) ≡ true
      published [] h = refl
      published (v ∷ vs) h = and_from _ _ (published_is v (and_parts _ _ h).0) (published vs (and_parts _ _ h).1)

  pub brings_each : (a : Ask) → list_all own (brings s a) ≡ true
  unfolding brings propose_writes judge_writes sight_writes taken_rows counted
  brings_each (View e owner) = refl
  brings_each (Ask.Change c) = change_own c
  brings_each (Propose d) = and_from _ _ (written_is _ _ _ _) refl
  brings_each (Judge e n accept) = and_from _ _ (written_is _ _ _ _) (choice accept (body_seen s e n))
    where
      choice : (b : Bool) (o : Option ProposalBody) → list_all own (cond b (elim o [ None ↦ [] | Some p ↦ acceptance s e n p ]) []) ≡ true
      choice true None = refl
      choice true (Some p) = acceptance_own e n p
      choice false o = refl
  brings_each (Sight e t d) = and_from _ _ (written_is _ _ _ _) refl
  brings_each (Index page) = refl
  brings_each (Search filter whole) = refl
  brings_each Groups = refl
  brings_each SyncGroups = refl
  brings_each SyncEvents = refl
  brings_each (SyncPart e n) = refl
  brings_each SyncManifest = refl
  brings_each (SyncRows w) = refl
  brings_each (TakePart p) = all-filter own _ _ (all-map own (handed_in s.act s.at s.by) handed_is p.rows)

-- and at its instance
pub brings_here : (s : Scene) (a : Ask) → list_all (λ v. same_inst v.at s.at) (brings s a) ≡ true
unfolding written as_published let_out_row handed_in
brings_here s a = brings_each s (λ v. same_inst v.at s.at) (λ k t l c. same_inst-refl s.at) (λ v h. h) (λ row. same_inst-refl s.at) (λ row. same_inst-refl s.at) a
