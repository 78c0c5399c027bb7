-- What is left of adding an event or parts is accepted over the kept rows, and brings there what is kept.
use Rattle.std.proofs.Common.{◌≡◌, Bool, true, false, refl, sym, arith, ap, ℕ, List, [], ◌∷◌, ◌++◌, map, eqb, ◌∙◌, ◌&&◌, ◌||◌, not, Option, Some, None, option_map, option_to_list, eq-eqb, filter, find, filter_map}
use Rattle.misp_history.proofs.Prelude.{AddEvent, AddParts, Ask, Content, Draft, ElemId, Element, EventId, IsClosed, Key, Label, Place, Reference, ReferenceDraft, Row, Rule, Scene, Submission, Version, above, and_from, and_parts, any_cut}
use Rattle.misp_history.proofs.Prelude.{any_weaker, are_distinct, ask_rules, bars, brings, change_rules, change_writes, clashes, cut, cut_rows, event_key, event_of, event_written, false≢true, filter-map, filter_cut, filter_never}
use Rattle.misp_history.proofs.Prelude.{find_passes, has_target, has_unusable, holds_copy, holds_home, holds_tombstone, is_accepted, is_live, is_taken, list_all, list_any, new_event, none_refuses, not-false, or_from, or_parts, parents}
use Rattle.misp_history.proofs.Prelude.{part_version, parts_written, reference_key, reference_version, refuses, same_event, same_event-sound, same_org, target_in_copy, target_of, uuid_at, uuids_of, written}
use Rattle.std.proofs.lemmas.List.Elements.{filter-append}
use Rattle.misp_lists.proofs.Lists.{all_cut, any_none_cut, find_first, find_none, none_not_some, some_same}
use Rattle.misp_elem.specs.Draft.{EventDraftFields as EventDraft}
use Rattle.misp_elem.proofs.Same.{same_place-sound, target_kept}
use Rattle.misp_model.proofs.Prelude.{ElementExists, EventExists, EventGone, GroupNotUsable, NotGranted, cut_scene, is_live_cut, is_place_of, is_target_key, place_in, same_place, sees}
use Rattle.misp_model.specs.Adding.{brings_object, fits_parts, object_is_there, part_fits, reference_fits}
use Rattle.misp_model.specs.Scene.{LockedCopy, NotOwner, is_usable, own_live}
use Rattle.misp_model.specs.Closed.{cut_body, is_empty, keeps_reference, where_kept}
use Rattle.misp_model.proofs.Scenes.{holds_copy_cut, holds_home_cut, holds_tombstone_cut, is_taken_cut, is_usable_cut, own_live_cut, sees_cut}
use Rattle.misp_model.proofs.Plain_requests.{Follows, empty_is, not_kept}
use Rattle.misp_model.proofs.Judging.{is_accepted_where, refuses_less}

-- a bar that refuses less where more fits
bar_less : (a h f g : Bool) → (f ≡ true → g ≡ true) → (a || h && not f) ≡ false → (a || h && not g) ≡ false
bar_less a h f g k e = grind arith

-- where the last test holds anyway
fits_by : (a b t x y u : Bool) → (x || y) ≡ (a || b) → u ≡ true → (a || b && t) ≡ true → (x || y && u) ≡ true
fits_by a b t x y u h k g = grind (arith, h, k, g)

-- the key of a target is its element's
target_key_is : (u : ElemId) (e : EventId) (k : Key) → is_target_key u k ≡ true → same_event (event_of k) e ≡ true → k ≡ Element e (place_in k)
unfolding is_target_key event_of place_in
target_key_is u e (Element f p) h g = ap (λ x. Element x p) (same_event-sound f e g)
target_key_is u e _ h g = absurd (false≢true h)

module _ {X Y : Type 0} where
  -- no number of two lists, and so none of their parts
  any_parts : (p : ℕ → Bool) (f : X → ℕ) (q : X → Bool) (g : Y → ℕ) (r : Y → Bool) (xs : List X) (ys : List Y) →
      list_any p (map f xs ++ map g ys) ≡ false → list_any p (map f (filter q xs) ++ map g (filter r ys)) ≡ false
  any_parts p f q g r [] [] h = refl
  any_parts p f q g r [] (y ∷ ys) h = grind (arith, any_parts p f q g r [] ys)
  any_parts p f q g r (x ∷ xs) ys h = grind (arith, any_parts p f q g r xs ys)

  distinct_parts : (f : X → ℕ) (q : X → Bool) (g : Y → ℕ) (r : Y → Bool) (xs : List X) (ys : List Y) →
      are_distinct (map f xs ++ map g ys) ≡ true → are_distinct (map f (filter q xs) ++ map g (filter r ys)) ≡ true
  unfolding are_distinct
  distinct_parts f q g r [] [] h = refl
  distinct_parts f q g r [] (y ∷ ys) h = grind (arith, distinct_parts f q g r [] ys, any_parts (eqb (g y)) f q g r [] ys)
  distinct_parts f q g r (x ∷ xs) ys h = grind (arith, distinct_parts f q g r xs ys, any_parts (eqb (f x)) f q g r xs ys)

some_from : {A B : Type 0} (f : A → B) (o : Option A) (t : B) → option_map f o ≡ Some t → (x : A) × (o ≡ Some x) × (f x ≡ t)
some_from f None t h = absurd (none_not_some h)
some_from f (Some x) t h = (x, refl, some_same (f x) t h)

module _ (keep : Key → Bool) (c : IsClosed keep) (s : Scene) (e : EventId) (parts : List Draft) where
  -- the parts that are kept
  abbrev kept_part : Draft → Bool
  kept_part d = keep (Element e d.place)

  target_in_copy_cut : (u : ElemId) (t : Place) → target_in_copy s e u ≡ Some t → keep (Element e t) ≡ true → target_in_copy (cut_scene keep s) e u ≡ Some t
  unfolding target_in_copy cut_scene cut_rows
  target_in_copy_cut u t h k =
      let f = some_from (λ (row : Row). place_in row.key) (find (is_it s.rows) s.rows) t h in
      let passed : (same_event (event_of f.0.key) e && (is_target_key u f.0.key && is_live s.rows f.0)) ≡ true = (and_parts _ _ (find_passes (is_it s.rows) s.rows f.0 f.1)).1 in
      let key_is : f.0.key ≡ Element e (place_in f.0.key) = target_key_is u e f.0.key (and_parts _ _ (and_parts _ _ passed).1).0 (and_parts _ _ passed).0 in
      ap (option_map (λ row. place_in row.key))
      (find_first (is_it (cut_rows keep s.rows)) (is_it s.rows) (λ row. keep row.key)
      (λ row h. ap (λ b. same_org row.owner s.by && (same_event (event_of row.key) e && (is_target_key u row.key && b))) (is_live_cut keep c s.rows row h)) s.rows f.0 f.1
      (ap keep key_is ∙ ap (λ p. keep (Element e p)) f.2 ∙ k))
      ∙ ap Some f.2
    where
      is_it : List Row → Row → Bool
      is_it rows row = same_org row.owner s.by && (same_event (event_of row.key) e && (is_target_key u row.key && is_live rows row))

  target_cut : (u : ElemId) (t : Place) → target_of s e parts u ≡ Some t → keep (Element e t) ≡ true → target_of (cut_scene keep s) e (filter kept_part parts) u ≡ Some t
  unfolding target_of
  target_cut u t h k = one (find (λ d. is_place_of u d.place) parts) refl h
    where
      one : (o : Option Draft) → find (λ d. is_place_of u d.place) parts ≡ o → (elim o [ Some d ↦ Some d.place | None ↦ target_in_copy s e u ]) ≡ Some t →
          (elim (find (λ d. is_place_of u d.place) (filter kept_part parts)) [ Some d ↦ Some d.place | None ↦ target_in_copy (cut_scene keep s) e u ]) ≡ Some t
      one None f g =
          ap (λ o. elim o as (λ x. Option Place) [ Some d ↦ Some d.place | None ↦ target_in_copy (cut_scene keep s) e u ]) (find_none (λ d. is_place_of u d.place) (λ d. is_place_of u d.place) kept_part (λ d h. refl) parts f)
          ∙ target_in_copy_cut u t g k
      one (Some d) f g =
          ap (λ o. elim o as (λ x. Option Place) [ Some d ↦ Some d.place | None ↦ target_in_copy (cut_scene keep s) e u ])
          (find_first (λ d. is_place_of u d.place) (λ d. is_place_of u d.place) kept_part (λ d h. refl) parts d f (ap (λ p. keep (Element e p)) (some_same d.place t g) ∙ k))
          ∙ g

  -- the key of a reference of the body, where it is kept, has its target kept
  reference_target : (r : ReferenceDraft) (t : Place) → keep (Reference e r.object t r.uuid) ≡ true → keep (Element e t) ≡ true
  unfolding parents
  reference_target r t h = target_kept keep e t (and_parts _ _ (c.above _ h)).1

  reference_key_cut : (r : ReferenceDraft) (k : Key) → reference_key s e parts r ≡ Some k → keep k ≡ true → reference_key (cut_scene keep s) e (filter kept_part parts) r ≡ Some k
  unfolding reference_key
  reference_key_cut r k h g =
      let f = some_from (λ t. Reference e r.object t r.uuid) (target_of s e parts r.referenced) k h in
      ap (option_map (λ t. Reference e r.object t r.uuid)) (target_cut r.referenced f.0 f.1 (reference_target r f.0 (ap keep f.2 ∙ g))) ∙ ap Some f.2

  -- the reference's key is kept
  abbrev kept_key : Option Key → Bool
  kept_key o = elim o as (λ x. Bool) [ None ↦ false | Some k ↦ keep k ]

  abbrev kept_reference : ReferenceDraft → Bool
  kept_reference r = kept_key (reference_key s e parts r)

  -- the version of a reference with this key
  abbrev reference_at : ReferenceDraft → Key → Version
  reference_at r k = written s k s.now Label.Inherit (Content.Reference r.body)

  one_reference : (r : ReferenceDraft) (refs : List ReferenceDraft) (o : Option Key) → reference_key s e parts r ≡ o → (b : Bool) → kept_key o ≡ b →
      cut keep (filter_map (reference_version s e parts) refs) ≡ filter_map (reference_version (cut_scene keep s) e (filter kept_part parts)) (filter kept_reference refs) →
      cut keep (filter_map (reference_version s e parts) (r ∷ refs)) ≡ filter_map (reference_version (cut_scene keep s) e (filter kept_part parts)) (filter kept_reference (r ∷ refs))
  unfolding cut written reference_version cut_scene
  one_reference r refs None f b h ih = rw f ih
  one_reference r refs (Some k) f false h ih = rw (f, h) ih
  one_reference r refs (Some k) f true h ih = rw (f, h, reference_key_cut r k f h) (ap (λ vs. reference_at r k ∷ vs) ih)

  references_cut : (refs : List ReferenceDraft) →
      cut keep (filter_map (reference_version s e parts) refs) ≡ filter_map (reference_version (cut_scene keep s) e (filter kept_part parts)) (filter kept_reference refs)
  unfolding cut
  references_cut [] = refl
  references_cut (r ∷ refs) = one_reference r refs (reference_key s e parts r) refl (kept_reference r) refl (references_cut refs)

  parts_cut : cut keep (map (part_version s e) parts) ≡ map (part_version (cut_scene keep s) e) (filter kept_part parts)
  unfolding cut part_version written cut_scene
  parts_cut = filter-map (part_version s e) (λ v. keep v.key) parts

module _ (keep : Key → Bool) (c : IsClosed keep) (s : Scene) (b : Submission) where
  -- what is written of the kept parts and references is what is kept
  pub parts_written_cut : cut keep (parts_written s b) ≡ parts_written (cut_scene keep s) (cut_body keep s b)
  unfolding cut parts_written cut_body keeps_reference
  parts_written_cut =
      filter-append (λ v. keep v.key) (map (part_version s b.event) b.parts) (filter_map (reference_version s b.event b.parts) b.references)
      ∙ (λ i. parts_cut keep c s b.event b.parts i ++ references_cut keep c s b.event b.parts b.references i)

  -- a kept reference has a target, here and there
  kept_has_target : (r : ReferenceDraft) → keeps_reference keep s b r ≡ true → (has_target s b r ≡ true) × (has_target (cut_scene keep s) (cut_body keep s b) r ≡ true)
  unfolding keeps_reference has_target cut_body reference_key
  kept_has_target r h = one (target_of s b.event b.parts r.referenced) refl h
    where
      is_some : Option Place → Bool
      is_some o = elim o as (λ x. Bool) [ None ↦ false | Some t ↦ true ]

      one : (o : Option Place) → target_of s b.event b.parts r.referenced ≡ o → kept_key keep c s b.event b.parts (option_map (λ t. Reference b.event r.object t r.uuid) o) ≡ true →
          (is_some (target_of s b.event b.parts r.referenced) ≡ true) × (is_some (target_of (cut_scene keep s) b.event (filter (kept_part keep c s b.event b.parts) b.parts) r.referenced) ≡ true)
      one None f h = absurd (false≢true h)
      one (Some t) f h = (ap is_some f, ap is_some (target_cut keep c s b.event b.parts r.referenced t f (reference_target keep c s b.event b.parts r t h)))

  targets_cut : filter (has_target (cut_scene keep s) (cut_body keep s b)) (filter (keeps_reference keep s b) b.references) ≡ filter (keeps_reference keep s b) (filter (has_target s b) b.references)
  targets_cut =
      filter_cut (has_target (cut_scene keep s) (cut_body keep s b)) (has_target s b) (keeps_reference keep s b)
      (λ r h. (kept_has_target r h).1 ∙ sym (kept_has_target r h).0) b.references

  pub clashes_less : clashes s b ≡ false → clashes (cut_scene keep s) (cut_body keep s b) ≡ false
  unfolding clashes uuids_of cut_body
  clashes_less h =
      let e : EventId = b.event in
      let old : (not (are_distinct (uuids_of s b)) ≡ false) × (list_any (is_taken s e) (uuids_of s b) ≡ false) = or_parts _ _ h in
      or_from _ _
      (ap (λ us. not (are_distinct us)) same_uuids
      ∙ ap not (distinct_parts (λ d. uuid_at e d.place) (λ d. keep (Element e d.place)) (λ r. r.uuid.0.0) (keeps_reference keep s b) b.parts (filter (has_target s b) b.references) (not-false _ old.0)))
      (ap (list_any (is_taken (cut_scene keep s) e)) same_uuids
      ∙ any_parts (is_taken (cut_scene keep s) e) (λ d. uuid_at e d.place) (λ d. keep (Element e d.place)) (λ r. r.uuid.0.0) (keeps_reference keep s b) b.parts (filter (has_target s b) b.references)
      (any_weaker (is_taken s e) (is_taken (cut_scene keep s) e) (λ u g. is_taken_cut keep c s e u g) (uuids_of s b) old.1))
    where
      same_uuids : uuids_of (cut_scene keep s) (cut_body keep s b)
          ≡ map (λ d. uuid_at b.event d.place) (filter (λ d. keep (Element b.event d.place)) b.parts) ++ map (λ r. r.uuid.0.0) (filter (keeps_reference keep s b) (filter (has_target s b) b.references))
      same_uuids = ap (λ refs. map (λ (d : Draft). uuid_at b.event d.place) (filter (λ d. keep (Element b.event d.place)) b.parts) ++ map (λ (r : ReferenceDraft). r.uuid.0.0) refs) targets_cut

  pub has_unusable_less : has_unusable s b ≡ false → has_unusable (cut_scene keep s) (cut_body keep s b) ≡ false
  unfolding has_unusable cut_body
  has_unusable_less h =
      let old : (not (is_usable s b.label) ≡ false) × (list_any (λ d. not (is_usable s d.label)) b.parts ≡ false) = or_parts _ _ h in
      or_from _ _ (ap not (is_usable_cut keep c s b.label) ∙ old.0)
      (any_weaker (λ d. not (is_usable s d.label)) (λ d. not (is_usable (cut_scene keep s) d.label)) (λ d g. ap not (is_usable_cut keep c s d.label) ∙ g) (filter (λ d. keep (Element b.event d.place)) b.parts)
      (any_none_cut (λ d. not (is_usable s d.label)) (λ d. keep (Element b.event d.place)) b.parts old.1))

  -- the event's own version is kept with its key
  event_version_kept : (o : Option EventDraft) → keep (event_key b.event) ≡ true →
      cut keep (map (λ d. written s (event_key b.event) s.now b.label (Content.Event (new_event s d))) (option_to_list o))
      ≡ map (λ d. written s (event_key b.event) s.now b.label (Content.Event (new_event s d))) (option_to_list o)
  unfolding cut written
  event_version_kept None h = refl
  event_version_kept (Some d) h = rw h refl

  event_version_none : (o : Option EventDraft) → keep (event_key b.event) ≡ false →
      cut keep (map (λ d. written s (event_key b.event) s.now b.label (Content.Event (new_event s d))) (option_to_list o)) ≡ []
  unfolding cut written
  event_version_none None h = refl
  event_version_none (Some d) h = rw h refl

  -- of an event that is not kept no part is
  no_parts : keep (event_key b.event) ≡ false → filter (λ d. keep (Element b.event d.place)) b.parts ≡ []
  unfolding event_of same_event
  no_parts h = filter_never (λ d. keep (Element b.event d.place)) (λ d. not_kept keep c s (Element b.event d.place) b.event (eq-eqb _ _ refl) h _ refl) b.parts

  no_references : keep (event_key b.event) ≡ false → filter (keeps_reference keep s b) b.references ≡ []
  unfolding event_of same_event keeps_reference reference_key
  no_references h = filter_never (keeps_reference keep s b) (λ r. one r (target_of s b.event b.parts r.referenced)) b.references
    where
      one : (r : ReferenceDraft) (o : Option Place) → kept_key keep c s b.event b.parts (option_map (λ t. Reference b.event r.object t r.uuid) o) ≡ false
      one r None = refl
      one r (Some t) = not_kept keep c s (Reference b.event r.object t r.uuid) b.event (eq-eqb _ _ refl) h _ refl

  -- where no part and no reference is left, nothing that is written is kept
  parts_none : filter (λ d. keep (Element b.event d.place)) b.parts ≡ [] → filter (keeps_reference keep s b) b.references ≡ [] → cut keep (parts_written s b) ≡ []
  unfolding parts_written cut_body
  parts_none p r =
      parts_written_cut
      ∙ (λ i. map (part_version (cut_scene keep s) b.event) (p i) ++ filter_map (reference_version (cut_scene keep s) b.event (filter (λ d. keep (Element b.event d.place)) b.parts)) (r i))

  event_rules_less : keep (event_key b.event) ≡ true → refuses (change_rules s (AddEvent b)) ≡ false → refuses (change_rules (cut_scene keep s) (AddEvent (cut_body keep s b))) ≡ false
  unfolding change_rules cut_body
  event_rules_less h a =
      rw (holds_copy_cut keep c s b.event h, holds_tombstone_cut keep c s b.event h)
      (refuses_less ((holds_copy s b.event, EventExists) ∷ (holds_tombstone s b.event, EventGone) ∷ (clashes (cut_scene keep s) (cut_body keep s b), ElementExists) ∷ []) _ _ GroupNotUsable [] has_unusable_less
      (refuses_less ((holds_copy s b.event, EventExists) ∷ (holds_tombstone s b.event, EventGone) ∷ []) _ _ ElementExists ((has_unusable s b, GroupNotUsable) ∷ []) clashes_less a))

  pub add_event_follows : (k : Bool) → keep (event_key b.event) ≡ k →
      is_accepted s (Ask.Change (AddEvent b)) ≡ true → Follows keep s (Ask.Change (AddEvent b)) (where_kept k (Ask.Change (AddEvent (cut_body keep s b))))
  unfolding where_kept brings change_writes event_written is_accepted ask_rules cut new_event cut_scene cut_body written
  add_event_follows false h a =
      filter-append (λ v. keep v.key) (map (λ d. written s (event_key b.event) s.now b.label (Content.Event (new_event s d))) (option_to_list b.body)) (parts_written s b)
      ∙ (λ i. event_version_none b.body h i ++ parts_none (no_parts h) (no_references h) i)
  add_event_follows true h a =
      record {
        accepted = is_accepted_where _ (event_rules_less h (none_refuses _ a));
        brought =
            sym (filter-append (λ v. keep v.key) (map (λ d. written s (event_key b.event) s.now b.label (Content.Event (new_event s d))) (option_to_list b.body)) (parts_written s b)
            ∙ (λ i. event_version_kept b.body h i ++ parts_written_cut i));
      }

  -- an object that is kept is there where it was
  object_is_there_cut : (x : ElemId) → keep (Element b.event (Place.Object x)) ≡ true → object_is_there (cut_scene keep s) (cut_body keep s b) x ≡ object_is_there s b x
  unfolding object_is_there brings_object cut_body
  object_is_there_cut x h =
      rw (
        own_live_cut keep c s (Element b.event (Place.Object x)) h,
        any_cut (λ d. same_place d.place (Place.Object x)) (λ d. keep (Element b.event d.place)) (λ d g. ap (λ p. keep (Element b.event p)) (same_place-sound d.place (Place.Object x) g) ∙ h) b.parts,
      ) refl

  part_fits_less : (p : Place) → keep (Element b.event p) ≡ true → part_fits s b p ≡ true → part_fits (cut_scene keep s) (cut_body keep s b) p ≡ true
  unfolding part_fits parents above
  part_fits_less (Place.ObjectAttribute x a) h g = object_is_there_cut x (and_parts _ _ (and_parts _ _ (c.above _ h)).1).0 ∙ g
  part_fits_less _ h g = refl

  reference_object : (r : ReferenceDraft) → keeps_reference keep s b r ≡ true → keep (Element b.event (Place.Object r.object)) ≡ true
  unfolding keeps_reference reference_key parents
  reference_object r h = one (target_of s b.event b.parts r.referenced) h
    where
      one : (o : Option Place) → kept_key keep c s b.event b.parts (option_map (λ t. Reference b.event r.object t r.uuid) o) ≡ true → keep (Element b.event (Place.Object r.object)) ≡ true
      one None h = absurd (false≢true h)
      one (Some t) h = (and_parts _ _ (c.above _ h)).0

  brought_or_live_cut : (x : ElemId) → keep (Element b.event (Place.Object x)) ≡ true →
      (brings_object (cut_body keep s b) x || own_live (cut_scene keep s) (Element b.event (Place.Object x))) ≡ (brings_object b x || own_live s (Element b.event (Place.Object x)))
  unfolding object_is_there cut_body
  brought_or_live_cut x h = object_is_there_cut x h

  -- a kept reference has its target, so that its object is enough
  reference_fits_less : (r : ReferenceDraft) → keeps_reference keep s b r ≡ true → reference_fits s b r ≡ true → reference_fits (cut_scene keep s) (cut_body keep s b) r ≡ true
  unfolding reference_fits cut_body
  reference_fits_less r k g =
      fits_by (brings_object b r.object) (own_live s (Element b.event (Place.Object r.object))) (has_target s b r) _ _ _ (brought_or_live_cut r.object (reference_object r k)) (kept_has_target r k).1 g

  fits_less : fits_parts s b ≡ true → fits_parts (cut_scene keep s) (cut_body keep s b) ≡ true
  unfolding fits_parts cut_body
  fits_less h =
      let two : (list_all (λ d. part_fits s b d.place) b.parts ≡ true) × (list_all (reference_fits s b) b.references ≡ true) = and_parts _ _ h in
      and_from _ _
      (all_cut _ (λ d. part_fits s b d.place) (λ d. keep (Element b.event d.place)) (λ d k g. part_fits_less d.place k g) b.parts two.0)
      (all_cut _ (reference_fits s b) (keeps_reference keep s b) reference_fits_less b.references two.1)

  -- something is left only of an event that is kept
  left_of_kept : (is_empty (filter (λ (d : Draft). keep (Element b.event d.place)) b.parts) && is_empty (filter (keeps_reference keep s b) b.references)) ≡ false → (k : Bool) → keep (event_key b.event) ≡ k → k ≡ true
  unfolding is_empty
  left_of_kept h true k = refl
  left_of_kept h false k = absurd (false≢true (sym h ∙ (λ i. is_empty (no_parts k i) && is_empty (no_references k i))))

  parts_rules_less : (e : EventId) → keep (event_key b.event) ≡ true → refuses (change_rules s (AddParts e b)) ≡ false → refuses (change_rules (cut_scene keep s) (AddParts e (cut_body keep s b))) ≡ false
  unfolding change_rules cut_body bars
  parts_rules_less e h a =
      let copy : Bool = holds_copy s b.event in
      let home : Bool = holds_home s b.event in
      let seen : Bool = sees s (event_key b.event) in
      let fits : Bool = fits_parts (cut_scene keep s) (cut_body keep s b) in
      let less : List (Bool × Rule) = (not copy && not seen || home && not fits, NotGranted) ∷ (not copy && seen, NotOwner) ∷ (copy && not home, LockedCopy) ∷ [] in
      rw (holds_copy_cut keep c s b.event h, holds_home_cut keep c s b.event h, sees_cut keep c s (event_key b.event) h)
      (refuses_less (less ++ (clashes (cut_scene keep s) (cut_body keep s b), ElementExists) ∷ []) _ _ GroupNotUsable [] has_unusable_less
      (refuses_less less _ _ ElementExists ((has_unusable s b, GroupNotUsable) ∷ []) clashes_less
      (refuses_less [] _ _ NotGranted _ (bar_less (not copy && not seen) home (fits_parts s b) fits fits_less) a)))

  pub add_parts_follows : (e : EventId) (k : Bool) → (is_empty (filter (λ (d : Draft). keep (Element b.event d.place)) b.parts) && is_empty (filter (keeps_reference keep s b) b.references)) ≡ k →
      is_accepted s (Ask.Change (AddParts e b)) ≡ true → Follows keep s (Ask.Change (AddParts e b)) (where_kept (not k) (Ask.Change (AddParts e (cut_body keep s b))))
  unfolding where_kept brings change_writes is_accepted ask_rules
  add_parts_follows e true h a = parts_none (empty_is keep c s _ (and_parts _ _ h).0) (empty_is keep c s _ (and_parts _ _ h).1)
  add_parts_follows e false h a =
      record {
        accepted = is_accepted_where _ (parts_rules_less e (left_of_kept h _ refl) (none_refuses _ a));
        brought = sym parts_written_cut;
      }
