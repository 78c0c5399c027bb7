-- An event and parts are added alike over the rows that are looked at, where these have what has one of the body's uuids.
use Rattle.std.proofs.Common.{◌≡◌, ℕ, List, [], ◌∷◌, ◌++◌, Bool, true, false, refl, ap, ◌∙◌, map, find, filter, ◌&&◌, ◌||◌, not, Option, Some, None, option_map, option_to_list, filter_map}
use Rattle.std.proofs.lemmas.Bool.{and_parts}
use Rattle.std.specs.List.{cons_option}
use Rattle.misp_lists.proofs.Lists.{all_same, any_agree, filter_agree}
use Rattle.misp_ids.proofs.Same.{same_event-refl}
use Rattle.misp_model.specs.Prelude.{AddEvent, AddParts, Ask, Content, ElemId, Element, ElementExists, EventExists, EventGone, EventId, GroupNotUsable, Key, Label, OrgId, Place, Reference, ReferenceDraft, Scene, Submission}
use Rattle.misp_model.specs.Prelude.{change_rules, change_writes, clashes, event_key, event_of, fits_parts, has_unusable, is_place_of, is_taken, list_all, list_any, own_live, part_version, parts_written, uuid_at, uuids_of, written}
use Rattle.misp_model.specs.Adding.{are_distinct, brings_object, event_written, has_target, is_target_key, new_event, object_is_there, part_fits, reference_fits, reference_key, reference_version, target_of}
use Rattle.misp_model.specs.Looking.{is_needed_for, is_place_needed_for, uuids_in}
use Rattle.misp_model.proofs.LookedRows.{IsClosedFor, element_looked}
use Rattle.misp_model.proofs.LookedScenes.{HasEvent, bars_looked, holds_copy_looked, holds_tombstone_looked, is_usable_looked, looked_scene, own_live_looked}
use Rattle.misp_model.proofs.LookedCopy.{HasThose, is_taken_looked, target_in_copy_looked}
use Rattle.misp_model.proofs.LookedUuids.{brought_among, is_in_body, is_referenced, referenced_among, taken_has, target_has}
use Rattle.misp_model.proofs.SameAnswers.{IsSame, same_change}

-- functions that agree on all elements give the same
filter_map_agree : {X Y : Type 0} (f g : X → Option Y) (q : X → Bool) → ((x : X) → q x ≡ true → f x ≡ g x) → (xs : List X) → list_all q xs ≡ true → filter_map f xs ≡ filter_map g xs
filter_map_agree f g q h [] a = refl
filter_map_agree f g q h (x ∷ xs) a = λ i. cons_option (h x (and_parts _ _ a).0 i) (filter_map_agree f g q h xs (and_parts _ _ a).1 i)

module _ (keep : OrgId → Key → Bool) (s : Scene) (c : IsClosedFor s.by keep) (b : Submission) where
  abbrev near : Scene
  near = looked_scene keep s

  -- ---- one reference

  module _ (u : ElemId) (has : HasThose keep s.by b.event (is_target_key u)) where
    target_looked : target_of near b.event b.parts u ≡ target_of s b.event b.parts u
    unfolding target_of
    target_looked = λ i. elim (find (λ d. is_place_of u d.place) b.parts) as (λ x. Option Place) [ Some d ↦ Some d.place | None ↦ target_in_copy_looked keep s c b.event u has i ]

  pub has_target_looked : (r : ReferenceDraft) → HasThose keep s.by b.event (is_target_key r.referenced) → has_target near b r ≡ has_target s b r
  unfolding has_target
  has_target_looked r has = λ i. elim (target_looked r.referenced has i) as (λ x. Bool) [ Some t ↦ true | None ↦ false ]

  reference_looked : (r : ReferenceDraft) → HasThose keep s.by b.event (is_target_key r.referenced) → reference_version near b.event b.parts r ≡ reference_version s b.event b.parts r
  unfolding reference_version reference_key looked_scene written
  reference_looked r has = λ i.
      option_map (λ k. written s k s.now Label.Inherit (Content.Reference r.body)) (option_map (λ t. Reference b.event r.object t r.uuid) (target_looked r.referenced has i))

  -- ---- a body

  module _ (has : HasThose keep s.by b.event (is_needed_for (uuids_in b))) where
    -- what has a uuid of the body, and what its references refer to, is looked at
    pub taken_looked : (u : ℕ) → is_in_body b u ≡ true → is_taken near b.event u ≡ is_taken s b.event u
    taken_looked u h = is_taken_looked keep s c b.event u (λ k here g. has k here (taken_has (uuids_in b) u h k g))

    referred : (r : ReferenceDraft) → is_referenced b r ≡ true → HasThose keep s.by b.event (is_target_key r.referenced)
    referred r h k here g = has k here (target_has (uuids_in b) r.referenced h k g)

    pub targets_looked : filter (has_target near b) b.references ≡ filter (has_target s b) b.references
    targets_looked = filter_agree (has_target near b) (has_target s b) (is_referenced b) (λ r h. has_target_looked r (referred r h)) b.references (referenced_among b)

    uuids_looked : uuids_of near b ≡ uuids_of s b
    unfolding uuids_of
    uuids_looked = λ i. map (λ d. uuid_at b.event d.place) b.parts ++ map (λ r. r.uuid.0.0) (targets_looked i)

    clashes_looked : clashes near b ≡ clashes s b
    unfolding clashes
    clashes_looked = λ i. not (are_distinct (uuids_looked i)) || any_taken i
      where
        any_taken : list_any (is_taken near b.event) (uuids_of near b) ≡ list_any (is_taken s b.event) (uuids_of s b)
        any_taken =
            ap (list_any (is_taken near b.event)) uuids_looked
            ∙ any_agree (is_taken near b.event) (is_taken s b.event) (is_in_body b) taken_looked (uuids_of s b) (brought_among b s)

    unusable_looked : has_unusable near b ≡ has_unusable s b
    unfolding has_unusable
    unusable_looked = λ i. not (is_usable_looked keep s c b.label i) || list_any (λ d. not (is_usable_looked keep s c d.label i)) b.parts

    parts_written_looked : parts_written near b ≡ parts_written s b
    unfolding parts_written part_version looked_scene written
    parts_written_looked = λ i.
        map (part_version s b.event) b.parts
        ++ filter_map_agree (reference_version near b.event b.parts) (reference_version s b.event b.parts) (is_referenced b) (λ r h. reference_looked r (referred r h)) b.references (referenced_among b) i

    -- an event that is added
    pub add_looked : keep s.by (event_key b.event) ≡ true → IsSame near s (Ask.Change (AddEvent b))
    unfolding change_rules change_writes event_written new_event looked_scene written
    add_looked h =
        same_change near s (AddEvent b)
        (λ i. (holds_copy_looked keep s c b.event h i, EventExists) ∷ (holds_tombstone_looked keep s c b.event h i, EventGone)
        ∷ (clashes_looked i, ElementExists) ∷ (unusable_looked i, GroupNotUsable) ∷ [])
        (λ i. map (λ d. written s (event_key b.event) s.now b.label (Content.Event (new_event s d))) (option_to_list b.body) ++ parts_written_looked i)

    -- parts that are added
    live_object : (x : ElemId) → own_live near (Element b.event (Place.Object x)) ≡ own_live s (Element b.event (Place.Object x))
    unfolding event_of is_needed_for is_place_needed_for
    live_object x =
        own_live_looked keep s c (Element b.event (Place.Object x))
        (element_looked s.by keep c s.by b.event (Place.Object x) (has (Element b.event (Place.Object x)) (same_event-refl b.event) refl))

    part_looked : (p : Place) → part_fits near b p ≡ part_fits s b p
    unfolding part_fits object_is_there
    part_looked Place.Event = refl
    part_looked (Place.Object x) = refl
    part_looked (Place.Attribute a) = refl
    part_looked (Place.ObjectAttribute x a) = ap (λ t. brings_object b x || t) (live_object x)

    reference_fits_looked : (r : ReferenceDraft) → is_referenced b r ≡ true → reference_fits near b r ≡ reference_fits s b r
    unfolding reference_fits
    reference_fits_looked r h = λ i. brings_object b r.object || live_object r.object i && has_target_looked r (referred r h) i

    fits_looked : fits_parts near b ≡ fits_parts s b
    unfolding fits_parts
    fits_looked = λ i.
        list_all (λ d. part_looked d.place i) b.parts
        && all_same (reference_fits near b) (reference_fits s b) (is_referenced b) reference_fits_looked b.references (referenced_among b) i

    pub parts_looked : (f : EventId) → HasEvent keep s b.event → IsSame near s (Ask.Change (AddParts f b))
    unfolding change_rules change_writes
    parts_looked f h =
        same_change near s (AddParts f b)
        (λ i. bars_looked keep s c b.event _ _ h fits_looked i ++ (clashes_looked i, ElementExists) ∷ (unusable_looked i, GroupNotUsable) ∷ [])
        parts_written_looked
