-- The keys that have a uuid of a body, and that each uuid which the body brings or refers to is one of those.
use Rattle.std.proofs.Common.{◌≡◌, ℕ, List, [], ◌∷◌, ◌++◌, Bool, true, refl, ap, ◌∙◌, map, filter, eqb-true}
use Rattle.std.proofs.lemmas.Bool.{and_from, false≢true, or_left, or_right}
use Rattle.std.proofs.lemmas.List.Folds.{list_all-map, list_any-append}
use Rattle.misp_lists.proofs.Lists.{all-filter, all_both}
use Rattle.misp_ids.proofs.Same.{same_elem-refl, same_elem-sound}
use Rattle.misp_model.specs.Prelude.{ElemId, Element, Key, Place, Proposal, Reference, ReferenceDraft, Scene, Sighting, Submission, Verdict, is_place_of, list_all, list_any, takes_uuid, uuid_at, uuids_of}
use Rattle.misp_elem.specs.Prelude.{same_elem}
use Rattle.misp_model.specs.Adding.{has_target, is_target_key}
use Rattle.misp_model.specs.Looking.{elem_at, is_needed_for, is_place_needed_for, uuids_in}

-- the uuid is one of these
abbrev pub one_of : List ElemId → ElemId → Bool
one_of us u = list_any (same_elem u) us

-- the uuid of this number
abbrev pub numbered : ℕ → ElemId
numbered n = record { 0 = record { 0 = n } }

-- ---- keys

module _ (us : List ElemId) where
  -- what takes a uuid of these has one of them
  pub taken_has : (u : ℕ) → one_of us (numbered u) ≡ true → (k : Key) → takes_uuid u k ≡ true → is_needed_for us k ≡ true
  unfolding takes_uuid is_needed_for is_place_needed_for uuid_at
  taken_has u h (Element e Place.Event) g = refl
  taken_has u h (Element e (Place.Object x)) g = refl
  taken_has u h (Element e (Place.Attribute a)) g = ap (λ n. one_of us (numbered n)) (eqb-true a.0.0 u g) ∙ h
  taken_has u h (Element e (Place.ObjectAttribute x a)) g = ap (λ n. one_of us (numbered n)) (eqb-true a.0.0 u g) ∙ h
  taken_has u h (Reference e x t v) g = ap (λ n. one_of us (numbered n)) (eqb-true v.0.0 u g) ∙ h
  taken_has u h (Proposal e n) g = absurd (false≢true g)
  taken_has u h (Verdict e n i o) g = absurd (false≢true g)
  taken_has u h (Sighting e t i o v) g = absurd (false≢true g)

  place_has : (u : ElemId) → one_of us u ≡ true → (p : Place) → is_place_of u p ≡ true → is_place_needed_for us p ≡ true
  unfolding is_place_of is_place_needed_for
  place_has u h Place.Event g = refl
  place_has u h (Place.Object x) g = refl
  place_has u h (Place.Attribute a) g = ap (one_of us) (same_elem-sound a u g) ∙ h
  place_has u h (Place.ObjectAttribute x a) g = ap (one_of us) (same_elem-sound a u g) ∙ h

  -- and so does an element of such a uuid
  pub target_has : (u : ElemId) → one_of us u ≡ true → (k : Key) → is_target_key u k ≡ true → is_needed_for us k ≡ true
  unfolding is_target_key is_needed_for
  target_has u h (Element e p) g = place_has u h p g
  target_has u h (Reference e x t v) g = absurd (false≢true g)
  target_has u h (Proposal e n) g = absurd (false≢true g)
  target_has u h (Verdict e n i o) g = absurd (false≢true g)
  target_has u h (Sighting e t i o v) g = absurd (false≢true g)

-- ---- bodies

-- each of these values has its uuid among them, and among what has them
all_among : {X : Type 0} (f : X → ElemId) (us : List ElemId) (xs : List X) → ((u : ElemId) → one_of (map f xs) u ≡ true → one_of us u ≡ true) → list_all (λ x. one_of us (f x)) xs ≡ true
all_among f us [] h = refl
all_among f us (x ∷ xs) h = and_from _ _ (h (f x) (or_left _ _ (same_elem-refl (f x)))) (all_among f us xs (λ u g. h u (or_right _ _ g)))

-- a uuid of a part of a list is one of the list
first_of : (us vs : List ElemId) (u : ElemId) → one_of us u ≡ true → one_of (us ++ vs) u ≡ true
first_of us vs u h = list_any-append (same_elem u) us vs ∙ or_left _ _ h

last_of : (us vs : List ElemId) (u : ElemId) → one_of vs u ≡ true → one_of (us ++ vs) u ≡ true
last_of us vs u h = list_any-append (same_elem u) us vs ∙ or_right _ _ h

module _ (b : Submission) where
  -- the uuid of this number is one of the body's
  abbrev pub is_in_body : ℕ → Bool
  is_in_body n = one_of (uuids_in b) (numbered n)

  -- what the reference refers to is one of the body's uuids
  abbrev pub is_referenced : ReferenceDraft → Bool
  is_referenced r = one_of (uuids_in b) r.referenced

  abbrev of_parts : List ElemId
  of_parts = map (λ d. elem_at b.event d.place) b.parts

  abbrev of_references : List ElemId
  of_references = map (λ r. r.uuid) b.references

  abbrev of_referenced : List ElemId
  of_referenced = map (λ r. r.referenced) b.references

  pub parts_among : list_all (λ d. is_in_body (uuid_at b.event d.place)) b.parts ≡ true
  parts_among = all_among (λ d. elem_at b.event d.place) (uuids_in b) b.parts (first_of of_parts (of_references ++ of_referenced))

  pub references_among : list_all (λ r. is_in_body r.uuid.0.0) b.references ≡ true
  references_among =
      all_among (λ r. r.uuid) (uuids_in b) b.references
      (λ u h. last_of of_parts (of_references ++ of_referenced) u (first_of of_references of_referenced u h))

  pub referenced_among : list_all is_referenced b.references ≡ true
  referenced_among =
      all_among (λ r. r.referenced) (uuids_in b) b.references
      (λ u h. last_of of_parts (of_references ++ of_referenced) u (last_of of_references of_referenced u h))

  -- each uuid that the body brings is one of its uuids
  pub brought_among : (s : Scene) → list_all is_in_body (uuids_of s b) ≡ true
  unfolding uuids_of
  brought_among s =
      all_both is_in_body (map (λ d. uuid_at b.event d.place) b.parts) (map (λ r. r.uuid.0.0) (filter (has_target s b) b.references))
      (list_all-map is_in_body (λ d. uuid_at b.event d.place) b.parts ∙ parts_among)
      (list_all-map is_in_body (λ (r : ReferenceDraft). r.uuid.0.0) (filter (has_target s b) b.references) ∙ all-filter (λ (r : ReferenceDraft). is_in_body r.uuid.0.0) (has_target s b) b.references references_among)
