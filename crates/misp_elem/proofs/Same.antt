-- Keys that are the same are equal, and each is the same as itself.
use Rattle.std.proofs.Common.{◌≡◌, Bool, true, refl, ap, ◌∙◌, ◌&&◌}
use Rattle.std.proofs.lemmas.Bool.{and_parts, and_from, false≢true}
use Rattle.misp_lists.proofs.Lists.{first_part}
use Rattle.misp_ids.proofs.Same.{same_elem-refl, same_inst-refl, same_org-refl, same_event-refl, same_elem-sound, same_org-sound, same_inst-sound, same_event-sound}
use Rattle.misp_elem.specs.Prelude.{Attribute, Element, Event, EventId, Object, ObjectAttribute, Place, Proposal, ProposalName, Reference, Sighting, Verdict, event_of, list_all, same_elem, same_event, same_inst, same_key, same_org}
use Rattle.misp_elem.specs.Prelude.{same_place}
use Rattle.misp_elem.specs.declared.key.KeyForm.{KeyForm as Key}
use Rattle.misp_elem.specs.Parents.{above, up_to}
use Rattle.misp_elem.specs.SameKey.{same_name}

pub same_place-sound : (a b : Place) → same_place a b ≡ true → a ≡ b
unfolding same_place
same_place-sound Event Event h = refl
same_place-sound (Object x) (Object y) h = ap Object (same_elem-sound x y h)
same_place-sound (Attribute x) (Attribute y) h = ap Attribute (same_elem-sound x y h)
same_place-sound (ObjectAttribute x a) (ObjectAttribute y b) h =
    let both : (same_elem x y ≡ true) × (same_elem a b ≡ true) = and_parts _ _ h in
    let e : x ≡ y = same_elem-sound x y both.0 in
    let f : a ≡ b = same_elem-sound a b both.1 in
    cc
same_place-sound _ _ h = absurd (false≢true h)

pub same_name-sound : (a b : ProposalName) → same_name a b ≡ true → a ≡ b
unfolding same_name
same_name-sound a b h =
    let p : ((same_place a.target b.target && same_inst a.at b.at && same_org a.by b.by) ≡ true) × (same_elem a.uuid b.uuid ≡ true) = and_parts _ _ h in
    let q : ((same_place a.target b.target && same_inst a.at b.at) ≡ true) × (same_org a.by b.by ≡ true) = and_parts _ _ p.0 in
    let r : (same_place a.target b.target ≡ true) × (same_inst a.at b.at ≡ true) = and_parts _ _ q.0 in
    name_from a b (same_place-sound _ _ r.0) (same_inst-sound _ _ r.1) (same_org-sound _ _ q.1) (same_elem-sound _ _ p.1)
  where
    name_from : (a b : ProposalName) → a.target ≡ b.target → a.at ≡ b.at → a.by ≡ b.by → a.uuid ≡ b.uuid → a ≡ b
    name_from a b e f g h = λ i. record { target = e i; at = f i; by = g i; uuid = h i }

pub same_key-sound : (a b : Key) → same_key a b ≡ true → a ≡ b
unfolding same_key
same_key-sound (Element e p) (Element f q) h =
    let r : (same_event e f ≡ true) × (same_place p q ≡ true) = and_parts _ _ h in
    λ i. Element (same_event-sound _ _ r.0 i) (same_place-sound _ _ r.1 i)
same_key-sound (Reference e x t u) (Reference f y s v) h =
    let r : ((same_event e f && same_elem x y && same_place t s) ≡ true) × (same_elem u v ≡ true) = and_parts _ _ h in
    let q : ((same_event e f && same_elem x y) ≡ true) × (same_place t s ≡ true) = and_parts _ _ r.0 in
    let p : (same_event e f ≡ true) × (same_elem x y ≡ true) = and_parts _ _ q.0 in
    λ i. Reference (same_event-sound _ _ p.0 i) (same_elem-sound _ _ p.1 i) (same_place-sound _ _ q.1 i) (same_elem-sound _ _ r.1 i)
same_key-sound (Proposal e n) (Proposal f m) h =
    let r : (same_event e f ≡ true) × (same_name n m ≡ true) = and_parts _ _ h in
    λ i. Proposal (same_event-sound _ _ r.0 i) (same_name-sound _ _ r.1 i)
same_key-sound (Verdict e n i o) (Verdict f m j w) h =
    let r : ((same_event e f && same_name n m && same_inst i j) ≡ true) × (same_org o w ≡ true) = and_parts _ _ h in
    let q : ((same_event e f && same_name n m) ≡ true) × (same_inst i j ≡ true) = and_parts _ _ r.0 in
    let p : (same_event e f ≡ true) × (same_name n m ≡ true) = and_parts _ _ q.0 in
    λ k. Verdict (same_event-sound _ _ p.0 k) (same_name-sound _ _ p.1 k) (same_inst-sound _ _ q.1 k) (same_org-sound _ _ r.1 k)
same_key-sound (Sighting e t i o u) (Sighting f s j w v) h =
    let r : ((same_event e f && same_place t s && same_inst i j && same_org o w) ≡ true) × (same_elem u v ≡ true) = and_parts _ _ h in
    let q : ((same_event e f && same_place t s && same_inst i j) ≡ true) × (same_org o w ≡ true) = and_parts _ _ r.0 in
    let p : ((same_event e f && same_place t s) ≡ true) × (same_inst i j ≡ true) = and_parts _ _ q.0 in
    let m : (same_event e f ≡ true) × (same_place t s ≡ true) = and_parts _ _ p.0 in
    λ k. Sighting (same_event-sound _ _ m.0 k) (same_place-sound _ _ m.1 k) (same_inst-sound _ _ p.1 k) (same_org-sound _ _ q.1 k) (same_elem-sound _ _ r.1 k)
same_key-sound _ _ h = absurd (false≢true h)

-- what two tests of equality say of one key
pub same_key-keeps : (keep : Key → Bool) (a b : Key) → same_key a b ≡ true → keep b ≡ true → keep a ≡ true
same_key-keeps keep a b h k = ap keep (same_key-sound a b h) ∙ k

-- the last of the places down to a target
pub target_kept : (keep : Key → Bool) (e : EventId) (t : Place) → list_all keep (up_to e t) ≡ true → keep (Element e t) ≡ true
unfolding up_to above
target_kept keep e Place.Event h = first_part _ _ h
target_kept keep e (Place.Object x) h = first_part _ _ (and_parts _ _ h).1
target_kept keep e (Place.Attribute x) h = first_part _ _ (and_parts _ _ h).1
target_kept keep e (Place.ObjectAttribute x a) h = first_part _ _ (and_parts _ _ (and_parts _ _ h).1).1

-- the key is of the event
unfoldable pub of_event : EventId → Key → Bool
of_event e k = same_event (event_of k) e

same_place-refl : (p : Place) → same_place p p ≡ true
unfolding same_place
same_place-refl Place.Event = refl
same_place-refl (Place.Object x) = same_elem-refl x
same_place-refl (Place.Attribute x) = same_elem-refl x
same_place-refl (Place.ObjectAttribute x a) = and_from _ _ (same_elem-refl x) (same_elem-refl a)

same_name-refl : (n : ProposalName) → same_name n n ≡ true
unfolding same_name
same_name-refl n = and_from _ _ (and_from _ _ (and_from _ _ (same_place-refl n.target) (same_inst-refl n.at)) (same_org-refl n.by)) (same_elem-refl n.uuid)

pub same_key-refl : (k : Key) → same_key k k ≡ true
unfolding same_key
same_key-refl (Element e p) = and_from _ _ (same_event-refl e) (same_place-refl p)
same_key-refl (Reference e x t u) = and_from _ _ (and_from _ _ (and_from _ _ (same_event-refl e) (same_elem-refl x)) (same_place-refl t)) (same_elem-refl u)
same_key-refl (Proposal e n) = and_from _ _ (same_event-refl e) (same_name-refl n)
same_key-refl (Verdict e n i o) = and_from _ _ (and_from _ _ (and_from _ _ (same_event-refl e) (same_name-refl n)) (same_inst-refl i)) (same_org-refl o)
same_key-refl (Sighting e t i o u) =
    and_from _ _ (and_from _ _ (and_from _ _ (and_from _ _ (same_event-refl e) (same_place-refl t)) (same_inst-refl i)) (same_org-refl o)) (same_elem-refl u)
