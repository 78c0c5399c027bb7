-- The derived order of keys tells the same ones.
use Rattle.std.proofs.Common.{◌≡◌, ◌-◌, true, length, replicate, take, refl, sym, ap, ◌∙◌, ◌&&◌, arith, eqb, eqb-true, eq-eqb, bytes_eq, is_eq, nat_cmp}
use Rattle.std.proofs.Math.Seq.{take-append_seam}
use Rattle.misp_lists.proofs.Orders.{is_eq-then, in_bytes}
use Rattle.misp_lists.proofs.Prelude.{is_eq-slice_cmp, numbers_equal}
use Rattle.misp_ids.specs.Names.{padded}
use Rattle.misp_ids.specs.Same.{Inst}
use Rattle.misp_ids.specs.contracts.names.InstIdOrd.TheImpl as inst_order
use Rattle.misp_elem.specs.SameKey.{same_name}
use Rattle.misp_elem.specs.contracts.key.KeyOrd.TheImpl as key_order
use Rattle.misp_elem.specs.contracts.key.PlaceOrd.TheImpl as place_order
use Rattle.misp_elem.specs.contracts.key.ProposalNameOrd.TheImpl as proposal_order
use Rattle.misp_model.proofs.Prelude.{Attribute, ElemId, Element, Event, EventId, Key, Object, ObjectAttribute, OrgId, Place, Proposal, ProposalName, Reference, Sighting, Verdict, alike, and_from, and_parts, bytes_eq-Decides, same_elem, same_event, same_inst, same_key, same_org, same_place}

-- ---- numbers and names

event_is : (a b : EventId) → is_eq (nat_cmp a.0.0 b.0.0) ≡ same_event a b
unfolding same_event
event_is a b = numbers_equal a.0.0 b.0.0

elem_is : (a b : ElemId) → is_eq (nat_cmp a.0.0 b.0.0) ≡ same_elem a b
unfolding same_elem
elem_is a b = numbers_equal a.0.0 b.0.0

org_is : (a b : OrgId) → is_eq (nat_cmp a.0.0 b.0.0) ≡ same_org a b
unfolding same_org
org_is a b = numbers_equal a.0.0 b.0.0

inst_is : (a b : Inst) → is_eq ((inst_order.ghosts).cmp a b) ≡ same_inst a b
unfolding same_inst
inst_is a b = parts ∙ alike _ _ there back
  where
    parts : is_eq ((inst_order.ghosts).cmp a b) ≡ (eqb (length a) (length b) && bytes_eq (padded a) (padded b))
    parts = is_eq-then (nat_cmp (length a) (length b)) (in_bytes (padded a) (padded b)) ∙ (λ i. numbers_equal (length a) (length b) i && is_eq-slice_cmp (padded a) (padded b) i)

    there : (eqb (length a) (length b) && bytes_eq (padded a) (padded b)) ≡ true → bytes_eq a b ≡ true
    there h =
        let two : (eqb (length a) (length b) ≡ true) × (bytes_eq (padded a) (padded b) ≡ true) = and_parts _ _ h in
        let long : length a ≡ length b = eqb-true _ _ two.0 in
        (bytes_eq-Decides a b).1
        (sym (take-append_seam a (replicate (32 - length a) 0)) ∙ (λ i. take (long i) ((bytes_eq-Decides (padded a) (padded b)).0 two.1 i)) ∙ take-append_seam b (replicate (32 - length b) 0))

    back : bytes_eq a b ≡ true → (eqb (length a) (length b) && bytes_eq (padded a) (padded b)) ≡ true
    back h =
        let e : a ≡ b = (bytes_eq-Decides a b).0 h in
        and_from _ _ (eq-eqb _ _ (ap length e)) ((bytes_eq-Decides (padded a) (padded b)).1 (ap padded e))

-- ---- places, proposals and keys

place_is : (p q : Place) → is_eq ((place_order.ghosts).cmp p q) ≡ same_place p q
unfolding same_place
place_is Event Event = refl
place_is (Object x) (Object y) = elem_is x y
place_is (Attribute a) (Attribute b) = elem_is a b
place_is (ObjectAttribute x a) (ObjectAttribute y b) = grind (arith, is_eq-then, elem_is x y, elem_is a b)
place_is _ _ = refl

name_is : (n m : ProposalName) → is_eq ((proposal_order.ghosts).cmp n m) ≡ same_name n m
unfolding same_name
name_is n m = grind (arith, is_eq-then, place_is n.target m.target, inst_is n.at m.at, org_is n.by m.by, elem_is n.uuid m.uuid)

pub key_is : (j k : Key) → is_eq (key_order.cmp-value.it j k) ≡ same_key j k
unfolding same_key
key_is (Element e p) (Element f q) = grind (arith, is_eq-then, event_is e f, place_is p q)
key_is (Reference e x t u) (Reference f y s v) = grind (arith, is_eq-then, event_is e f, elem_is x y, place_is t s, elem_is u v)
key_is (Proposal e n) (Proposal f m) = grind (arith, is_eq-then, event_is e f, name_is n m)
key_is (Verdict e n i o) (Verdict f m j w) = grind (arith, is_eq-then, event_is e f, name_is n m, inst_is i j, org_is o w)
key_is (Sighting e t i o u) (Sighting f s j w v) = grind (arith, is_eq-then, event_is e f, place_is t s, inst_is i j, org_is o w, elem_is u v)
key_is _ _ = refl
