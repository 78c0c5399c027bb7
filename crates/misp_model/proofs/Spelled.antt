-- A key has one spelling by numbers, and that is no other key's.
use Rattle.std.proofs.Common.{◌≡◌, ℕ, nat_eq, true, List, ◌++◌, sym, ◌∙◌, append_assoc, [], ◌∷◌, ap, refl, arith, length, take_at, bytes_eq}
use Rattle.std.specs.List.{starts_with}
use Rattle.std.proofs.lemmas.Slice.Eq.{bytes_eq-Decides}
use Rattle.misp_lists.proofs.Lists.{head_of, tail_of}
use Rattle.misp_model.specs.Prelude.{Attribute, Element, ElemId, Event, EventId, Inst, Key, Object, ObjectAttribute, OrgId, Place, Proposal, ProposalName, Reference, Sighting, Verdict, spell}
use Rattle.misp_model.specs.RowOrder.{spell_place, spell_inst, spell_name}

-- what is spelled is read back, whatever follows
record Spells {A : Type 0} (write : A → List ℕ) : Type 0 where
  same : (a b : A) (x y : List ℕ) → write a ++ x ≡ write b ++ y → (a ≡ b) × (x ≡ y)

both_spell : {A B : Type 0} {write_a : A → List ℕ} {write_b : B → List ℕ} → Spells write_a → Spells write_b → Spells (λ (p : A × B). write_a p.0 ++ write_b p.1)
both_spell {A} {B} {write_a} {write_b} f g = record {
  same = λ p q x y h.
      let r : (p.0 ≡ q.0) × (write_b p.1 ++ x ≡ write_b q.1 ++ y) =
      f.same p.0 q.0 (write_b p.1 ++ x) (write_b q.1 ++ y) (sym (append_assoc (write_a p.0) (write_b p.1) x) ∙ h ∙ append_assoc (write_a q.0) (write_b q.1) y) in
      let s : (p.1 ≡ q.1) × (x ≡ y) = g.same p.1 q.1 x y r.1 in
      ((λ i. (r.0 i, s.0 i)), s.1);
}

event_spells : Spells (λ (e : EventId). e.0.0 ∷ [])
event_spells = record { same = λ a b x y h. ((λ i. record { 0 = record { 0 = head_of (h i) } }), ap tail_of h) }

org_spells : Spells (λ (o : OrgId). o.0.0 ∷ [])
org_spells = record { same = λ a b x y h. ((λ i. record { 0 = record { 0 = head_of (h i) } }), ap tail_of h) }

elem_spells : Spells (λ (u : ElemId). u.0.0 ∷ [])
elem_spells = record { same = λ a b x y h. ((λ i. record { 0 = record { 0 = head_of (h i) } }), ap tail_of h) }

-- numbers in front that are not the same
apart : {A : Type 0} (n m : ℕ) (x y : List ℕ) → n ∷ x ≡ m ∷ y → (n ≡ m → ⊥) → A
apart n m x y h d = absurd (d (ap head_of h))

place_same : (p q : Place) (x y : List ℕ) → spell_place p ++ x ≡ spell_place q ++ y → (p ≡ q) × (x ≡ y)
unfolding spell_place
place_same Event Event x y h = (refl, ap tail_of h)
place_same (Object a) (Object b) x y h = let r : (a ≡ b) × (x ≡ y) = elem_spells.same a b x y (ap tail_of h) in (ap Object r.0, r.1)
place_same (Attribute a) (Attribute b) x y h = let r : (a ≡ b) × (x ≡ y) = elem_spells.same a b x y (ap tail_of h) in (ap Attribute r.0, r.1)
place_same (ObjectAttribute a c) (ObjectAttribute b d) x y h =
    let r : ((a, c) ≡ (b, d)) × (x ≡ y) = (both_spell elem_spells elem_spells).same (a, c) (b, d) x y (ap tail_of h) in
    (ap (λ (t : ElemId × ElemId). ObjectAttribute t.0 t.1) r.0, r.1)
place_same Event (Object b) x y h = apart _ _ _ _ h (λ e. omega (arith, e))
place_same Event (Attribute b) x y h = apart _ _ _ _ h (λ e. omega (arith, e))
place_same Event (ObjectAttribute b d) x y h = apart _ _ _ _ h (λ e. omega (arith, e))
place_same (Object a) Event x y h = apart _ _ _ _ h (λ e. omega (arith, e))
place_same (Object a) (Attribute b) x y h = apart _ _ _ _ h (λ e. omega (arith, e))
place_same (Object a) (ObjectAttribute b d) x y h = apart _ _ _ _ h (λ e. omega (arith, e))
place_same (Attribute a) Event x y h = apart _ _ _ _ h (λ e. omega (arith, e))
place_same (Attribute a) (Object b) x y h = apart _ _ _ _ h (λ e. omega (arith, e))
place_same (Attribute a) (ObjectAttribute b d) x y h = apart _ _ _ _ h (λ e. omega (arith, e))
place_same (ObjectAttribute a c) Event x y h = apart _ _ _ _ h (λ e. omega (arith, e))
place_same (ObjectAttribute a c) (Object b) x y h = apart _ _ _ _ h (λ e. omega (arith, e))
place_same (ObjectAttribute a c) (Attribute b) x y h = apart _ _ _ _ h (λ e. omega (arith, e))

place_spells : Spells spell_place
place_spells = record { same = place_same }

-- lists of one length in front
front_same : (a b x y : List ℕ) → length a ≡ length b → a ++ x ≡ b ++ y → (a ≡ b) × (x ≡ y)
front_same [] [] x y l h = (refl, h)
front_same [] (b ∷ bs) x y l h = absurd (omega (arith, l))
front_same (a ∷ us) [] x y l h = absurd (omega (arith, l))
front_same (a ∷ us) (b ∷ bs) x y l h =
    let r : (us ≡ bs) × (x ≡ y) = front_same us bs x y (omega (arith, l)) (ap tail_of h) in
    ((λ i. head_of (h i) ∷ r.0 i), r.1)

inst_spells : Spells spell_inst
unfolding spell_inst
inst_spells = record { same = λ a b x y h. front_same a b x y (ap head_of h) (ap tail_of h) }

name_same : (n m : ProposalName) (x y : List ℕ) → spell_name n ++ x ≡ spell_name m ++ y → (n ≡ m) × (x ≡ y)
unfolding spell_name
name_same n m x y h =
    let r : ((n.target, (n.at, (n.by, n.uuid))) ≡ (m.target, (m.at, (m.by, m.uuid)))) × (x ≡ y) =
    (both_spell place_spells (both_spell inst_spells (both_spell org_spells elem_spells))).same (n.target, (n.at, (n.by, n.uuid))) (m.target, (m.at, (m.by, m.uuid))) x y h in
    ((λ i. record { target = (r.0 i).0; at = (r.0 i).1.0; by = (r.0 i).1.1.0; uuid = (r.0 i).1.1.1 }), r.1)

name_spells : Spells spell_name
name_spells = record { same = name_same }

-- with nothing after it
whole : {A : Type 0} {write : A → List ℕ} → Spells write → (a b : A) → write a ≡ write b → a ≡ b
whole s a b h = (s.same a b [] [] (ap (λ (t : List ℕ). t ++ []) h)).0

pub spells : (a b : Key) → spell a ≡ spell b → a ≡ b
unfolding spell
spells (Element e p) (Element f q) h =
    ap (λ (t : EventId × Place). Element t.0 t.1) (whole (both_spell event_spells place_spells) (e, p) (f, q) (ap tail_of h))
spells (Reference e x t u) (Reference f y s v) h =
    ap (λ (t : EventId × (ElemId × (Place × ElemId))). Reference t.0 t.1.0 t.1.1.0 t.1.1.1)
    (whole (both_spell event_spells (both_spell elem_spells (both_spell place_spells elem_spells))) (e, (x, (t, u))) (f, (y, (s, v))) (ap tail_of h))
spells (Proposal e n) (Proposal f m) h =
    ap (λ (t : EventId × ProposalName). Proposal t.0 t.1) (whole (both_spell event_spells name_spells) (e, n) (f, m) (ap tail_of h))
spells (Verdict e n i o) (Verdict f m j w) h =
    ap (λ (t : EventId × (ProposalName × (Inst × OrgId))). Verdict t.0 t.1.0 t.1.1.0 t.1.1.1)
    (whole (both_spell event_spells (both_spell name_spells (both_spell inst_spells org_spells))) (e, (n, (i, o))) (f, (m, (j, w))) (ap tail_of h))
spells (Sighting e t i o u) (Sighting f s j w v) h =
    ap (λ (t : EventId × (Place × (Inst × (OrgId × ElemId)))). Sighting t.0 t.1.0 t.1.1.0 t.1.1.1.0 t.1.1.1.1)
    (whole (both_spell event_spells (both_spell place_spells (both_spell inst_spells (both_spell org_spells elem_spells)))) (e, (t, (i, (o, u)))) (f, (s, (j, (w, v)))) (ap tail_of h))
spells (Element e p) (Reference f y s v) h = apart _ _ _ _ h (λ e. omega (arith, e))
spells (Element e p) (Proposal f m) h = apart _ _ _ _ h (λ e. omega (arith, e))
spells (Element e p) (Verdict f m j w) h = apart _ _ _ _ h (λ e. omega (arith, e))
spells (Element e p) (Sighting f s j w v) h = apart _ _ _ _ h (λ e. omega (arith, e))
spells (Reference e x t u) (Element f q) h = apart _ _ _ _ h (λ e. omega (arith, e))
spells (Reference e x t u) (Proposal f m) h = apart _ _ _ _ h (λ e. omega (arith, e))
spells (Reference e x t u) (Verdict f m j w) h = apart _ _ _ _ h (λ e. omega (arith, e))
spells (Reference e x t u) (Sighting f s j w v) h = apart _ _ _ _ h (λ e. omega (arith, e))
spells (Proposal e n) (Element f q) h = apart _ _ _ _ h (λ e. omega (arith, e))
spells (Proposal e n) (Reference f y s v) h = apart _ _ _ _ h (λ e. omega (arith, e))
spells (Proposal e n) (Verdict f m j w) h = apart _ _ _ _ h (λ e. omega (arith, e))
spells (Proposal e n) (Sighting f s j w v) h = apart _ _ _ _ h (λ e. omega (arith, e))
spells (Verdict e n i o) (Element f q) h = apart _ _ _ _ h (λ e. omega (arith, e))
spells (Verdict e n i o) (Reference f y s v) h = apart _ _ _ _ h (λ e. omega (arith, e))
spells (Verdict e n i o) (Proposal f m) h = apart _ _ _ _ h (λ e. omega (arith, e))
spells (Verdict e n i o) (Sighting f s j w v) h = apart _ _ _ _ h (λ e. omega (arith, e))
spells (Sighting e t i o u) (Element f q) h = apart _ _ _ _ h (λ e. omega (arith, e))
spells (Sighting e t i o u) (Reference f y s v) h = apart _ _ _ _ h (λ e. omega (arith, e))
spells (Sighting e t i o u) (Proposal f m) h = apart _ _ _ _ h (λ e. omega (arith, e))
spells (Sighting e t i o u) (Verdict f m j w) h = apart _ _ _ _ h (λ e. omega (arith, e))

-- bytes with more behind them begin with these
pub begins_with_itself : (bytes rest : List ℕ) → starts_with nat_eq (bytes ++ rest) bytes ≡ true
begins_with_itself bytes rest = ap (bytes_eq bytes) (take_at bytes rest (length bytes) refl) ∙ (bytes_eq-Decides bytes bytes).1 refl
