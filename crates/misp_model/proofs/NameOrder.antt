-- The order of rows by numbers is the order of the bytes that name them.
use Rattle.std.proofs.Common.{◌≡◌, ℕ, List, ◌++◌, sym, ◌∙◌, append_assoc, [], ◌∷◌, ap, refl, length, arith, inl, inr, eqb, ltb, true, nat_cmp, is_lt, is_eq, eq-eqb, append-nil, ◌&&◌, ◌||◌, bytes_eq}
use Rattle.std.proofs.lemmas.Bool.{cases_lt}
use Rattle.misp_lists.proofs.Orders.{in_bytes, less, greater, front_cmp, lt_then}
use Rattle.misp_elem.proofs.KeyOrder.{uid_orders}
use Rattle.misp_elem.specs.Spelling.{place, inst_name, proposal_name, key}
use Rattle.misp_elem.specs.Key.{IsPlace, IsProposalName, IsKey}
use Rattle.misp_model.proofs.Prelude.{Attribute, Element, ElemId, Event, EventId, Inst, IsRow, IsUid, Key, Object, ObjectAttribute, OrgId, Place, Proposal, ProposalName, Reference, Row, Sighting, Verdict, alike, and_from, and_parts}
use Rattle.misp_model.proofs.Prelude.{bytes_eq-Decides, event_of, head_of, is_eq-slice_cmp, is_less, less_is, name_bytes, ordering_then, same_key, same_key-refl, same_key-sound, same_org, same_org-sound, spell, spells, stands_before}
use Rattle.misp_model.proofs.Prelude.{tail_of, uid}
use Rattle.misp_model.specs.RowOrder.{spell_place, spell_inst, spell_name}
use Rattle.misp_model.specs.Machine.{event_number, raw_before}

-- what is spelled by numbers and by bytes is in one order, whatever follows in one order
record OneOrder {A : Type 0} (Is : A → Type 0) (numbers bytes : A → List ℕ) : Type 0 where
  same : (a b : A) (x y m n : List ℕ) → Is a → Is b → in_bytes x y ≡ in_bytes m n → in_bytes (numbers a ++ x) (numbers b ++ y) ≡ in_bytes (bytes a ++ m) (bytes b ++ n)

both_orders : {A B : Type 0} {IsA : A → Type 0} {numbers_a bytes_a : A → List ℕ} {IsB : B → Type 0} {numbers_b bytes_b : B → List ℕ}
    → OneOrder IsA numbers_a bytes_a → OneOrder IsB numbers_b bytes_b
    → OneOrder (λ (p : A × B). IsA p.0 × IsB p.1) (λ p. numbers_a p.0 ++ numbers_b p.1) (λ p. bytes_a p.0 ++ bytes_b p.1)
both_orders {A} {B} {IsA} {numbers_a} {bytes_a} {IsB} {numbers_b} {bytes_b} f g = record {
  same = λ p q x y m n h k e.
      (λ i. in_bytes (append_assoc (numbers_a p.0) (numbers_b p.1) x i) (append_assoc (numbers_a q.0) (numbers_b q.1) y i))
      ∙ f.same p.0 q.0 (numbers_b p.1 ++ x) (numbers_b q.1 ++ y) (bytes_b p.1 ++ m) (bytes_b q.1 ++ n) h.0 k.0 (g.same p.1 q.1 x y m n h.1 k.1 e)
      ∙ sym (λ i. in_bytes (append_assoc (bytes_a p.0) (bytes_b p.1) m i) (append_assoc (bytes_a q.0) (bytes_b q.1) n i));
}

event_order : OneOrder (λ (e : EventId). IsUid e.0) (λ e. e.0.0 ∷ []) (λ e. uid e.0)
event_order = record { same = λ a b x y m n h k e. ap (ordering_then (nat_cmp a.0.0 b.0.0)) e ∙ sym (uid_orders.by_bytes a.0 b.0 m n h k) }

org_order : OneOrder (λ (o : OrgId). IsUid o.0) (λ o. o.0.0 ∷ []) (λ o. uid o.0)
org_order = record { same = λ a b x y m n h k e. ap (ordering_then (nat_cmp a.0.0 b.0.0)) e ∙ sym (uid_orders.by_bytes a.0 b.0 m n h k) }

elem_order : OneOrder (λ (u : ElemId). IsUid u.0) (λ u. u.0.0 ∷ []) (λ u. uid u.0)
elem_order = record { same = λ a b x y m n h k e. ap (ordering_then (nat_cmp a.0.0 b.0.0)) e ∙ sym (uid_orders.by_bytes a.0 b.0 m n h k) }

place_one : (a b : Place) (x y m n : List ℕ) → IsPlace a → IsPlace b → in_bytes x y ≡ in_bytes m n → in_bytes (spell_place a ++ x) (spell_place b ++ y) ≡ in_bytes (place a ++ m) (place b ++ n)
unfolding spell_place
place_one Event Event x y m n h k e = e
place_one Event (Object b) x y m n h k e = refl
place_one Event (Attribute b) x y m n h k e = refl
place_one Event (ObjectAttribute b d) x y m n h k e = refl
place_one (Object a) Event x y m n h k e = refl
place_one (Object a) (Object b) x y m n h k e = elem_order.same a b x y m n h k e
place_one (Object a) (Attribute b) x y m n h k e = refl
place_one (Object a) (ObjectAttribute b d) x y m n h k e = refl
place_one (Attribute a) Event x y m n h k e = refl
place_one (Attribute a) (Object b) x y m n h k e = refl
place_one (Attribute a) (Attribute b) x y m n h k e = elem_order.same a b x y m n h k e
place_one (Attribute a) (ObjectAttribute b d) x y m n h k e = refl
place_one (ObjectAttribute a c) Event x y m n h k e = refl
place_one (ObjectAttribute a c) (Object b) x y m n h k e = refl
place_one (ObjectAttribute a c) (Attribute b) x y m n h k e = refl
place_one (ObjectAttribute a c) (ObjectAttribute b d) x y m n h k e = (both_orders elem_order elem_order).same (a, c) (b, d) x y m n h k e

place_order : OneOrder IsPlace spell_place place
place_order = record { same = place_one }

inst_one : (a b x y m n : List ℕ) → in_bytes x y ≡ in_bytes m n → in_bytes (inst_name a ++ x) (inst_name b ++ y) ≡ in_bytes (inst_name a ++ m) (inst_name b ++ n)
inst_one a b x y m n e =
    elim (cases_lt (length a) (length b)) [
      | inl lt ↦ rw (less (length a) (length b) lt) refl
      | inr le ↦ elim (cases_lt (length b) (length a)) [
        | inl gt ↦ rw (greater (length a) (length b) gt) refl
        | inr ge ↦
            let long : length a ≡ length b = omega arith in
            ap (ordering_then (nat_cmp (length a) (length b))) (front_cmp a b x y long ∙ ap (ordering_then (in_bytes a b)) e ∙ sym (front_cmp a b m n long))
      ]
    ]

inst_order : OneOrder (λ (i : Inst). Unit {0}) spell_inst inst_name
unfolding spell_inst
inst_order = record { same = λ a b x y m n h k e. inst_one a b x y m n e }

name_one : (a b : ProposalName) (x y m n : List ℕ) → IsProposalName a → IsProposalName b → in_bytes x y ≡ in_bytes m n →
    in_bytes (spell_name a ++ x) (spell_name b ++ y) ≡ in_bytes (proposal_name a ++ m) (proposal_name b ++ n)
unfolding spell_name
name_one a b x y m n h k e =
    (both_orders place_order (both_orders inst_order (both_orders org_order elem_order))).same (a.target, (a.at, (a.by, a.uuid))) (b.target, (b.at, (b.by, b.uuid))) x y m n
    (h.0.1, (tt, h.1.1)) (k.0.1, (tt, k.1.1)) e

name_order : OneOrder IsProposalName spell_name proposal_name
name_order = record { same = name_one }

key_one : (a b : Key) (x y m n : List ℕ) → IsKey a → IsKey b → in_bytes x y ≡ in_bytes m n → in_bytes (spell a ++ x) (spell b ++ y) ≡ in_bytes (key a ++ m) (key b ++ n)
unfolding spell
key_one (Element e p) (Element f q) x y m n h k r = (both_orders event_order place_order).same (e, p) (f, q) x y m n (h.0, h.1.1) (k.0, k.1.1) r
key_one (Reference e o t u) (Reference f w s v) x y m n h k r =
    (both_orders event_order (both_orders elem_order (both_orders place_order elem_order))).same (e, (o, (t, u))) (f, (w, (s, v))) x y m n
    (h.0, (h.1.0, (h.1.1.0.1, h.1.1.1))) (k.0, (k.1.0, (k.1.1.0.1, k.1.1.1))) r
key_one (Proposal e a) (Proposal f b) x y m n h k r = (both_orders event_order name_order).same (e, a) (f, b) x y m n h k r
key_one (Verdict e a i o) (Verdict f b j w) x y m n h k r =
    (both_orders event_order (both_orders name_order (both_orders inst_order org_order))).same (e, (a, (i, o))) (f, (b, (j, w))) x y m n
    (h.0, (h.1.0, (tt, h.1.1.1))) (k.0, (k.1.0, (tt, k.1.1.1))) r
key_one (Sighting e t i o u) (Sighting f s j w v) x y m n h k r =
    (both_orders event_order (both_orders place_order (both_orders inst_order (both_orders org_order elem_order)))).same (e, (t, (i, (o, u)))) (f, (s, (j, (w, v)))) x y m n
    (h.0, (h.1.0.1, (tt, h.1.1.1))) (k.0, (k.1.0.1, (tt, k.1.1.1))) r
key_one (Element e p) (Reference f w s v) x y m n h k r = refl
key_one (Element e p) (Proposal f b) x y m n h k r = refl
key_one (Element e p) (Verdict f b j w) x y m n h k r = refl
key_one (Element e p) (Sighting f s j w v) x y m n h k r = refl
key_one (Reference e o t u) (Element f q) x y m n h k r = refl
key_one (Reference e o t u) (Proposal f b) x y m n h k r = refl
key_one (Reference e o t u) (Verdict f b j w) x y m n h k r = refl
key_one (Reference e o t u) (Sighting f s j w v) x y m n h k r = refl
key_one (Proposal e a) (Element f q) x y m n h k r = refl
key_one (Proposal e a) (Reference f w s v) x y m n h k r = refl
key_one (Proposal e a) (Verdict f b j w) x y m n h k r = refl
key_one (Proposal e a) (Sighting f s j w v) x y m n h k r = refl
key_one (Verdict e a i o) (Element f q) x y m n h k r = refl
key_one (Verdict e a i o) (Reference f w s v) x y m n h k r = refl
key_one (Verdict e a i o) (Proposal f b) x y m n h k r = refl
key_one (Verdict e a i o) (Sighting f s j w v) x y m n h k r = refl
key_one (Sighting e t i o u) (Element f q) x y m n h k r = refl
key_one (Sighting e t i o u) (Reference f w s v) x y m n h k r = refl
key_one (Sighting e t i o u) (Proposal f b) x y m n h k r = refl
key_one (Sighting e t i o u) (Verdict f b j w) x y m n h k r = refl

key_order : OneOrder IsKey spell key
key_order = record { same = key_one }

-- with nothing after them
alone : {A : Type 0} {Is : A → Type 0} {numbers bytes : A → List ℕ} → OneOrder Is numbers bytes → (a b : A) → Is a → Is b → in_bytes (numbers a) (numbers b) ≡ in_bytes (bytes a) (bytes b)
alone {A} {Is} {numbers} {bytes} o a b h k =
    sym (λ i. in_bytes (append-nil (numbers a) i) (append-nil (numbers b) i)) ∙ o.same a b [] [] [] [] h k refl ∙ (λ i. in_bytes (append-nil (bytes a) i) (append-nil (bytes b) i))

-- ---- rows

-- keys are in the order of their bytes
pub keys_in_bytes : (a b : Key) → IsKey a → IsKey b → is_less (spell a) (spell b) ≡ is_lt (in_bytes (key a) (key b))
keys_in_bytes a b h k = less_is (spell a) (spell b) ∙ ap is_lt (alone key_order a b h k)

names_in_order : (a b : Row) → IsRow a → IsRow b → in_bytes (a.owner.0.0 ∷ spell a.key) (b.owner.0.0 ∷ spell b.key) ≡ in_bytes (name_bytes a) (name_bytes b)
unfolding name_bytes
names_in_order a b h k = alone (both_orders org_order key_order) (a.owner, a.key) (b.owner, b.key) (h.0, h.1.0) (k.0, k.1.0)

-- rows are in the order of their events and the bytes that name them
pub rows_in_bytes : (a b : Row) → IsRow a → IsRow b → stands_before a b ≡ raw_before (event_number a) (name_bytes a) (event_number b) (name_bytes b)
unfolding stands_before is_less raw_before event_number
rows_in_bytes a b h k =
    ap (λ t. ltb (event_of a.key).0.0 (event_of b.key).0.0 || eqb (event_of a.key).0.0 (event_of b.key).0.0 && t)
    (less_is (a.owner.0.0 ∷ spell a.key) (b.owner.0.0 ∷ spell b.key) ∙ ap is_lt (names_in_order a b h k))

-- the same as one comparison
pub before_is_less : (e f : ℕ) (m n : List ℕ) → raw_before e m f n ≡ is_lt (ordering_then (nat_cmp e f) (in_bytes m n))
unfolding raw_before
before_is_less e f m n = sym (lt_then e f (in_bytes m n))

-- one owner and key have one event and name
named_alike : (a b : Row) → (same_org a.owner b.owner && same_key a.key b.key) ≡ true → (eqb (event_number a) (event_number b) && bytes_eq (name_bytes a) (name_bytes b)) ≡ true
unfolding event_number name_bytes
named_alike a b e =
    let owner : a.owner ≡ b.owner = same_org-sound a.owner b.owner (and_parts _ _ e).0 in
    let one_key : a.key ≡ b.key = same_key-sound a.key b.key (and_parts _ _ e).1 in
    and_from _ _ (one_event one_key) ((bytes_eq-Decides (name_bytes a) (name_bytes b)).1 (one_name owner one_key))
  where
    one_event : a.key ≡ b.key → eqb (event_number a) (event_number b) ≡ true
    one_event k = eq-eqb (event_number a) (event_number b) (λ i. (event_of (k i)).0.0)

    one_name : a.owner ≡ b.owner → a.key ≡ b.key → name_bytes a ≡ name_bytes b
    one_name o k i = uid (o i).0 ++ key (k i)

-- one name is that of one owner and key
owned_alike : (a b : Row) → IsRow a → IsRow b → bytes_eq (name_bytes a) (name_bytes b) ≡ true → (same_org a.owner b.owner && same_key a.key b.key) ≡ true
unfolding same_org
owned_alike a b h k e =
    let numbers : (a.owner.0.0 ∷ spell a.key) ≡ (b.owner.0.0 ∷ spell b.key) =
    (bytes_eq-Decides (a.owner.0.0 ∷ spell a.key) (b.owner.0.0 ∷ spell b.key)).0
    (sym (is_eq-slice_cmp (a.owner.0.0 ∷ spell a.key) (b.owner.0.0 ∷ spell b.key)) ∙ ap is_eq (names_in_order a b h k) ∙ is_eq-slice_cmp (name_bytes a) (name_bytes b) ∙ e) in
    let one_key : a.key ≡ b.key = spells a.key b.key (ap tail_of numbers) in
    and_from _ _ (one_owner (ap head_of numbers)) (ap (λ t. same_key t b.key) one_key ∙ same_key-refl b.key)
  where
    one_owner : a.owner.0.0 ≡ b.owner.0.0 → same_org a.owner b.owner ≡ true
    one_owner n = eq-eqb a.owner.0.0 b.owner.0.0 n

-- rows of one owner and key are those of one event and name
pub same_in_bytes : (a b : Row) → IsRow a → IsRow b → (same_org a.owner b.owner && same_key a.key b.key) ≡ (eqb (event_number a) (event_number b) && bytes_eq (name_bytes a) (name_bytes b))
same_in_bytes a b h k = alike _ _ (named_alike a b) (λ e. owned_alike a b h k (and_parts _ _ e).1)
