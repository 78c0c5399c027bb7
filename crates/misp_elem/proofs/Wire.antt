-- Each field of a row on the wire is read as it is written.
use Rattle.std.proofs.Common.{◌≡◌, ℕ, Bool, true, false, cond, eqb, leb, not, ◌&&◌, length, List, [], ◌∷◌, ◌++◌, Ok, Err, refl, sym, ap, subst, ◌∙◌, append_assoc, arith, Option, Some, None, eqb-true, eq-eqb, leb-true}
use Rattle.misp_lists.proofs.Prelude.{IsBytes, and_parts, false≢true}
use Rattle.misp_elem.specs.Prelude.{◌>>=◌, Attribute, Content, Element, Event, EventId, IsBetween, IsKey, IsLabelBut, IsPlaceBut, IsRow, IsStamp, IsUid, KeyForm, Label, Object, ObjectAttribute, OrgId, Place, Proposal}
use Rattle.misp_elem.specs.Prelude.{Reference, RowFields, Sighting, Verdict, barred_labels, event_at, event_key, event_of, inst_name, is_after, key, key_at, label_kind, proposal_name}
use Rattle.misp_elem.specs.declared.row.RowForm.TheVariants.{Second}
use Rattle.misp_elem.specs.Spelling.{uid, place, stamp, label, flags, content_in, fields_in, row}
use Rattle.misp_elem.specs.WireReading.{IsKeyAfter, IsOnWire, nobody_at, own_event_at, front_at, first_key_at, later_key_at, key_after_at, carried_at, fields_on_wire, row_on_wire, row_of_wire}
use Rattle.misp_elem.proofs.Exact.{bind_ok, keep_ok, Takes, IsField, IsMade, last, first, whole, itself, tested, under, all_takes, all_again}
use Rattle.misp_elem.proofs.Keys.{event_field, org_field, place_field, key_field}
use Rattle.misp_elem.proofs.Numbers.{between_field, stamp_field}
use Rattle.misp_elem.proofs.Labels.{flags_field, label_field}
use Rattle.misp_elem.proofs.Contents.{IsContentIn, all_spelled, content_field}

-- ---- the owner, the event and the flags

nobody_field : IsField (λ (o : OrgId). IsUid o.0 × (o.0.0 ≡ 0)) (λ o. uid o.0) nobody_at
unfolding nobody_at
nobody_field = under (λ (o : OrgId). IsUid o.0 × (o.0.0 ≡ 0)) (λ o h. (h.0, eqb-true _ _ h.1)) (λ o h. (h.0, eq-eqb _ _ h.1)) (tested (λ (o : OrgId). eqb o.0.0 0) org_field)

pub own_event_field : (e : EventId) → IsField (λ (f : EventId). IsUid f.0 × (f.0.0 ≡ e.0.0)) (λ f. uid f.0) (own_event_at e)
unfolding own_event_at
own_event_field e =
    under (λ (f : EventId). IsUid f.0 × (f.0.0 ≡ e.0.0)) (λ f h. (h.0, eqb-true _ _ h.1)) (λ f h. (h.0, eq-eqb _ _ h.1)) (tested (λ (f : EventId). eqb f.0.0 e.0.0) event_field)

carried_field : IsField (λ (f : Bool × Bool). Unit {0} × ((not f.0 && f.1) ≡ true)) flags carried_at
unfolding carried_at
carried_field = tested (λ (f : Bool × Bool). not f.0 && f.1) flags_field

carried_flags : (held carried : Bool) → held ≡ false → carried ≡ true → (not held && carried) ≡ true
carried_flags held carried h c = rw (h, c) refl

flags_carried : (held carried : Bool) → (not held && carried) ≡ true → (held ≡ false) × (carried ≡ true)
flags_carried false true h = (refl, refl)
flags_carried false false h = absurd (false≢true h)
flags_carried true carried h = absurd (false≢true h)

-- events of one number are the same
pub one_event : (f e : EventId) → f.0.0 ≡ e.0.0 → f ≡ e
one_event f e h = let make : ℕ → EventId = λ n. record { 0 = record { 0 = n } } in ap make h

-- ---- the key of the first row

pub zero_is : (n : ℕ) → IsBetween 0 0 n → n ≡ 0
zero_is n h = omega (arith, leb-true n 0 (and_parts (leb 0 n) (leb n 0) h).1)

only_event : (p : Place) → IsPlaceBut (1 ∷ 2 ∷ 3 ∷ []) p → p ≡ Event
only_event Event h = refl
only_event (Object o) h = absurd (false≢true (sym h.0))
only_event (Attribute a) h = absurd (false≢true (sym h.0))
only_event (ObjectAttribute o a) h = absurd (false≢true (sym h.0))

first_key_made : (e : EventId)
    → IsMade (λ (p : ℕ × (EventId × Place)). IsBetween 0 0 p.0 × ((IsUid p.1.0.0 × (p.1.0.0.0 ≡ e.0.0)) × IsPlaceBut (1 ∷ 2 ∷ 3 ∷ []) p.1.1))
    (λ p. Element p.1.0 p.1.1) (λ p. (p.0 ∷ []) ++ (uid p.1.0.0 ++ place p.1.1)) (first_key_at e)
unfolding first_key_at
first_key_made e = first (between_field 0 0 (omega arith)) (λ kind. first (own_event_field e) (λ own. last (λ p. Element own p) (place_field (1 ∷ 2 ∷ 3 ∷ []))))

is_first : (e own : EventId) (p : Place) → IsUid own.0 → own.0.0 ≡ e.0.0 → IsPlaceBut (1 ∷ 2 ∷ 3 ∷ []) p → IsKey (Element own p) × (Element own p ≡ event_key e)
unfolding event_key
is_first e own p u same but =
    let events : own ≡ e = one_event own e same in
    let places : p ≡ Event = only_event p but in
    ((u, (refl, but.1)), λ i. Element (events i) (places i))

first_key_takes : (e : EventId) (bytes : List ℕ) (k : KeyForm) (rest : List ℕ) → IsBytes bytes → first_key_at e bytes ≡ Ok (k, rest)
    → (IsKey k × (k ≡ event_key e)) × Takes bytes (key k) rest
first_key_takes e bytes k rest fits r =
    let t = (first_key_made e).takes bytes k rest fits r in
    let a = t.0 in
    let text : Takes bytes (key (Element a.1.0 a.1.1)) rest = subst (λ (n : ℕ). Takes bytes (n ∷ (uid a.1.0.0 ++ place a.1.1)) rest) (zero_is a.0 t.2.0) t.3 in
    subst (λ (j : KeyForm). (IsKey j × (j ≡ event_key e)) × Takes bytes (key j) rest) t.1 (is_first e a.1.0 a.1.1 t.2.1.0.0 t.2.1.0.1 t.2.1.1, text)

first_key_again : (e : EventId) (k : KeyForm) (rest : List ℕ) → IsKey k × (k ≡ event_key e) → first_key_at e (key k ++ rest) ≡ Ok (k, rest)
unfolding event_key
first_key_again e k rest h =
    let is : IsKey (Element e Event) = subst (λ (j : KeyForm). IsKey j) h.1 h.0 in
    let read : first_key_at e (key (Element e Event) ++ rest) ≡ Ok (Element e Event, rest) = (first_key_made e).again (0, (e, Event)) rest (refl, ((is.0, refl), (refl, tt))) in
    subst (λ (j : KeyForm). first_key_at e (key j ++ rest) ≡ Ok (j, rest)) (sym h.1) read

-- ---- the key of a later row

-- what the front of a key says: its event, where it is this one
abbrev pub Fronts : EventId → EventId → List ℕ → Type 0
Fronts e f bytes = (y : List ℕ) × (n : ℕ) × (front_at e bytes ≡ cond (eqb f.0.0 e.0.0) (Ok (f, y)) (Err n))

front_reads : (e f : EventId) (kind : ℕ) (x rest : List ℕ) → IsBetween 0 4 kind → IsUid f.0 → Fronts e f ((kind ∷ (uid f.0 ++ x)) ++ rest)
unfolding front_at own_event_at
front_reads e f kind x rest between u =
    let tail : List ℕ = (uid f.0 ++ x) ++ rest in
    let read : event_at tail ≡ Ok (f, x ++ rest) = ap (λ (bytes : List ℕ). event_at bytes) (append_assoc (uid f.0) x rest) ∙ event_field.again f (x ++ rest) u in (
      x ++ rest,
      length tail,
      ap (λ r. r >>= λ k. own_event_at e k.1) ((between_field 0 4 (omega arith)).again kind tail between)
          ∙ ap (λ r. r >>= λ own. cond (eqb own.0.0.0 e.0.0) (Ok own) (Err (length tail))) read,
    )

pub front_of_key : (e : EventId) (k : KeyForm) (rest : List ℕ) → IsKey k → Fronts e (event_of k) (key k ++ rest)
unfolding event_of
front_of_key e (Element f p) rest h = front_reads e f 0 (place p) rest refl h.0
front_of_key e (Reference f object target uuid) rest h = front_reads e f 1 (uid object.0 ++ (place target ++ uid uuid.0)) rest refl h.0
front_of_key e (Proposal f name) rest h = front_reads e f 2 (proposal_name name) rest refl h.0
front_of_key e (Verdict f name at judge) rest h = front_reads e f 3 (proposal_name name ++ (inst_name at ++ uid judge.0)) rest refl h.0
front_of_key e (Sighting f target at by uuid) rest h = front_reads e f 4 (place target ++ (inst_name at ++ (uid by.0 ++ uid uuid.0))) rest refl h.0

pub front_is : (e : EventId) (k : KeyForm) (rest : List ℕ) → IsKey k → (x : EventId × List ℕ) → front_at e (key k ++ rest) ≡ Ok x → event_of k ≡ e
front_is e k rest is x h =
    let w = front_of_key e k rest is in
    let c = keep_ok (eqb (event_of k).0.0 e.0.0) w.1 (event_of k, w.0) x (sym w.2 ∙ h) in
    one_event (event_of k) e (eqb-true _ _ c.0)

later_key_takes : (e : EventId) (before : KeyForm) (bytes : List ℕ) (k : KeyForm) (rest : List ℕ) → IsBytes bytes → later_key_at e before bytes ≡ Ok (k, rest)
    → (IsKey k × IsKeyAfter e (Some before) k) × Takes bytes (key k) rest
unfolding later_key_at
later_key_takes e before bytes k rest fits r =
    let f = bind_ok (front_at e bytes) (λ front. key_at bytes >>= λ next. cond (is_after (key before) (key next.0)) (Ok next) (Err (length bytes))) (k, rest) r in
    let s = bind_ok (key_at bytes) (λ next. cond (is_after (key before) (key next.0)) (Ok next) (Err (length bytes))) (k, rest) f.2 in
    let g = keep_ok (is_after (key before) (key s.0.0)) (length bytes) s.0 (k, rest) s.2 in
    let t = key_field.takes bytes s.0.0 s.0.1 fits s.1 in
    let same : event_of s.0.0 ≡ e = front_is e s.0.0 s.0.1 t.0 f.0 (ap (front_at e) (sym t.1.parts) ∙ f.1) in
    subst (λ (x : KeyForm × List ℕ). (IsKey x.0 × IsKeyAfter e (Some before) x.0) × Takes bytes (key x.0) x.1) g.1 ((t.0, (same, g.0)), t.1)

later_key_again : (e : EventId) (before k : KeyForm) (rest : List ℕ) → IsKey k × IsKeyAfter e (Some before) k → later_key_at e before (key k ++ rest) ≡ Ok (k, rest)
unfolding later_key_at
later_key_again e before k rest h =
    let bytes : List ℕ = key k ++ rest in
    let w = front_of_key e k rest h.0 in
    let own : eqb (event_of k).0.0 e.0.0 ≡ true = eq-eqb _ _ (ap (λ (f : EventId). f.0.0) h.1.0) in
    let front : front_at e bytes ≡ Ok (event_of k, w.0) = w.2 ∙ ap (λ b. cond b (Ok (event_of k, w.0)) (Err w.1)) own in
    ap (λ r. r >>= λ f. key_at bytes >>= λ next. cond (is_after (key before) (key next.0)) (Ok next) (Err (length bytes))) front
    ∙ ap (λ r. r >>= λ next. cond (is_after (key before) (key next.0)) (Ok next) (Err (length bytes))) (key_field.again k rest h.0)
    ∙ ap (λ b. cond b (Ok (k, rest)) (Err (length bytes))) h.1.1

key_after_field : (e : EventId) (before : Option KeyForm) → IsField (λ k. IsKey k × IsKeyAfter e before k) key (key_after_at e before)
unfolding key_after_at
key_after_field e None = record { takes = λ bytes k rest fits r. first_key_takes e bytes k rest fits r; again = λ k rest h. first_key_again e k rest h }
key_after_field e (Some before) = record { takes = λ bytes k rest fits r. later_key_takes e before bytes k rest fits r; again = λ k rest h. later_key_again e before k rest h }

-- ---- rows

wire_made : (e : EventId) (before : Option KeyForm) → IsMade
    (λ (p : OrgId × (KeyForm × (ℕ × (Label × ((Bool × Bool) × Content))))). (IsUid p.0.0 × (p.0.0.0 ≡ 0))
    × ((IsKey p.1.0 × IsKeyAfter e before p.1.0)
    × (IsStamp p.1.1.0
    × (IsLabelBut (barred_labels p.1.0) p.1.1.1.0
    × ((Unit {0} × ((not p.1.1.1.1.0.0 && p.1.1.1.1.0.1) ≡ true))
    × IsContentIn Second p.1.0 (label_kind p.1.1.1.0) p.1.1.1.1.0 p.1.1.1.1.1)))))
    (λ p. record { owner = p.0; key = p.1.0; stamp = p.1.1.0; label = p.1.1.1.0; held = p.1.1.1.1.0.0; carried = p.1.1.1.1.0.1; content = p.1.1.1.1.1 })
    (λ p. uid p.0.0 ++ (key p.1.0 ++ (stamp p.1.1.0 ++ (label p.1.1.1.0 ++ (flags p.1.1.1.1.0 ++ content_in Second p.1.1.1.1.1)))))
    (fields_on_wire e before)
unfolding fields_on_wire
wire_made e before =
    first nobody_field (λ owner. first (key_after_field e before) (λ k. first stamp_field (λ s. first (label_field (barred_labels k)) (λ l. first carried_field (λ f.
    last (λ c. record { owner = owner; key = k; stamp = s; label = l; held = f.0; carried = f.1; content = c }) (content_field Second k (label_kind l) f))))))

wire_field : (e : EventId) (before : Option KeyForm) → IsField (λ r. IsRow r × IsOnWire e before r) (fields_in Second) (fields_on_wire e before)
wire_field e before =
    whole (λ r. (r.owner, (r.key, (r.stamp, (r.label, ((r.held, r.carried), r.content)))))) (λ r. IsRow r × IsOnWire e before r) (fields_in Second) (λ r. refl)
    (λ r h. ((h.0.0, h.1.0), ((h.0.1.0, h.1.1.0), (h.0.1.1.0, (h.0.1.1.1.0, ((tt, carried_flags r.held r.carried h.1.1.1.0 h.1.1.1.1), (h.0.1.1.1.1.1, all_spelled r.content)))))))
    (λ p h. ((h.0.0, (h.1.0.0, (h.1.1.0, (h.1.1.1.0, (tt, h.1.1.1.1.1.0))))), (h.0.1, (h.1.0.1, flags_carried p.1.1.1.1.0.0 p.1.1.1.1.0.1 h.1.1.1.1.0.1))))
    (λ p h. refl) (wire_made e before)

-- the only form is 2
form_is_2 : (n : ℕ) → IsBetween 2 2 n → n ≡ 2
form_is_2 n h = let q = and_parts (leb 2 n) (leb n 2) h in omega (arith, leb-true 2 n q.0, leb-true n 2 q.1)

wire_row_made : (e : EventId) (before : Option KeyForm)
    → IsMade (λ (p : ℕ × RowFields). IsBetween 2 2 p.0 × (IsRow p.1 × IsOnWire e before p.1)) (λ p. p.1) (λ p. (p.0 ∷ []) ++ fields_in Second p.1) (row_on_wire e before)
unfolding row_on_wire
wire_row_made e before = first (between_field 2 2 (omega arith)) (λ form. itself (wire_field e before))

wire_row_field : (e : EventId) (before : Option KeyForm) → IsField (λ r. IsRow r × IsOnWire e before r) row (row_on_wire e before)
wire_row_field e before =
    whole (λ r. (2, r)) (λ r. IsRow r × IsOnWire e before r) row (λ r. refl) (λ r h. (refl, h)) (λ p h. h.1) (λ p h. ap (λ (n : ℕ). n ∷ fields_in Second p.1) (sym (form_is_2 p.0 h.0))) (wire_row_made e before)

pub row_of_wire_takes : (e : EventId) (before : Option KeyForm) (bytes : List ℕ) (r : RowFields) → IsBytes bytes → row_of_wire e before bytes ≡ Ok r
    → (IsRow r × IsOnWire e before r) × (bytes ≡ row r)
unfolding row_of_wire
row_of_wire_takes e before bytes r fits h = all_takes (wire_row_field e before) bytes r fits h

pub row_of_wire_again : (e : EventId) (before : Option KeyForm) (r : RowFields) → IsRow r → IsOnWire e before r → row_of_wire e before (row r) ≡ Ok r
unfolding row_of_wire
row_of_wire_again e before r is on = all_again (wire_row_field e before) r (is, on)
