-- Keys of an event are read as they are written, and their faults are within their bytes.
use Rattle.std.proofs.Common.{◌≡◌, ℕ, ◌-◌, ◌<◌, ◌≤◌, ◌^◌, Bool, true, false, cond, eqb, leb, ◌==◌, length, List, [], ◌∷◌, ◌++◌, Result, Ok, Err, refl, sym, ap, subst, ◌∙◌, append-nil, arith, Option, Some, None, eqb-true, eq-eqb, leb-true}
use Rattle.misp_lists.proofs.Prelude.{IsBytes, and_parts}
use Rattle.misp_elem.specs.Prelude.{◌>>=◌, EventId, IsBetween, IsKey, IsUid, Reading, event_at, event_key, event_of, inst_name, is_after, key, proposal_name}
use Rattle.misp_elem.specs.KeyReading.{key_of}
use Rattle.misp_elem.specs.Reading.{answer, ended}
use Rattle.misp_elem.specs.Spelling.{uid, place}
use Rattle.misp_elem.specs.WireReading.{IsKeyAfter, front_at, own_event_at}
use Rattle.misp_elem.specs.declared.fault.DecodeFault.{DecodeFault}
use Rattle.misp_elem.specs.declared.fault.DecodeFault.TheVariants.{BadRow}
use Rattle.misp_elem.proofs.Exact.{bind_ok, keep_ok, Takes, IsField, IsMade, all_again, all_takes, first, last, tested, under}
use Rattle.misp_elem.proofs.Keys.{event_field, key_of_again, key_of_takes}
use Rattle.misp_elem.proofs.Numbers.{between_field}
use Rattle.misp_elem.proofs.Wire.{front_is, front_of_key, one_event, own_event_field, zero_is}
use Rattle.misp_model.specs.Prelude.{Element, Key, Place, Proposal, Reference, Sighting, Verdict}
use Rattle.misp_manifest.specs.Wanted.{IsOwnKeyAfter}
use Rattle.misp_package.proofs.BoundedFields.{IsBounded, Within, before, between_bounded, final, front_bounded, key_bounded, own_event_bounded}
use Rattle.misp_package.proofs.FieldSizes.{key_size}
use Rattle.misp_wanted.specs.ManifestReading.{first_key_at, first_key_of, later_key_of, list_key_of, listed_key_of, own_key_of, wanted_key_of}
use Rattle.misp_wanted.proofs.ListFields.{IsWholly}

-- ---- the first key

first_key_made : (e : EventId)
    → IsMade (λ (p : ℕ × (EventId × ℕ)). IsBetween 0 0 p.0 × ((IsUid p.1.0.0 × (p.1.0.0.0 ≡ e.0.0)) × IsBetween 0 0 p.1.1))
    (λ p. event_key p.1.0) (λ p. (p.0 ∷ []) ++ (uid p.1.0.0 ++ (p.1.1 ∷ []))) (first_key_at e)
unfolding first_key_at
first_key_made e = first (between_field 0 0 (omega arith)) (λ kind. first (own_event_field e) (λ own. last (λ p. event_key own) (between_field 0 0 (omega arith))))

first_takes : (e : EventId) (bytes : List ℕ) (k : Key) (rest : List ℕ) → IsBytes bytes → first_key_at e bytes ≡ Ok (k, rest)
    → (IsKey k × (k ≡ event_key e)) × Takes bytes (key k) rest
unfolding event_key
first_takes e bytes k rest fits r =
    let t = (first_key_made e).takes bytes k rest fits r in
    let a = t.0 in
    let kind : a.0 ≡ 0 = zero_is a.0 t.2.0 in
    let at : a.1.1 ≡ 0 = zero_is a.1.1 t.2.1.1 in
    let text : Takes bytes (key (event_key a.1.0)) rest =
    subst (λ (n : ℕ). Takes bytes (0 ∷ (uid a.1.0.0 ++ (n ∷ []))) rest) at (subst (λ (n : ℕ). Takes bytes (n ∷ (uid a.1.0.0 ++ (a.1.1 ∷ []))) rest) kind t.3) in
    let own : a.1.0 ≡ e = one_event a.1.0 e t.2.1.0.1 in
    subst (λ (j : Key). (IsKey j × (j ≡ event_key e)) × Takes bytes (key j) rest) t.1 (((t.2.1.0.0, (refl, tt)), ap event_key own), text)

first_again : (e : EventId) (k : Key) (rest : List ℕ) → IsKey k × (k ≡ event_key e) → first_key_at e (key k ++ rest) ≡ Ok (k, rest)
unfolding event_key
first_again e k rest h =
    let is : IsKey (Element e Place.Event) = subst (λ (j : Key). IsKey j) h.1 h.0 in
    let read : first_key_at e (key (Element e Place.Event) ++ rest) ≡ Ok (Element e Place.Event, rest) = (first_key_made e).again (0, (e, 0)) rest (refl, ((is.0, refl), refl)) in
    subst (λ (j : Key). first_key_at e (key j ++ rest) ≡ Ok (j, rest)) (sym h.1) read

first_field : (e : EventId) → IsField (λ k. IsKey k × (k ≡ event_key e)) key (first_key_at e)
first_field e = record { takes = first_takes e; again = first_again e }

-- ---- a key of the event

own_takes : (e : EventId) (bytes : List ℕ) (k : Key) → IsBytes bytes → own_key_of e bytes ≡ Ok k → (IsKey k × (event_of k ≡ e)) × (bytes ≡ key k)
unfolding own_key_of
own_takes e bytes k fits r =
    let f = bind_ok (front_at e bytes) (λ front. key_of bytes) k r in
    let t = key_of_takes bytes k fits f.2 in
    ((t.0, front_is e k [] t.0 f.0 (ap (front_at e) (append-nil (key k) ∙ sym t.1) ∙ f.1)), t.1)

own_again : (e : EventId) (k : Key) → IsKey k × (event_of k ≡ e) → own_key_of e (key k) ≡ Ok k
unfolding own_key_of
own_again e k h =
    let w = front_of_key e k [] h.0 in
    let own : eqb (event_of k).0.0 e.0.0 ≡ true = eq-eqb _ _ (ap (λ (f : EventId). f.0.0) h.1) in
    let front : front_at e (key k) ≡ Ok (event_of k, w.0) =
    ap (front_at e) (sym (append-nil (key k))) ∙ w.2 ∙ ap (λ b. cond b (Ok (event_of k, w.0)) (Err w.1)) own in
    ap (λ r. r >>= λ f. key_of (key k)) front ∙ key_of_again k h.0

later_takes : (e : EventId) (b : Key) (bytes : List ℕ) (k : Key) → IsBytes bytes → later_key_of e b bytes ≡ Ok k → (IsKey k × IsKeyAfter e (Some b) k) × (bytes ≡ key k)
unfolding later_key_of
later_takes e b bytes k fits r =
    let s = bind_ok (own_key_of e bytes) (λ j. cond (is_after (key b) (key j)) (Ok j) (Err (length bytes))) k r in
    let g = keep_ok (is_after (key b) (key s.0)) (length bytes) s.0 k s.2 in
    let t = own_takes e bytes s.0 fits s.1 in
    subst (λ (j : Key). (IsKey j × IsKeyAfter e (Some b) j) × (bytes ≡ key j)) g.1 ((t.0.0, (t.0.1, g.0)), t.1)

later_again : (e : EventId) (b k : Key) → IsKey k × IsKeyAfter e (Some b) k → later_key_of e b (key k) ≡ Ok k
unfolding later_key_of
later_again e b k h =
    ap (λ r. r >>= λ j. cond (is_after (key b) (key j)) (Ok j) (Err (length (key k)))) (own_again e k (h.0, h.1.0))
    ∙ ap (λ t. cond t (Ok k) (Err (length (key k)))) h.1.1

key_short : (k : Key) → IsKey k → length (key k) < 2 ^ 32
key_short k h = omega (arith, key_size k h)

pub listed_wholly : (e : EventId) (b : Option Key) → IsWholly (λ k. IsKey k × IsKeyAfter e b k) key (listed_key_of e b)
unfolding first_key_of
listed_wholly e None = record {
  takes = λ bytes k fits r. all_takes (first_field e) bytes k fits r;
  again = λ k h. all_again (first_field e) k h;
  short = λ k h. key_short k h.0;
}
listed_wholly e (Some b) = record {
  takes = λ bytes k fits r. later_takes e b bytes k fits r;
  again = λ k h. later_again e b k h;
  short = λ k h. key_short k h.0;
}

pub wanted_wholly : (e : EventId) (b : Option Key) → IsWholly (λ k. IsKey k × IsOwnKeyAfter e b k) key (wanted_key_of e b)
wanted_wholly e None = record {
  takes = λ bytes k fits r. own_takes e bytes k fits r;
  again = λ k h. own_again e k h;
  short = λ k h. key_short k h.0;
}
wanted_wholly e (Some b) = record {
  takes = λ bytes k fits r. later_takes e b bytes k fits r;
  again = λ k h. later_again e b k h;
  short = λ k h. key_short k h.0;
}

-- ---- faults

left_is : {A : Type 0} (b : Bool) (a : A) (m left : ℕ) → ◌≡◌ {A = Result A ℕ} (cond b (Ok a) (Err m)) (Err left) → m ≡ left
left_is true a m left e = absurd cc
left_is false a m left e = cc

ended_within : {A : Type 0} (n : ℕ) (read : Reading A) (left : ℕ) → Within n read → (read >>= λ x. ended x) ≡ Err left → left ≤ n
ended_within n (Ok x) left h e = omega (arith, h.le, left_is (length x.1 == 0) x.0 (length x.1) left e)
ended_within n (Err m) left h e = let same : m ≡ left = cc in omega (arith, h.le)

first_bounded : (e : EventId) → IsBounded (first_key_at e)
unfolding first_key_at
first_bounded e = before (between_bounded 0 0) (λ kind. before (own_event_bounded e) (λ own. final (λ p. event_key own) (between_bounded 0 0)))

first_fault : (e : EventId) (bytes : List ℕ) (left : ℕ) → first_key_of e bytes ≡ Err left → left ≤ length bytes
unfolding first_key_of
first_fault e bytes left h = ended_within (length bytes) (first_key_at e bytes) left ((first_bounded e).within (length bytes) bytes (omega arith)) h

pub key_fault : (bytes : List ℕ) (left : ℕ) → key_of bytes ≡ Err left → left ≤ length bytes
unfolding key_of
key_fault bytes left h = ended_within (length bytes) _ left (key_bounded.within (length bytes) bytes (omega arith)) h

own_fault : (e : EventId) (bytes : List ℕ) (left : ℕ) → own_key_of e bytes ≡ Err left → left ≤ length bytes
unfolding own_key_of
own_fault e bytes left h = one (front_at e bytes) ((front_bounded e).within (length bytes) bytes (omega arith)) h
  where
    one : (read : Reading EventId) → Within (length bytes) read → (read >>= λ front. key_of bytes) ≡ Err left → left ≤ length bytes
    one (Ok x) w r = key_fault bytes left r
    one (Err m) w r = let same : m ≡ left = cc in omega (arith, w.le)

later_fault : (e : EventId) (b : Key) (bytes : List ℕ) (left : ℕ) → later_key_of e b bytes ≡ Err left → left ≤ length bytes
unfolding later_key_of
later_fault e b bytes left h = one (own_key_of e bytes) (own_fault e bytes) h
  where
    one : (read : Result Key ℕ) → ((m : ℕ) → read ≡ Err m → m ≤ length bytes) → (read >>= λ k. cond (is_after (key b) (key k)) (Ok k) (Err (length bytes))) ≡ Err left → left ≤ length bytes
    one (Ok k) within r = omega (arith, left_is (is_after (key b) (key k)) k (length bytes) left r)
    one (Err m) within r = let same : m ≡ left = cc in omega (arith, within m refl)

listed_fault : (e : EventId) (b : Option Key) (bytes : List ℕ) (left : ℕ) → listed_key_of e b bytes ≡ Err left → left ≤ length bytes
listed_fault e None bytes left h = first_fault e bytes left h
listed_fault e (Some b) bytes left h = later_fault e b bytes left h

wanted_fault : (e : EventId) (b : Option Key) (bytes : List ℕ) (left : ℕ) → wanted_key_of e b bytes ≡ Err left → left ≤ length bytes
wanted_fault e None bytes left h = own_fault e bytes left h
wanted_fault e (Some b) bytes left h = later_fault e b bytes left h

pub list_fault : (own_first : Bool) (e : EventId) (b : Option Key) (bytes : List ℕ) (left : ℕ) → list_key_of own_first e b bytes ≡ Err left → left ≤ length bytes
list_fault true e b bytes left h = listed_fault e b bytes left h
list_fault false e b bytes left h = wanted_fault e b bytes left h

-- ---- what a decoder answers

abbrev answers : List ℕ → Result Key ℕ → Result Key DecodeFault
answers = answer

pub decoded : (bytes : List ℕ) (k : Key) (read : Result Key ℕ) → Ok k ≡ answers bytes read → read ≡ Ok k
decoded bytes k (Ok x) h = cc
decoded bytes k (Err left) h = absurd cc

pub not_decoded : (bytes : List ℕ) (p : ℕ) (read : Result Key ℕ) → ((left : ℕ) → read ≡ Err left → left ≤ length bytes) → Err (BadRow p) ≡ answers bytes read → read ≡ Err (length bytes - p)
not_decoded bytes p (Ok x) within h = absurd cc
not_decoded bytes p (Err left) within h = let same : p ≡ length bytes - left = cc in ap (λ (m : ℕ). Err m) (omega (arith, same, within left refl))

pub always_decided : (bytes : List ℕ) (read : Result Key ℕ) → Err DecodeFault.NoMemory ≡ answers bytes read → ⊥
always_decided bytes (Ok x) h = cc
always_decided bytes (Err left) h = cc
