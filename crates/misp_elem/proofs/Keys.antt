-- Each field of a key is read as it is written.
use Rattle.std.proofs.Common.{◌≡◌, ℕ, ◌<◌, ◌≤◌, false, cond, eqb, ltb, List, [], ◌∷◌, ◌++◌, length, take, drop, Ok, Err, refl, sym, ap, subst, ◌∙◌, arith, inl, inr, eqb-true, ltb-false, le-ltb, take_at, drop_at, take-append-drop}
use Rattle.std.proofs.Common.{length-append, length-take}
use Rattle.std.specs.Int.{w128, from_be_bytes}
use Rattle.uuid.proofs.OrderLemmas.{from_be_bytes-to_be_bytes_16}
use Rattle.misp_ids.specs.Names.{is_inst_name}
use Rattle.misp_lists.proofs.Bytes.{IsBytes, IsBytes-rest, IsBytes-take, IsBytes-drop, to_be_bytes-from_be_bytes_16, from_be_bytes_16-lt}
use Rattle.misp_elem.specs.Prelude.{◌>>=◌, Attribute, Element, ElemId, Event, EventId, IsKey, IsPlace, IsPlaceBut, IsUid, KeyForm, Object, ObjectAttribute, OrgId, Place, Proposal, ProposalName, Reading, Reference, Sighting, Uid, Verdict}
use Rattle.misp_elem.specs.Prelude.{byte_at, event_at, inst_name, key, key_at, list_any, of_proposal, org_at, place_kind, proposal_name, to_be_bytes}
use Rattle.misp_elem.specs.Key.{IsInstName, IsProposalName, of_reference, of_sighting}
use Rattle.misp_elem.specs.Spelling.{uid, place}
use Rattle.misp_elem.specs.Reading.{uid_at, elem_at, inst_of, inst_at}
use Rattle.misp_elem.specs.KeyReading.{place_of, place_at, proposal_at, element_at, reference_at, proposed_at, verdict_at, sighting_at, key_of_kind, key_of}
use Rattle.misp_elem.proofs.Exact.{bind_ok, guard_ok, keep_ok, chosen, ok_is, Takes, Takes-then, IsField, IsMade, last, first, whole, cased, all_takes, all_again, no_error}

-- ---- identifiers

read_uid : List ℕ → Uid
read_uid bytes = record { 0 = from_be_bytes w128 (take 16 bytes) }

uid_takes : (bytes : List ℕ) (u : Uid) (rest : List ℕ) → IsBytes bytes → uid_at bytes ≡ Ok (u, rest) → IsUid u × Takes bytes (uid u) rest
unfolding uid
uid_takes bytes u rest fits e =
    let made : Uid × List ℕ = (record { 0 = from_be_bytes w128 (take 16 bytes) }, drop 16 bytes) in
    let g = guard_ok (ltb (length bytes) 16) (length bytes) (Ok made) (u, rest) e in
    let long : 16 ≤ length bytes = ltb-false _ _ g.0 in
    let front = IsBytes-take 16 bytes fits in
    let spelled : to_be_bytes w128 (from_be_bytes w128 (take 16 bytes)) ≡ take 16 bytes = to_be_bytes-from_be_bytes_16 (take 16 bytes) (omega (arith, length-take 16 bytes)) front in
    let taken : Takes bytes (uid made.0) made.1 = record { parts = sym (take-append-drop 16 bytes) ∙ ap (λ (t : List ℕ). t ++ drop 16 bytes) (sym spelled); rest_fits = IsBytes-drop 16 bytes fits } in
    subst (λ (x : Uid × List ℕ). IsUid x.0 × Takes bytes (uid x.0) x.1) (ok_is made (u, rest) g.1) (from_be_bytes_16-lt (take 16 bytes) front, taken)

uid_again : (u : Uid) (rest : List ℕ) → IsUid u → uid_at (uid u ++ rest) ≡ Ok (u, rest)
unfolding uid
uid_again u rest fits =
    let long : ltb (length (uid u ++ rest)) 16 ≡ false = le-ltb _ _ (omega (arith, length-append (uid u) rest)) in
    let ok : ℕ → Reading Uid = λ n. Ok (record { 0 = n }, rest) in
    rw long (ap ok (from_be_bytes-to_be_bytes_16 u.0 fits))

pub uid_field : IsField IsUid uid uid_at
uid_field = record { takes = uid_takes; again = uid_again }

pub elem_field : IsField (λ e. IsUid e.0) (λ e. uid e.0) elem_at
elem_field = whole (λ e. e.0) (λ e. IsUid e.0) (λ e. uid e.0) (λ e. refl) (λ e h. h) (λ u h. h) (λ u h. refl) (last (λ u. record { 0 = u }) uid_field)

pub event_field : IsField (λ e. IsUid e.0) (λ e. uid e.0) event_at
event_field = whole (λ e. e.0) (λ e. IsUid e.0) (λ e. uid e.0) (λ e. refl) (λ e h. h) (λ u h. h) (λ u h. refl) (last (λ u. record { 0 = u }) uid_field)

pub org_field : IsField (λ e. IsUid e.0) (λ e. uid e.0) org_at
org_field = whole (λ e. e.0) (λ e. IsUid e.0) (λ e. uid e.0) (λ e. refl) (λ e h. h) (λ u h. h) (λ u h. refl) (last (λ u. record { 0 = u }) uid_field)

-- ---- names of instances

pub byte_field : IsField (λ b. b < 256) (λ b. b ∷ []) byte_at
byte_field = record { takes = byte_takes; again = λ b rest h. refl } where
  byte_takes : (bytes : List ℕ) (b : ℕ) (rest : List ℕ) → IsBytes bytes → byte_at bytes ≡ Ok (b, rest) → (b < 256) × Takes bytes (b ∷ []) rest
  byte_takes [] b rest fits e = absurd cc
  byte_takes (x ∷ xs) b rest fits e = subst (λ (y : ℕ × List ℕ). (y.0 < 256) × Takes (x ∷ xs) (y.0 ∷ []) y.1) (ok_is (x, xs) (b, rest) e) (fits 0, record { parts = refl; rest_fits = IsBytes-rest x xs fits })

inst_takes : (bytes name rest : List ℕ) → IsBytes bytes → inst_at bytes ≡ Ok (name, rest) → IsInstName name × Takes bytes (inst_name name) rest
unfolding inst_at
inst_takes bytes name rest fits e =
    let b = bind_ok (byte_at bytes) (λ len. inst_of bytes len.0 len.1) (name, rest) e in
    let len = b.0.0 in
    let after = b.0.1 in
    let t = byte_field.takes bytes len after fits b.1 in
    let made : List ℕ × List ℕ = (take len after, drop len after) in
    let g = guard_ok (ltb (length after) len) (length bytes) (cond (is_inst_name (take len after)) (Ok made) (Err (length bytes))) (name, rest) b.2 in
    let k = keep_ok (is_inst_name (take len after)) (length bytes) made (name, rest) g.1 in
    let long : len ≤ length after = ltb-false _ _ g.0 in
    let size : length (take len after) ≡ len = omega (arith, length-take len after) in
    let second : Takes after made.0 made.1 = record { parts = sym (take-append-drop len after); rest_fits = IsBytes-drop len after t.1.rest_fits } in
    let both = Takes-then bytes (len ∷ []) after made.0 made.1 t.1 second in
    let spelled : Takes bytes (inst_name made.0) made.1 = subst (λ (n : ℕ). Takes bytes (n ∷ made.0) made.1) (sym size) both in
    subst (λ (x : List ℕ × List ℕ). IsInstName x.0 × Takes bytes (inst_name x.0) x.1) k.1 (k.0, spelled)

inst_again : (name rest : List ℕ) → IsInstName name → inst_at (inst_name name ++ rest) ≡ Ok (name, rest)
unfolding inst_at
inst_again name rest h =
    let long : ltb (length (name ++ rest)) (length name) ≡ false = le-ltb _ _ (omega (arith, length-append name rest)) in
    rw (long, take_at name rest (length name) refl, h, drop_at name rest (length name) refl) refl

pub inst_field : IsField IsInstName inst_name inst_at
inst_field = record { takes = inst_takes; again = inst_again }

-- ---- places

object_made : IsMade (λ (e : ElemId). IsUid e.0) (λ e. Object e) (λ e. uid e.0) (λ rest. elem_at rest >>= λ e. Ok (Object e.0, e.1))
object_made = last (λ e. Object e) elem_field

attribute_made : IsMade (λ (e : ElemId). IsUid e.0) (λ e. Attribute e) (λ e. uid e.0) (λ rest. elem_at rest >>= λ e. Ok (Attribute e.0, e.1))
attribute_made = last (λ e. Attribute e) elem_field

inner_made : IsMade (λ (p : ElemId × ElemId). IsUid p.0.0 × IsUid p.1.0) (λ p. ObjectAttribute p.0 p.1) (λ p. uid p.0.0 ++ uid p.1.0) (λ rest. elem_at rest >>= λ o. elem_at o.1 >>= λ a. Ok (ObjectAttribute o.0 a.0, a.1))
inner_made = first elem_field (λ o. last (λ a. ObjectAttribute o a) elem_field)

-- a place of this kind
abbrev IsOfKind : ℕ → Place → Type 0
IsOfKind kind p = (place_kind p ≡ kind) × IsPlace p

place_of_takes : (bytes : List ℕ) (kind : ℕ) (after : List ℕ) (p : Place) (rest : List ℕ) → IsBytes after → place_of bytes kind after ≡ Ok (p, rest) → IsOfKind kind p × Takes (kind ∷ after) (place p) rest
place_of_takes bytes kind after p rest fits e =
    elim (chosen (eqb kind 0) (Ok (Event, after)) _ _ e) [
      | inl found ↦
          let is = eqb-true _ _ found.0 in
          subst (λ (x : Place × List ℕ). IsOfKind kind x.0 × Takes (kind ∷ after) (place x.0) x.1) (ok_is (Event, after) (p, rest) found.1) ((sym is, tt), record { parts = ap (λ (k : ℕ). k ∷ after) is; rest_fits = fits })
      | inr other ↦ elim (chosen (eqb kind 1) _ _ _ other.1) [
        | inl found ↦ let is = eqb-true _ _ found.0 in cased (IsOfKind kind) place 1 kind object_made is (λ a h. (sym is, h)) (λ a. refl) after p rest fits found.1
        | inr other ↦ elim (chosen (eqb kind 2) _ _ _ other.1) [
          | inl found ↦ let is = eqb-true _ _ found.0 in cased (IsOfKind kind) place 2 kind attribute_made is (λ a h. (sym is, h)) (λ a. refl) after p rest fits found.1
          | inr other ↦ elim (chosen (eqb kind 3) _ _ _ other.1) [
            | inl found ↦ let is = eqb-true _ _ found.0 in cased (IsOfKind kind) place 3 kind inner_made is (λ a h. (sym is, h)) (λ a. refl) after p rest fits found.1
            | inr other ↦ absurd (no_error (length bytes) (p, rest) other.1)
          ]
        ]
      ]
    ]

place_takes : (barred bytes : List ℕ) (p : Place) (rest : List ℕ) → IsBytes bytes → place_at barred bytes ≡ Ok (p, rest) → IsPlaceBut barred p × Takes bytes (place p) rest
unfolding place_at
place_takes barred bytes p rest fits e =
    let b = bind_ok (byte_at bytes) (λ kind. cond (list_any (λ x. eqb x kind.0) barred) (Err (length bytes)) (place_of bytes kind.0 kind.1)) (p, rest) e in
    let t = byte_field.takes bytes b.0.0 b.0.1 fits b.1 in
    let g = guard_ok (list_any (λ x. eqb x b.0.0) barred) (length bytes) (place_of bytes b.0.0 b.0.1) (p, rest) b.2 in
    let k = place_of_takes bytes b.0.0 b.0.1 p rest t.1.rest_fits g.1 in
    ((ap (λ kind. list_any (λ x. eqb x kind) barred) k.0.0 ∙ g.0, k.0.1), record { parts = t.1.parts ∙ k.1.parts; rest_fits = k.1.rest_fits })

place_again : (barred : List ℕ) (p : Place) (rest : List ℕ) → IsPlaceBut barred p → place_at barred (place p ++ rest) ≡ Ok (p, rest)
unfolding place_at
place_again barred Event rest h = rw h.0 refl
place_again barred (Object o) rest h = rw h.0 (object_made.again o rest h.1)
place_again barred (Attribute a) rest h = rw h.0 (attribute_made.again a rest h.1)
place_again barred (ObjectAttribute o a) rest h = rw h.0 (inner_made.again (o, a) rest h.1)

pub place_field : (barred : List ℕ) → IsField (IsPlaceBut barred) place (place_at barred)
place_field barred = record { takes = place_takes barred; again = place_again barred }

-- ---- names of proposals

proposal_made : IsMade (λ (p : Place × (List ℕ × (OrgId × ElemId))). IsPlaceBut of_proposal p.0 × (IsInstName p.1.0 × (IsUid p.1.1.0.0 × IsUid p.1.1.1.0)))
    (λ p. record { target = p.0; at = p.1.0; by = p.1.1.0; uuid = p.1.1.1 }) (λ p. place p.0 ++ (inst_name p.1.0 ++ (uid p.1.1.0.0 ++ uid p.1.1.1.0))) proposal_at
unfolding proposal_at
proposal_made = first (place_field of_proposal) (λ target. first inst_field (λ at. first org_field (λ by. last (λ uuid. record { target = target; at = at; by = by; uuid = uuid }) elem_field)))

proposal_field : IsField IsProposalName proposal_name proposal_at
proposal_field = whole (λ n. (n.target, (n.at, (n.by, n.uuid)))) IsProposalName proposal_name (λ n. refl) (λ n h. h) (λ p h. h) (λ p h. refl) proposal_made

-- ---- keys

element_made : IsMade (λ (p : EventId × Place). IsUid p.0.0 × IsPlaceBut [] p.1) (λ p. Element p.0 p.1) (λ p. uid p.0.0 ++ place p.1) element_at
unfolding element_at
element_made = first event_field (λ event. last (λ p. Element event p) (place_field []))

reference_made : IsMade (λ (p : EventId × (ElemId × (Place × ElemId))). IsUid p.0.0 × (IsUid p.1.0.0 × (IsPlaceBut of_reference p.1.1.0 × IsUid p.1.1.1.0)))
    (λ p. Reference p.0 p.1.0 p.1.1.0 p.1.1.1) (λ p. uid p.0.0 ++ (uid p.1.0.0 ++ (place p.1.1.0 ++ uid p.1.1.1.0))) reference_at
unfolding reference_at
reference_made = first event_field (λ event. first elem_field (λ object. first (place_field of_reference) (λ target. last (λ uuid. Reference event object target uuid) elem_field)))

proposed_made : IsMade (λ (p : EventId × ProposalName). IsUid p.0.0 × IsProposalName p.1) (λ p. Proposal p.0 p.1) (λ p. uid p.0.0 ++ proposal_name p.1) proposed_at
unfolding proposed_at
proposed_made = first event_field (λ event. last (λ name. Proposal event name) proposal_field)

verdict_made : IsMade (λ (p : EventId × (ProposalName × (List ℕ × OrgId))). IsUid p.0.0 × (IsProposalName p.1.0 × (IsInstName p.1.1.0 × IsUid p.1.1.1.0)))
    (λ p. Verdict p.0 p.1.0 p.1.1.0 p.1.1.1) (λ p. uid p.0.0 ++ (proposal_name p.1.0 ++ (inst_name p.1.1.0 ++ uid p.1.1.1.0))) verdict_at
unfolding verdict_at
verdict_made = first event_field (λ event. first proposal_field (λ name. first inst_field (λ at. last (λ judge. Verdict event name at judge) org_field)))

sighting_made : IsMade (λ (p : EventId × (Place × (List ℕ × (OrgId × ElemId)))). IsUid p.0.0 × (IsPlaceBut of_sighting p.1.0 × (IsInstName p.1.1.0 × (IsUid p.1.1.1.0.0 × IsUid p.1.1.1.1.0))))
    (λ p. Sighting p.0 p.1.0 p.1.1.0 p.1.1.1.0 p.1.1.1.1) (λ p. uid p.0.0 ++ (place p.1.0 ++ (inst_name p.1.1.0 ++ (uid p.1.1.1.0.0 ++ uid p.1.1.1.1.0)))) sighting_at
unfolding sighting_at
sighting_made = first event_field (λ event. first (place_field of_sighting) (λ target. first inst_field (λ at. first org_field (λ by. last (λ uuid. Sighting event target at by uuid) elem_field))))

key_of_kind_takes : (bytes : List ℕ) (kind : ℕ) (after : List ℕ) (k : KeyForm) (rest : List ℕ) → IsBytes after → key_of_kind bytes kind after ≡ Ok (k, rest) → IsKey k × Takes (kind ∷ after) (key k) rest
key_of_kind_takes bytes kind after k rest fits e =
    elim (chosen (eqb kind 0) (element_at after) _ _ e) [
      | inl found ↦ cased IsKey key 0 kind element_made (eqb-true _ _ found.0) (λ a h. h) (λ a. refl) after k rest fits found.1
      | inr other ↦ elim (chosen (eqb kind 1) (reference_at after) _ _ other.1) [
        | inl found ↦ cased IsKey key 1 kind reference_made (eqb-true _ _ found.0) (λ a h. h) (λ a. refl) after k rest fits found.1
        | inr other ↦ elim (chosen (eqb kind 2) (proposed_at after) _ _ other.1) [
          | inl found ↦ cased IsKey key 2 kind proposed_made (eqb-true _ _ found.0) (λ a h. h) (λ a. refl) after k rest fits found.1
          | inr other ↦ elim (chosen (eqb kind 3) (verdict_at after) _ _ other.1) [
            | inl found ↦ cased IsKey key 3 kind verdict_made (eqb-true _ _ found.0) (λ a h. h) (λ a. refl) after k rest fits found.1
            | inr other ↦ elim (chosen (eqb kind 4) (sighting_at after) _ _ other.1) [
              | inl found ↦ cased IsKey key 4 kind sighting_made (eqb-true _ _ found.0) (λ a h. h) (λ a. refl) after k rest fits found.1
              | inr other ↦ absurd (no_error (length bytes) (k, rest) other.1)
            ]
          ]
        ]
      ]
    ]

key_takes : (bytes : List ℕ) (k : KeyForm) (rest : List ℕ) → IsBytes bytes → key_at bytes ≡ Ok (k, rest) → IsKey k × Takes bytes (key k) rest
unfolding key_at
key_takes bytes k rest fits e =
    let b = bind_ok (byte_at bytes) (λ kind. key_of_kind bytes kind.0 kind.1) (k, rest) e in
    let t = byte_field.takes bytes b.0.0 b.0.1 fits b.1 in
    let found = key_of_kind_takes bytes b.0.0 b.0.1 k rest t.1.rest_fits b.2 in
    (found.0, record { parts = t.1.parts ∙ found.1.parts; rest_fits = found.1.rest_fits })

key_again : (k : KeyForm) (rest : List ℕ) → IsKey k → key_at (key k ++ rest) ≡ Ok (k, rest)
unfolding key_at
key_again (Element event p) rest h = element_made.again (event, p) rest h
key_again (Reference event object target uuid) rest h = reference_made.again (event, (object, (target, uuid))) rest h
key_again (Proposal event name) rest h = proposed_made.again (event, name) rest h
key_again (Verdict event name at judge) rest h = verdict_made.again (event, (name, (at, judge))) rest h
key_again (Sighting event target at by uuid) rest h = sighting_made.again (event, (target, (at, (by, uuid)))) rest h

pub key_field : IsField IsKey key key_at
key_field = record { takes = key_takes; again = key_again }

pub key_of_takes : (bytes : List ℕ) (k : KeyForm) → IsBytes bytes → key_of bytes ≡ Ok k → IsKey k × (bytes ≡ key k)
unfolding key_of
key_of_takes bytes k fits e = all_takes key_field bytes k fits e

pub key_of_again : (k : KeyForm) → IsKey k → key_of (key k) ≡ Ok k
unfolding key_of
key_of_again k h = all_again key_field k h
