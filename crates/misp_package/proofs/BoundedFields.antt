-- No reader of a field leaves more bytes than there were, and so its fault is within them.
use Rattle.std.proofs.Common.{ℕ, ◌≤◌, ◌==◌, Bool, true, false, cond, List, []}
use Rattle.std.proofs.Common.{◌∷◌, length, drop, Option, Some, None, Ok, Err, arith, w32, w64, length-drop}
use Rattle.std.specs.Int.{Width, byte_len}
use Rattle.misp_elem.specs.Prelude.{◌>>=◌, Reading, between_at, byte_at, event_at, is_kept}
use Rattle.misp_elem.specs.Prelude.{is_text, key_at, list_any, of_proposal, org_at, stamp_at}
use Rattle.misp_elem.specs.Fields.{is_date}
use Rattle.misp_elem.specs.Key.{of_reference, of_sighting}
use Rattle.misp_elem.specs.KeyReading.{element_at, key_of_kind, place_at, place_of, proposal_at, proposed_at, reference_at, sighting_at, verdict_at}
use Rattle.misp_elem.specs.Reading.{date_at, elem_at, flag_at, flag_of, inst_at, inst_of, moment_at, number_at, optional_at, optional_moment_at, optional_moment_of, optional_of, text_at, text_of, uid_at, value_at}
use Rattle.misp_elem.specs.WireReading.{first_key_at, front_at, key_after_at, later_key_at, own_event_at}
use Rattle.misp_model.specs.Prelude.{Attribute, Element, EventId, Key, Object, ObjectAttribute, Proposal, Reference, Sighting, Verdict}

-- ---- readings

-- how many bytes are left, after the value or at the fault
abbrev pub left_of : {A : Type 0} → Reading A → ℕ
left_of (Ok x) = length x.1
left_of (Err left) = left

-- at most so many are
pub record Within {A : Type 0} (n : ℕ) (read : Reading A) : Type 0 where
  pub le : left_of read ≤ n

pub value : {A : Type 0} {n : ℕ} {x : A} {rest : List ℕ} → length rest ≤ n → Within n (Ok (x, rest))
value h = record { le = h }

pub fault : {A : Type 0} {n left : ℕ} → left ≤ n → Within {A = A} n (Err left)
fault h = record { le = h }

pub within_then : {A B : Type 0} (n : ℕ) (read : Reading A) (f : A × List ℕ → Reading B) → Within n read
    → ((x : A × List ℕ) → length x.1 ≤ n → Within n (f x)) → Within n (read >>= f)
within_then n (Ok x) f h k = k x h.le
within_then n (Err left) f h k = fault h.le

pub within_if : {A : Type 0} (n : ℕ) (b : Bool) (x y : Reading A) → Within n x → Within n y → Within n (cond b x y)
within_if n true x y h k = h
within_if n false x y h k = k

-- ---- readers

-- a reader that leaves no more bytes than there were
pub record IsBounded {A : Type 0} (read : List ℕ → Reading A) : Type 0 where
  pub within : (n : ℕ) (bytes : List ℕ) → length bytes ≤ n → Within n (read bytes)

-- the last field
pub final : {A B : Type 0} {read : List ℕ → Reading A} (make : A → B) → IsBounded read → IsBounded (λ bytes. read bytes >>= λ x. Ok (make x.0, x.1))
final {A} {B} {read} make field = record { within = λ n bytes le. within_then n (read bytes) (λ x. Ok (make x.0, x.1)) (field.within n bytes le) (λ x h. value h) }

-- a field before others
pub before : {A B : Type 0} {read : List ℕ → Reading A} {others : A → List ℕ → Reading B}
    → IsBounded read → ((a : A) → IsBounded (others a)) → IsBounded (λ bytes. read bytes >>= λ x. others x.0 x.1)
before {A} {B} {read} {others} field rest = record {
  within = λ n bytes le. within_then n (read bytes) (λ x. others x.0 x.1) (field.within n bytes le) (λ x h. (rest x.0).within n x.1 h);
}

-- a field that passes a test
pub tested : {A : Type 0} {read : List ℕ → Reading A} (test : A → Bool) → IsBounded read → IsBounded (λ bytes. read bytes >>= λ x. cond (test x.0) (Ok x) (Err (length bytes)))
tested {A} {read} test field = record {
  within = λ n bytes le.
      within_then n (read bytes) (λ x. cond (test x.0) (Ok x) (Err (length bytes))) (field.within n bytes le)
      (λ x h. within_if n (test x.0) (Ok x) (Err (length bytes)) (value h) (fault le));
}

-- a field that names the bytes from its beginning
pub from_front : {A B : Type 0} {read : List ℕ → Reading A} (of : List ℕ → A → List ℕ → Reading B) → IsBounded read
    → ((n : ℕ) (bytes : List ℕ) (a : A) (rest : List ℕ) → length bytes ≤ n → length rest ≤ n → Within n (of bytes a rest))
    → IsBounded (λ bytes. read bytes >>= λ x. of bytes x.0 x.1)
from_front {A} {B} {read} of field rest = record {
  within = λ n bytes le. within_then n (read bytes) (λ x. of bytes x.0 x.1) (field.within n bytes le) (λ x h. rest n bytes x.0 x.1 le h);
}

pub dropped : (n k : ℕ) (bytes : List ℕ) → length bytes ≤ n → length (drop k bytes) ≤ n
dropped n k bytes le = omega (arith, length-drop k bytes)

-- ---- numbers, texts and flags

pub byte_bounded : IsBounded byte_at
byte_bounded = record { within = byte_within } where
  byte_within : (n : ℕ) (bytes : List ℕ) → length bytes ≤ n → Within n (byte_at bytes)
  byte_within n [] le = fault (omega arith)
  byte_within n (b ∷ bytes) le = value (omega arith)

pub uid_bounded : IsBounded uid_at
uid_bounded = record { within = λ n bytes le. within_if n _ _ _ (fault le) (value (dropped n 16 bytes le)) }

pub elem_bounded : IsBounded elem_at
elem_bounded = final (λ u. record { 0 = u }) uid_bounded

pub event_bounded : IsBounded event_at
event_bounded = final (λ u. record { 0 = u }) uid_bounded

pub org_bounded : IsBounded org_at
org_bounded = final (λ u. record { 0 = u }) uid_bounded

pub number_bounded : (w : Width) → IsBounded (number_at w)
number_bounded w = record { within = λ n bytes le. within_if n _ _ _ (fault le) (value (dropped n (byte_len w) bytes le)) }

pub between_bounded : (least most : ℕ) → IsBounded (between_at least most)
unfolding between_at
between_bounded least most = tested _ byte_bounded

pub stamp_bounded : IsBounded stamp_at
unfolding stamp_at
stamp_bounded = tested _ (number_bounded w64)

pub text_bounded : (least most : ℕ) → IsBounded (text_at least most)
unfolding text_at
text_bounded least most =
    from_front (text_of (is_text least most)) (number_bounded w32) (λ n bytes len rest le h. within_if n _ _ _ (fault le) (within_if n _ _ _ (value (dropped n len rest h)) (fault le)))

pub date_bounded : IsBounded date_at
unfolding date_at
date_bounded = tested is_date (text_bounded 10 10)

pub value_bounded : (room : ℕ) (kind : List ℕ) → IsBounded (value_at room kind)
unfolding value_at
value_bounded room kind = tested (is_kept kind) (text_bounded 0 room)

pub flag_bounded : IsBounded flag_at
unfolding flag_at
flag_bounded = from_front flag_of byte_bounded (λ n bytes b rest le h. within_if n (b == 0) _ _ (value h) (within_if n (b == 1) _ _ (value h) (fault le)))

pub optional_bounded : IsBounded optional_at
unfolding optional_at
optional_bounded = before flag_bounded (λ f. record { within = behind f }) where
  behind : (f : Bool) (n : ℕ) (rest : List ℕ) → length rest ≤ n → Within n (optional_of f rest)
  behind false n rest le = value le
  behind true n rest le = (final (λ u. Some u) uid_bounded).within n rest le

moment_bounded : (least : ℕ) → IsBounded (moment_at least)
unfolding moment_at
moment_bounded least = tested _ (number_bounded w64)

pub optional_moment_bounded : (least : ℕ) → IsBounded (optional_moment_at least)
unfolding optional_moment_at
optional_moment_bounded least = before flag_bounded (λ f. record { within = behind f }) where
  behind : (f : Bool) (n : ℕ) (rest : List ℕ) → length rest ≤ n → Within n (optional_moment_of least f rest)
  behind false n rest le = value le
  behind true n rest le = (final (λ m. Some m) (moment_bounded least)).within n rest le

-- ---- keys

pub inst_bounded : IsBounded inst_at
unfolding inst_at
inst_bounded = from_front inst_of byte_bounded (λ n bytes len rest le h. within_if n _ _ _ (fault le) (within_if n _ _ _ (value (dropped n len rest h)) (fault le)))

pub place_bounded : (barred : List ℕ) → IsBounded (place_at barred)
unfolding place_at
place_bounded barred = from_front (λ bytes kind rest. cond (list_any (λ b. b == kind) barred) (Err (length bytes)) (place_of bytes kind rest)) byte_bounded
    (λ n bytes kind rest le h.
    within_if n _ _ _ (fault le)
    (within_if n _ _ _ (value h)
    (within_if n _ _ _ ((final (λ o. Object o) elem_bounded).within n rest h)
    (within_if n _ _ _ ((final (λ a. Attribute a) elem_bounded).within n rest h)
    (within_if n _ _ _ ((before elem_bounded (λ o. final (λ a. ObjectAttribute o a) elem_bounded)).within n rest h) (fault le))))))

pub proposal_bounded : IsBounded proposal_at
unfolding proposal_at
proposal_bounded =
    before (place_bounded of_proposal) (λ target. before inst_bounded (λ at. before org_bounded (λ by. final (λ uuid. record { target = target; at = at; by = by; uuid = uuid }) elem_bounded)))

pub element_bounded : IsBounded element_at
unfolding element_at
element_bounded = before event_bounded (λ e. final (λ p. Element e p) (place_bounded []))

pub reference_bounded : IsBounded reference_at
unfolding reference_at
reference_bounded = before event_bounded (λ e. before elem_bounded (λ o. before (place_bounded of_reference) (λ t. final (λ u. Reference e o t u) elem_bounded)))

pub proposed_bounded : IsBounded proposed_at
unfolding proposed_at
proposed_bounded = before event_bounded (λ e. final (λ name. Proposal e name) proposal_bounded)

pub verdict_bounded : IsBounded verdict_at
unfolding verdict_at
verdict_bounded = before event_bounded (λ e. before proposal_bounded (λ name. before inst_bounded (λ at. final (λ judge. Verdict e name at judge) org_bounded)))

pub sighting_bounded : IsBounded sighting_at
unfolding sighting_at
sighting_bounded = before event_bounded (λ e. before (place_bounded of_sighting) (λ t. before inst_bounded (λ at. before org_bounded (λ by. final (λ u. Sighting e t at by u) elem_bounded))))

pub key_bounded : IsBounded key_at
unfolding key_at
key_bounded = from_front key_of_kind byte_bounded
    (λ n bytes kind rest le h.
    within_if n _ _ _ (element_bounded.within n rest h)
    (within_if n _ _ _ (reference_bounded.within n rest h)
    (within_if n _ _ _ (proposed_bounded.within n rest h)
    (within_if n _ _ _ (verdict_bounded.within n rest h)
    (within_if n _ _ _ (sighting_bounded.within n rest h) (fault le))))))

pub own_event_bounded : (e : EventId) → IsBounded (own_event_at e)
unfolding own_event_at
own_event_bounded e = tested _ event_bounded

pub front_bounded : (e : EventId) → IsBounded (front_at e)
unfolding front_at
front_bounded e = before (between_bounded 0 4) (λ kind. own_event_bounded e)

pub key_after_bounded : (e : EventId) (k : Option Key) → IsBounded (key_after_at e k)
unfolding key_after_at first_key_at later_key_at
key_after_bounded e None = record {
  within = (before (between_bounded 0 0) (λ kind. before (own_event_bounded e) (λ own. final (λ p. Element own p) (place_bounded (1 ∷ 2 ∷ 3 ∷ []))))).within;
}
key_after_bounded e (Some k) = record {
  within = λ n bytes le.
      within_then n (front_at e bytes) _ ((front_bounded e).within n bytes le) (λ front h.
      within_then n (key_at bytes) _ (key_bounded.within n bytes le) (λ next h. within_if n _ _ _ (value h) (fault le)));
}
