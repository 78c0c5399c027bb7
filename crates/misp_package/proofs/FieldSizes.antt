-- How many bytes spell the fields of a row.
use Rattle.std.proofs.Common.{◌≡◌, ℕ, suc, ◌+◌, ◌≤◌, Bool, true, false}
use Rattle.std.proofs.Common.{List, [], ◌∷◌, ◌++◌, length, Option, Some, None, refl, ap, ◌∙◌, arith, length-append, leb-true}
use Rattle.misp_lists.proofs.Prelude.{and_parts, false≢true}
use Rattle.misp_elem.specs.Prelude.{IsKey, Uid, inst_name, proposal_name}
use Rattle.misp_elem.specs.Key.{IsInstName, IsProposalName}
use Rattle.misp_elem.specs.declared.content.AttributeBody.{AttributeBody}
use Rattle.misp_elem.specs.Spelling.{flag, flags, key, label, optional_moment, optional_uid, place, stamp, text, uid}
use Rattle.misp_model.specs.Prelude.{Attribute, Element, Event, Key, Label, Object, ObjectAttribute, Place, Proposal, ProposalName, Reference, Sighting, Verdict}
use Rattle.misp_package.specs.Spelling.{number}

-- ---- pieces, one after another

abbrev pub in_turn : List ℕ → List (List ℕ) → List ℕ
in_turn x [] = x
in_turn x (y ∷ ys) = x ++ in_turn y ys

abbrev pub all_sizes : List ℕ → List (List ℕ) → ℕ
all_sizes x [] = length x
all_sizes x (y ∷ ys) = length x + all_sizes y ys

pub pieces_size : (x : List ℕ) (ys : List (List ℕ)) → length (in_turn x ys) ≡ all_sizes x ys
pieces_size x [] = refl
pieces_size x (y ∷ ys) = length-append x (in_turn y ys) ∙ ap (λ n. length x + n) (pieces_size y ys)

-- ---- fields

pub uid_size : (u : Uid) → length (uid u) ≡ 16
unfolding uid
uid_size u = refl

pub number_size : (n : ℕ) → length (number n) ≡ 4
unfolding number
number_size n = refl

pub stamp_size : (s : ℕ) → length (stamp s) ≡ 8
unfolding stamp
stamp_size s = refl

pub text_size : (t : List ℕ) → length (text t) ≡ 4 + length t
unfolding text
text_size t = let four : suc (suc (suc (suc (length t)))) ≡ 4 + length t = omega arith in four

pub flag_size : (b : Bool) → length (flag b) ≡ 1
flag_size true = refl
flag_size false = refl

pub optional_size : (o : Option Uid) → length (optional_uid o) ≤ 17
optional_size None = omega arith
optional_size (Some u) = omega (arith, uid_size u)

moment_size : (o : Option ℕ) → length (optional_moment o) ≤ 9
moment_size None = omega arith
moment_size (Some m) = omega (arith, stamp_size m)

-- what is spelled of an attribute behind its tags
abbrev pub more_of : AttributeBody → List ℕ
more_of b = text b.object_relation ++ (optional_moment b.first_seen ++ optional_moment b.last_seen)

pub more_size : (b : AttributeBody) → length (more_of b) ≤ 22 + length b.object_relation
more_size b =
    omega (
      arith,
      length-append (text b.object_relation) (optional_moment b.first_seen ++ optional_moment b.last_seen),
      length-append (optional_moment b.first_seen) (optional_moment b.last_seen),
      text_size b.object_relation,
      moment_size b.first_seen,
      moment_size b.last_seen,
    )

pub flags_size : (held carried : Bool) → length (flags (held, carried)) ≡ 1
flags_size true true = refl
flags_size true false = refl
flags_size false true = refl
flags_size false false = refl

pub label_size : (l : Label) → length (label l) ≤ 33
label_size Label.Own = omega arith
label_size Label.Community = omega arith
label_size Label.Connected = omega arith
label_size Label.All = omega arith
label_size (Label.Group g) = omega (arith, length-append (uid g.creator.0) (uid g.uuid), uid_size g.creator.0, uid_size g.uuid)
label_size Label.Inherit = omega arith

-- ---- keys

pub place_size : (p : Place) → length (place p) ≤ 33
place_size Event = omega arith
place_size (Object o) = omega (arith, uid_size o.0)
place_size (Attribute a) = omega (arith, uid_size a.0)
place_size (ObjectAttribute o a) = omega (arith, length-append (uid o.0) (uid a.0), uid_size o.0, uid_size a.0)

pub inst_size : (name : List ℕ) → IsInstName name → length (inst_name name) ≤ 33
inst_size [] h = absurd (false≢true h)
inst_size (b ∷ bs) h = omega (arith, leb-true (length bs) 31 (and_parts _ _ (and_parts _ _ h).0).1)

pub proposal_size : (n : ProposalName) → IsProposalName n → length (proposal_name n) ≤ 98
proposal_size n h =
    omega (
      arith,
      length-append (place n.target) (inst_name n.at ++ (uid n.by.0 ++ uid n.uuid.0)),
      length-append (inst_name n.at) (uid n.by.0 ++ uid n.uuid.0),
      length-append (uid n.by.0) (uid n.uuid.0),
      place_size n.target,
      inst_size n.at h.1.0,
      uid_size n.by.0,
      uid_size n.uuid.0,
    )

pub key_size : (k : Key) → IsKey k → length (key k) ≤ 200
key_size (Element e p) h = omega (arith, length-append (uid e.0) (place p), uid_size e.0, place_size p)
key_size (Reference e o t u) h =
    omega (
      arith,
      length-append (uid e.0) (uid o.0 ++ (place t ++ uid u.0)),
      length-append (uid o.0) (place t ++ uid u.0),
      length-append (place t) (uid u.0),
      uid_size e.0,
      uid_size o.0,
      place_size t,
      uid_size u.0,
    )
key_size (Proposal e n) h = omega (arith, length-append (uid e.0) (proposal_name n), uid_size e.0, proposal_size n h.1)
key_size (Verdict e n at judge) h =
    omega (
      arith,
      length-append (uid e.0) (proposal_name n ++ (inst_name at ++ uid judge.0)),
      length-append (proposal_name n) (inst_name at ++ uid judge.0),
      length-append (inst_name at) (uid judge.0),
      uid_size e.0,
      proposal_size n h.1.0,
      inst_size at h.1.1.0,
      uid_size judge.0,
    )
key_size (Sighting e t at by u) h =
    omega (
      arith,
      length-append (uid e.0) (place t ++ (inst_name at ++ (uid by.0 ++ uid u.0))),
      length-append (place t) (inst_name at ++ (uid by.0 ++ uid u.0)),
      length-append (inst_name at) (uid by.0 ++ uid u.0),
      length-append (uid by.0) (uid u.0),
      uid_size e.0,
      place_size t,
      inst_size at h.1.1.0,
      uid_size by.0,
      uid_size u.0,
    )
