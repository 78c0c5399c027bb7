-- The bytes of a row have its name after their first, and how long that name is.
use Rattle.std.proofs.Common.{◌≡◌, ℕ, ◌+◌, ◌-◌, List, [], ◌∷◌, ◌++◌, length, take, drop, false, refl, sym, ap, inl, inr, ◌∙◌, arith, bytes_eq, length-append, append_assoc, take_all, take_at}
use Rattle.misp_lists.proofs.Prelude.{bytes_eq-Decides, false_from_ne_true}
use Rattle.misp_elem.specs.Spelling.{Spells, flags, inst_name, key, label, place, proposal_name, stamp, uid}
use Rattle.misp_elem.specs.declared.key.KeyForm.{KeyForm}
use Rattle.misp_elem.specs.declared.key.KeyForm.TheVariants.{Element, Proposal, Reference, Sighting, Verdict}
use Rattle.misp_elem.specs.declared.key.ProposalName.{ProposalName}
use Rattle.misp_format.specs.Prelude.{Uid}
use Rattle.misp_effects.specs.Prelude.{Row}
use Rattle.misp_model.specs.Machine.{name_bytes}

-- ---- how long it is

pub uid_length : (u : Uid) → length (uid u) ≡ 16
unfolding uid
uid_length u = refl

-- sixteen bytes before others
before : (u : Uid) (rest : List ℕ) → length (uid u ++ rest) ≡ 16 + length rest
before u rest = omega (arith, length-append (uid u) rest, uid_length u)

-- and after them
behind : (front : List ℕ) (u : Uid) → length (front ++ uid u) ≡ length front + 16
behind front u = omega (arith, length-append front (uid u), uid_length u)

pub proposal_long : (n : ProposalName) → length (proposal_name n) ≡ length (place n.target) + length (inst_name n.at) + 32
proposal_long n =
    omega (arith, length-append (place n.target) (inst_name n.at ++ (uid n.by.0 ++ uid n.uuid.0)), length-append (inst_name n.at) (uid n.by.0 ++ uid n.uuid.0), before n.by.0 (uid n.uuid.0), uid_length n.uuid.0)

-- what stands beside the places and names of a key is of one length
abbrev pub key_long : KeyForm → ℕ
key_long (Element event target) = 17 + length (place target)
key_long (Reference event object target uuid) = 49 + length (place target)
key_long (Proposal event name) = 17 + length (proposal_name name)
key_long (Verdict event name at judge) = 33 + length (proposal_name name) + length (inst_name at)
key_long (Sighting event target at by uuid) = 49 + length (place target) + length (inst_name at)

pub key_long_is : (k : KeyForm) → length (key k) ≡ key_long k
key_long_is (Element event target) = omega (arith, before event.0 (place target))
key_long_is (Reference event object target uuid) =
    omega (arith, before event.0 (uid object.0 ++ (place target ++ uid uuid.0)), before object.0 (place target ++ uid uuid.0), behind (place target) uuid.0)
key_long_is (Proposal event name) = omega (arith, before event.0 (proposal_name name))
key_long_is (Verdict event name at judge) =
    omega (arith, before event.0 (proposal_name name ++ (inst_name at ++ uid judge.0)), length-append (proposal_name name) (inst_name at ++ uid judge.0), behind (inst_name at) judge.0)
key_long_is (Sighting event target at by uuid) =
    omega (arith, before event.0 (place target ++ (inst_name at ++ (uid by.0 ++ uid uuid.0))), length-append (place target) (inst_name at ++ (uid by.0 ++ uid uuid.0)), length-append (inst_name at) (uid by.0 ++ uid uuid.0), before by.0 (uid uuid.0), uid_length uuid.0)

pub name_long : (r : Row) → length (name_bytes r) ≡ 16 + length (key r.key)
unfolding name_bytes
name_long r = before r.owner.0 (key r.key)

-- ---- where it is

-- what follows the name, where the content is spelled by these bytes
abbrev after_name : List ℕ → Row → List ℕ
after_name content r = stamp r.stamp ++ (label r.label ++ (flags (r.held, r.carried) ++ content))

name_first : (content : List ℕ) (r : Row) → uid r.owner.0 ++ (key r.key ++ after_name content r) ≡ name_bytes r ++ after_name content r
unfolding name_bytes
name_first content r = sym (append_assoc (uid r.owner.0) (key r.key) (after_name content r))

-- in either form
name_there : (bytes : List ℕ) (r : Row) → Spells bytes r → (rest : List ℕ) × (drop 1 bytes ≡ name_bytes r ++ rest)
name_there bytes r (inl second) = (_, ap (drop 1) second ∙ name_first _ r)
name_there bytes r (inr first) = (_, ap (drop 1) first.1 ∙ name_first _ r)

-- all bytes after the first
pub after_first : (bytes : List ℕ) → take (length bytes - 1) (drop 1 bytes) ≡ drop 1 bytes
after_first [] = refl
after_first (b ∷ bytes) = take_all (length (b ∷ bytes) - 1) bytes (omega arith)

-- of names of this length that of the row is there
pub named : (r : Row) (name bytes : List ℕ) → Spells bytes r → length name ≡ length (name_bytes r) → bytes_eq name (take (length name) (drop 1 bytes)) ≡ bytes_eq name (name_bytes r)
named r name bytes spells long =
    let there = name_there bytes r spells in
    ap (bytes_eq name) (ap (take (length name)) there.1 ∙ take_at (name_bytes r) there.0 (length name) (sym long))

-- and no other name is of another length
pub other_long : (r : Row) (name : List ℕ) → (length name ≡ length (name_bytes r) → ⊥) → false ≡ bytes_eq name (name_bytes r)
other_long r name other =
    sym (false_from_ne_true _ (λ t. other (ap length ((bytes_eq-Decides name (name_bytes r)).0 t))))
