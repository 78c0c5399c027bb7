-- Labels and the flags of rows are read as they are written.
use Rattle.std.proofs.Common.{◌≡◌, ℕ, Bool, true, false, cond, eqb, List, ◌∷◌, ◌++◌, length, Ok, Err, refl, sym, ap, ◌∙◌, inl, inr, eqb-true}
use Rattle.misp_lists.proofs.Bytes.{IsBytes}
use Rattle.misp_elem.specs.Prelude.{◌>>=◌, IsLabel, IsLabelBut, IsUid, Label, OrgId, Reading, Uid, byte_at, label_kind, list_any}
use Rattle.misp_elem.specs.Spelling.{uid, label, flags}
use Rattle.misp_elem.specs.RowReading.{group_at, label_of, label_at, flags_of, flags_at}
use Rattle.misp_elem.proofs.Exact.{guard_ok, chosen, no_error, Takes, IsField, IsMade, last, first, cased, nothing}
use Rattle.misp_elem.proofs.Keys.{uid_field, org_field}
use Rattle.misp_elem.proofs.Numbers.{tagged}

-- ---- flags

flags_each : (bytes : List ℕ) (kind : ℕ) (after : List ℕ) (f : Bool × Bool) (rest : List ℕ) → IsBytes after → flags_of bytes kind after ≡ Ok (f, rest) → Unit {0} × Takes (kind ∷ after) (flags f) rest
flags_each bytes kind after f rest fits e =
    elim (chosen (eqb kind 0) (Ok ((false, false), after)) _ _ e) [
      | inl found ↦ cased (λ _. Unit {0}) flags 0 kind (nothing (false, false)) (eqb-true _ _ found.0) (λ a h. tt) (λ a. refl) after f rest fits found.1
      | inr other ↦ elim (chosen (eqb kind 1) (Ok ((true, false), after)) _ _ other.1) [
        | inl found ↦ cased (λ _. Unit {0}) flags 1 kind (nothing (true, false)) (eqb-true _ _ found.0) (λ a h. tt) (λ a. refl) after f rest fits found.1
        | inr other ↦ elim (chosen (eqb kind 2) (Ok ((false, true), after)) _ _ other.1) [
          | inl found ↦ cased (λ _. Unit {0}) flags 2 kind (nothing (false, true)) (eqb-true _ _ found.0) (λ a h. tt) (λ a. refl) after f rest fits found.1
          | inr other ↦ elim (chosen (eqb kind 3) (Ok ((true, true), after)) _ _ other.1) [
            | inl found ↦ cased (λ _. Unit {0}) flags 3 kind (nothing (true, true)) (eqb-true _ _ found.0) (λ a h. tt) (λ a. refl) after f rest fits found.1
            | inr other ↦ absurd (no_error (length bytes) (f, rest) other.1)
          ]
        ]
      ]
    ]

flags_back : (f : Bool × Bool) (rest : List ℕ) → Unit {0} → (byte_at (flags f ++ rest) >>= λ k. flags_of (flags f ++ rest) k.0 k.1) ≡ Ok (f, rest)
flags_back (false, false) rest h = refl
flags_back (true, false) rest h = refl
flags_back (false, true) rest h = refl
flags_back (true, true) rest h = refl

pub flags_field : IsField (λ (f : Bool × Bool). Unit {0}) flags flags_at
unfolding flags_at
flags_field = tagged flags_of flags_each flags_back

-- ---- labels

group_made : IsMade (λ (p : OrgId × Uid). IsUid p.0.0 × IsUid p.1) (λ p. Label.Group (record { creator = p.0; uuid = p.1 })) (λ p. uid p.0.0 ++ uid p.1) group_at
unfolding group_at
group_made = first org_field (λ creator. last (λ u. Label.Group (record { creator = creator; uuid = u })) uid_field)

-- a label of this kind
abbrev IsLabelOf : ℕ → Label → Type 0
IsLabelOf kind l = (label_kind l ≡ kind) × IsLabel l

label_of_takes : (bytes : List ℕ) (kind : ℕ) (after : List ℕ) (l : Label) (rest : List ℕ) → IsBytes after → label_of bytes kind after ≡ Ok (l, rest) → IsLabelOf kind l × Takes (kind ∷ after) (label l) rest
label_of_takes bytes kind after l rest fits e =
    elim (chosen (eqb kind 0) (Ok (Label.Own, after)) _ _ e) [
      | inl found ↦ let is = eqb-true _ _ found.0 in cased (IsLabelOf kind) label 0 kind (nothing Label.Own) is (λ a h. (sym is, tt)) (λ a. refl) after l rest fits found.1
      | inr other ↦ elim (chosen (eqb kind 1) (Ok (Label.Community, after)) _ _ other.1) [
        | inl found ↦ let is = eqb-true _ _ found.0 in cased (IsLabelOf kind) label 1 kind (nothing Label.Community) is (λ a h. (sym is, tt)) (λ a. refl) after l rest fits found.1
        | inr other ↦ elim (chosen (eqb kind 2) (Ok (Label.Connected, after)) _ _ other.1) [
          | inl found ↦ let is = eqb-true _ _ found.0 in cased (IsLabelOf kind) label 2 kind (nothing Label.Connected) is (λ a h. (sym is, tt)) (λ a. refl) after l rest fits found.1
          | inr other ↦ elim (chosen (eqb kind 3) (Ok (Label.All, after)) _ _ other.1) [
            | inl found ↦ let is = eqb-true _ _ found.0 in cased (IsLabelOf kind) label 3 kind (nothing Label.All) is (λ a h. (sym is, tt)) (λ a. refl) after l rest fits found.1
            | inr other ↦ elim (chosen (eqb kind 4) (group_at after) _ _ other.1) [
              | inl found ↦ let is = eqb-true _ _ found.0 in cased (IsLabelOf kind) label 4 kind group_made is (λ a h. (sym is, h)) (λ a. refl) after l rest fits found.1
              | inr other ↦ elim (chosen (eqb kind 5) (Ok (Label.Inherit, after)) _ _ other.1) [
                | inl found ↦ let is = eqb-true _ _ found.0 in cased (IsLabelOf kind) label 5 kind (nothing Label.Inherit) is (λ a h. (sym is, tt)) (λ a. refl) after l rest fits found.1
                | inr other ↦ absurd (no_error (length bytes) (l, rest) other.1)
              ]
            ]
          ]
        ]
      ]
    ]

abbrev allowed : List ℕ → List ℕ → ℕ → List ℕ → Reading Label
allowed barred bytes kind after = cond (list_any (λ x. eqb x kind) barred) (Err (length bytes)) (label_of bytes kind after)

label_each : (barred bytes : List ℕ) (kind : ℕ) (after : List ℕ) (l : Label) (rest : List ℕ) → IsBytes after → allowed barred bytes kind after ≡ Ok (l, rest) → IsLabelBut barred l × Takes (kind ∷ after) (label l) rest
label_each barred bytes kind after l rest fits e =
    let g = guard_ok (list_any (λ x. eqb x kind) barred) (length bytes) (label_of bytes kind after) (l, rest) e in
    let t = label_of_takes bytes kind after l rest fits g.1 in
    ((ap (λ n. list_any (λ x. eqb x n) barred) t.0.0 ∙ g.0, t.0.1), t.1)

label_back : (barred : List ℕ) (l : Label) (rest : List ℕ) → IsLabelBut barred l → (byte_at (label l ++ rest) >>= λ k. allowed barred (label l ++ rest) k.0 k.1) ≡ Ok (l, rest)
label_back barred Label.Own rest h = rw h.0 refl
label_back barred Label.Community rest h = rw h.0 refl
label_back barred Label.Connected rest h = rw h.0 refl
label_back barred Label.All rest h = rw h.0 refl
label_back barred (Label.Group g) rest h = rw h.0 (group_made.again (g.creator, g.uuid) rest h.1)
label_back barred Label.Inherit rest h = rw h.0 refl

pub label_field : (barred : List ℕ) → IsField (IsLabelBut barred) label (label_at barred)
unfolding label_at
label_field barred = tagged (allowed barred) (label_each barred) (label_back barred)
