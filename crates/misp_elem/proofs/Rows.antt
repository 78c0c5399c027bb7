-- Each field of a row is read as it is written, in either form.
use Rattle.std.proofs.Common.{◌≡◌, ℕ, Bool, eqb, List, [], ◌∷◌, ◌++◌, length, Ok, refl, ap, subst, ◌∙◌, inl, inr, eqb-true}
use Rattle.misp_lists.proofs.Prelude.{IsBytes}
use Rattle.misp_elem.specs.Prelude.{◌>>=◌, Content, IsKey, IsLabelBut, IsRow, IsStamp, IsUid, KeyForm, Label, OrgId, RowFields, barred_labels, byte_at, key, label_kind, row_of}
use Rattle.misp_elem.specs.declared.row.RowForm.{RowForm}
use Rattle.misp_elem.specs.declared.row.RowForm.TheVariants.{First, Second}
use Rattle.misp_elem.specs.Spelling.{Spells, uid, stamp, label, flags, content_in, fields_in, row, row_of_first_form}
use Rattle.misp_elem.specs.RowReading.{fields_at, form_of, form_at, row_at}
use Rattle.misp_elem.proofs.Exact.{chosen, no_error, Takes, IsField, IsMade, last, first, told, whole, itself, cased, nothing, all_made, made_again}
use Rattle.misp_elem.proofs.Keys.{org_field, key_field}
use Rattle.misp_elem.proofs.Numbers.{tagged, stamp_field}
use Rattle.misp_elem.proofs.Labels.{flags_field, label_field}
use Rattle.misp_elem.proofs.Contents.{IsContentIn, IsSpelled, content_field, all_spelled, spelled_first, first_spelled}

-- ---- the fields

fields_made : (form : RowForm) → IsMade
    (λ (p : OrgId × (KeyForm × (ℕ × (Label × ((Bool × Bool) × Content))))).
    IsUid p.0.0 × (IsKey p.1.0 × (IsStamp p.1.1.0 × (IsLabelBut (barred_labels p.1.0) p.1.1.1.0 × (Unit {0} × IsContentIn form p.1.0 (label_kind p.1.1.1.0) p.1.1.1.1.0 p.1.1.1.1.1)))))
    (λ p. record { owner = p.0; key = p.1.0; stamp = p.1.1.0; label = p.1.1.1.0; held = p.1.1.1.1.0.0; carried = p.1.1.1.1.0.1; content = p.1.1.1.1.1 })
    (λ p. uid p.0.0 ++ (key p.1.0 ++ (stamp p.1.1.0 ++ (label p.1.1.1.0 ++ (flags p.1.1.1.1.0 ++ content_in form p.1.1.1.1.1)))))
    (fields_at form)
unfolding fields_at
fields_made form =
    first org_field (λ owner. first key_field (λ k. first stamp_field (λ s. first (label_field (barred_labels k)) (λ l. first flags_field (λ f.
    last (λ c. record { owner = owner; key = k; stamp = s; label = l; held = f.0; carried = f.1; content = c }) (content_field form k (label_kind l) f))))))

-- a row, all of which this form spells
abbrev pub IsRowIn : RowForm → RowFields → Type 0
IsRowIn form r = IsRow r × IsSpelled form r.content

fields_field : (form : RowForm) → IsField (IsRowIn form) (fields_in form) (fields_at form)
fields_field form =
    whole (λ r. (r.owner, (r.key, (r.stamp, (r.label, ((r.held, r.carried), r.content)))))) (IsRowIn form) (fields_in form) (λ r. refl)
    (λ r h. (h.0.0, (h.0.1.0, (h.0.1.1.0, (h.0.1.1.1.0, (tt, (h.0.1.1.1.1.1, h.1)))))))
    (λ p h. ((h.0, (h.1.0, (h.1.1.0, (h.1.1.1.0, (tt, h.1.1.1.1.1.0))))), h.1.1.1.1.1.1))
    (λ p h. refl) (fields_made form)

-- ---- the form

-- the byte of a form
abbrev form_byte : RowForm → List ℕ
form_byte First = 1 ∷ []
form_byte Second = 2 ∷ []

form_each : (bytes : List ℕ) (kind : ℕ) (after : List ℕ) (form : RowForm) (rest : List ℕ) → IsBytes after → form_of bytes kind after ≡ Ok (form, rest)
    → Unit {0} × Takes (kind ∷ after) (form_byte form) rest
form_each bytes kind after form rest fits e =
    elim (chosen (eqb kind 1) (Ok (First, after)) _ _ e) [
      | inl found ↦ cased (λ _. Unit {0}) form_byte 1 kind (nothing First) (eqb-true _ _ found.0) (λ a h. tt) (λ a. refl) after form rest fits found.1
      | inr other ↦ elim (chosen (eqb kind 2) (Ok (Second, after)) _ _ other.1) [
        | inl found ↦ cased (λ _. Unit {0}) form_byte 2 kind (nothing Second) (eqb-true _ _ found.0) (λ a h. tt) (λ a. refl) after form rest fits found.1
        | inr other ↦ absurd (no_error (length bytes) (form, rest) other.1)
      ]
    ]

form_back : (form : RowForm) (rest : List ℕ) → Unit {0} → (byte_at (form_byte form ++ rest) >>= λ k. form_of (form_byte form ++ rest) k.0 k.1) ≡ Ok (form, rest)
form_back First rest h = refl
form_back Second rest h = refl

form_field : IsField (λ (form : RowForm). Unit {0}) form_byte form_at
unfolding form_at
form_field = tagged form_of form_each form_back

-- ---- rows

row_made : IsMade (λ (p : RowForm × RowFields). Unit {0} × IsRowIn p.0 p.1) (λ p. p.1) (λ p. form_byte p.0 ++ fields_in p.0 p.1) row_at
unfolding row_at
row_made = told form_field (λ form. itself (fields_field form))

-- what the fields of a row of some form spell
spelled_so : (form : RowForm) (bytes : List ℕ) (r : RowFields) → IsRowIn form r → bytes ≡ form_byte form ++ fields_in form r → IsRow r × Spells bytes r
spelled_so First bytes r h e = (h.0, inr (first_spelled r.content h.1, e))
spelled_so Second bytes r h e = (h.0, inl e)

pub row_of_takes : (bytes : List ℕ) (r : RowFields) → IsBytes bytes → row_of bytes ≡ Ok r → IsRow r × Spells bytes r
unfolding row_of
row_of_takes bytes r fits e =
    let t = all_made row_made bytes r fits e in
    subst (λ (x : RowFields). IsRow x × Spells bytes x) t.1 (spelled_so t.0.0 bytes t.0.1 t.2.1 t.3)

-- what is spelled in the second form is read
pub row_of_again : (r : RowFields) → IsRow r → row_of (row r) ≡ Ok r
unfolding row_of
row_of_again r h = made_again row_made (Second, r) (tt, (h, all_spelled r.content))

-- and so is what is spelled in the first where that spells all of it
pub row_of_first : (r : RowFields) → IsRow r → IsSpelled First r.content → row_of (row_of_first_form r) ≡ Ok r
unfolding row_of
row_of_first r h all = made_again row_made (First, r) (tt, (h, all))

pub row_of_spelled : (bytes : List ℕ) (r : RowFields) → IsRow r → Spells bytes r → row_of bytes ≡ Ok r
row_of_spelled bytes r h (inl e) = ap row_of e ∙ row_of_again r h
row_of_spelled bytes r h (inr e) = ap row_of e.1 ∙ row_of_first r h (spelled_first r.content e.0)
