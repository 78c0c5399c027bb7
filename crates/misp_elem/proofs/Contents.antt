-- The contents of rows are read as they are written.
use Rattle.std.proofs.Common.{◌≡◌, ℕ, Bool, true, cond, eqb, List, ◌∷◌, ◌++◌, length, Ok, Err, refl, sym, ap, ◌∙◌, inl, inr, eqb-true}
use Rattle.misp_lists.proofs.Bytes.{IsBytes}
use Rattle.misp_elem.specs.Prelude.{◌>>=◌, Content, IsContentOf, KeyForm, Reading, byte_at, content_kind}
use Rattle.misp_elem.specs.declared.row.RowForm.{RowForm}
use Rattle.misp_elem.specs.declared.row.RowForm.TheVariants.{First, Second}
use Rattle.misp_elem.specs.Contents.{IsContent}
use Rattle.misp_elem.specs.Row.{fits, may_remove}
use Rattle.misp_elem.specs.Spelling.{IsOfFirstForm, content_in}
use Rattle.misp_elem.specs.ContentReading.{content_of, content_at}
use Rattle.misp_elem.proofs.Exact.{chosen, no_error, Takes, IsField, last, cased, nothing}
use Rattle.misp_elem.proofs.Numbers.{tagged, flag_field}
use Rattle.misp_elem.proofs.Bodies.{IsAllOf, event_field, object_field, attribute_field, reference_field, proposal_field, sighting_field}

-- which way a test of the kind went
by_kind : {A R : Type 0} (kind tag : ℕ) (x y : Reading A) (z : A × List ℕ) → (kind ≡ tag → x ≡ Ok z → R) → (y ≡ Ok z → R) → cond (eqb kind tag) x y ≡ Ok z → R
by_kind kind tag x y z here later e =
    elim (chosen (eqb kind tag) x y (Ok z) e) [
      | inl found ↦ here (eqb-true _ _ found.0) found.1
      | inr other ↦ later other.1
    ]

-- this form spells all of a content
abbrev pub IsSpelled : RowForm → Content → Type 0
IsSpelled form (Content.Attribute b) = IsAllOf form b
IsSpelled form c = Unit {0}

-- a content of this kind, all of which this form spells
abbrev IsOfKind : RowForm → Bool → ℕ → Content → Type 0
IsOfKind form may kind c = (content_kind c ≡ kind) × (IsContent may c × IsSpelled form c)

content_of_takes : (form : RowForm) (may : Bool) (bytes : List ℕ) (kind : ℕ) (after : List ℕ) (c : Content) (rest : List ℕ) → IsBytes after → content_of form may bytes kind after ≡ Ok (c, rest)
    → IsOfKind form may kind c × Takes (kind ∷ after) (content_in form c) rest
content_of_takes form may bytes kind after c rest fits =
    by_kind kind 0 _ _ (c, rest) (λ is e. cased (IsOfKind form may kind) (content_in form) 0 kind (last (λ b. Content.Event b) event_field) is (λ a h. (sym is, (h, tt))) (λ a. refl) after c rest fits e) (
    by_kind kind 1 _ _ (c, rest) (λ is e. cased (IsOfKind form may kind) (content_in form) 1 kind (last (λ b. Content.Object b) object_field) is (λ a h. (sym is, (h, tt))) (λ a. refl) after c rest fits e) (
    by_kind kind 2 _ _ (c, rest) (λ is e. cased (IsOfKind form may kind) (content_in form) 2 kind (last (λ b. Content.Attribute b) (attribute_field form)) is (λ a h. (sym is, h)) (λ a. refl) after c rest fits e) (
    by_kind kind 3 _ _ (c, rest) (λ is e. cased (IsOfKind form may kind) (content_in form) 3 kind (last (λ b. Content.Reference b) reference_field) is (λ a h. (sym is, (h, tt))) (λ a. refl) after c rest fits e) (
    by_kind kind 4 _ _ (c, rest) (λ is e. cased (IsOfKind form may kind) (content_in form) 4 kind (last (λ b. Content.Proposal b) (proposal_field may)) is (λ a h. (sym is, (h, tt))) (λ a. refl) after c rest fits e) (
    by_kind kind 5 _ _ (c, rest) (λ is e. cased (IsOfKind form may kind) (content_in form) 5 kind (last (λ b. Content.Verdict b) flag_field) is (λ a h. (sym is, (h, tt))) (λ a. refl) after c rest fits e) (
    by_kind kind 6 _ _ (c, rest) (λ is e. cased (IsOfKind form may kind) (content_in form) 6 kind (last (λ b. Content.Sighting b) sighting_field) is (λ a h. (sym is, (h, tt))) (λ a. refl) after c rest fits e) (
    by_kind kind 7 _ _ (c, rest) (λ is e. cased (IsOfKind form may kind) (content_in form) 7 kind (nothing Content.Gone) is (λ a h. (sym is, (tt, tt))) (λ a. refl) after c rest fits e)
    (λ e. absurd (no_error (length bytes) (c, rest) e)))))))))

abbrev fitting : RowForm → KeyForm → ℕ → Bool × Bool → List ℕ → ℕ → List ℕ → Reading Content
fitting form k l f bytes kind after = cond (fits k l f kind) (content_of form (may_remove k) bytes kind after) (Err (length bytes))

-- a content of this key, label and flags, all of which this form spells
abbrev pub IsContentIn : RowForm → KeyForm → ℕ → Bool × Bool → Content → Type 0
IsContentIn form k l f c = IsContentOf k l f c × IsSpelled form c

content_each : (form : RowForm) (k : KeyForm) (l : ℕ) (f : Bool × Bool) (bytes : List ℕ) (kind : ℕ) (after : List ℕ) (c : Content) (rest : List ℕ) → IsBytes after
    → fitting form k l f bytes kind after ≡ Ok (c, rest) → IsContentIn form k l f c × Takes (kind ∷ after) (content_in form c) rest
content_each form k l f bytes kind after c rest fits_bytes e =
    elim (chosen (fits k l f kind) (content_of form (may_remove k) bytes kind after) _ _ e) [
      | inl found ↦ let t = content_of_takes form (may_remove k) bytes kind after c rest fits_bytes found.1 in (((ap (fits k l f) t.0.0 ∙ found.0, t.0.1.0), t.0.1.1), t.1)
      | inr other ↦ absurd (no_error (length bytes) (c, rest) other.1)
    ]

content_back : (form : RowForm) (k : KeyForm) (l : ℕ) (f : Bool × Bool) (c : Content) (rest : List ℕ) → IsContentIn form k l f c
    → (byte_at (content_in form c ++ rest) >>= λ x. fitting form k l f (content_in form c ++ rest) x.0 x.1) ≡ Ok (c, rest)
content_back form k l f (Content.Event b) rest h = rw h.0.0 ((last (λ x. Content.Event x) event_field).again b rest h.0.1)
content_back form k l f (Content.Object b) rest h = rw h.0.0 ((last (λ x. Content.Object x) object_field).again b rest h.0.1)
content_back form k l f (Content.Attribute b) rest h = rw h.0.0 ((last (λ x. Content.Attribute x) (attribute_field form)).again b rest (h.0.1, h.1))
content_back form k l f (Content.Reference b) rest h = rw h.0.0 ((last (λ x. Content.Reference x) reference_field).again b rest h.0.1)
content_back form k l f (Content.Proposal b) rest h = rw h.0.0 ((last (λ x. Content.Proposal x) (proposal_field (may_remove k))).again b rest h.0.1)
content_back form k l f (Content.Verdict b) rest h = rw h.0.0 ((last (λ x. Content.Verdict x) flag_field).again b rest h.0.1)
content_back form k l f (Content.Sighting b) rest h = rw h.0.0 ((last (λ x. Content.Sighting x) sighting_field).again b rest h.0.1)
content_back form k l f Content.Gone rest h = rw h.0.0 refl

pub content_field : (form : RowForm) (k : KeyForm) (l : ℕ) (f : Bool × Bool) → IsField (IsContentIn form k l f) (content_in form) (content_at form k l f)
unfolding content_at
content_field form k l f = tagged (fitting form k l f) (content_each form k l f) (content_back form k l f)

-- the second form spells all of each content
pub all_spelled : (c : Content) → IsSpelled Second c
all_spelled (Content.Event b) = tt
all_spelled (Content.Object b) = tt
all_spelled (Content.Attribute b) = tt
all_spelled (Content.Reference b) = tt
all_spelled (Content.Proposal b) = tt
all_spelled (Content.Verdict b) = tt
all_spelled (Content.Sighting b) = tt
all_spelled Content.Gone = tt

-- what the first spells all of is of it
pub spelled_first : (c : Content) → IsOfFirstForm c → IsSpelled First c
spelled_first (Content.Event b) h = tt
spelled_first (Content.Object b) h = tt
spelled_first (Content.Attribute b) h = h
spelled_first (Content.Reference b) h = tt
spelled_first (Content.Proposal b) h = tt
spelled_first (Content.Verdict b) h = tt
spelled_first (Content.Sighting b) h = tt
spelled_first Content.Gone h = tt

pub first_spelled : (c : Content) → IsSpelled First c → IsOfFirstForm c
first_spelled (Content.Event b) h = tt
first_spelled (Content.Object b) h = tt
first_spelled (Content.Attribute b) h = h
first_spelled (Content.Reference b) h = tt
first_spelled (Content.Proposal b) h = tt
first_spelled (Content.Verdict b) h = tt
first_spelled (Content.Sighting b) h = tt
first_spelled Content.Gone h = tt

-- what may stand where no proposal asks to delete may stand everywhere
pub content_may : (may : Bool) (c : Content) → IsContent may c → IsContent true c
content_may may (Content.Event b) h = h
content_may may (Content.Object b) h = h
content_may may (Content.Attribute b) h = h
content_may may (Content.Reference b) h = h
content_may may (Content.Proposal b) h = (refl, h.1)
content_may may (Content.Verdict b) h = h
content_may may (Content.Sighting b) h = h
content_may may Content.Gone h = h
