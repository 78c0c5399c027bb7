-- What is kept of digests, addresses and ports has no `|`.
use Rattle.std.proofs.Common.{◌≡◌, ℕ, zero, suc, ◌+◌, ◌-◌, ◌<◌, ◌≤◌, nat_le, Bool, true, false, cond, not, ◌&&◌, ◌||◌, List, [], ◌∷◌, length, get_or, take, drop, count_by, position, is_some, Option, Some, None, Ok, get_or-take}
use Rattle.std.proofs.Common.{get_or-drop, length-take, length-drop, true≢false, refl, sym, ap, ◌∙◌, ⊎_elim, arith}
use Rattle.std.specs.Char.{is_ascii_digit, is_ascii_hexdigit}
use Rattle.std.specs.List.{list_all, position_or_len, slice_split, onto_first}
use Rattle.std.proofs.lemmas.Bool.{and_parts, and_from, cases_eq, cases_lt}
use Rattle.std.proofs.lemmas.Grind.{common_steps}
use Rattle.std.proofs.lemmas.List.Quantifiers.{position-Some}
use Rattle.std.proofs.lemmas.List.Sums.{fails_before_first}
use Rattle.misp_types.specs.declared.kinds.Form.{Form}
use Rattle.misp_types.specs.Numbers.{is_numeral, is_number}
use Rattle.misp_types.specs.Addresses.{is_slash, is_colon, is_dot, is_colon_byte, has_colon, is_colon_form, is_dotted_form, most_bits}
use Rattle.misp_types.specs.Forms.{digest, address_fault_at, address, by_form, text_of}
use Rattle.misp_types.proofs.LowerCase.{numeral_digits}
use Rattle.misp_types.proofs.Kept.{digest_kept, address_kept, port_kept, form_again, unless}

none_passes : (p : ℕ → Bool) (xs : List ℕ) (k : ℕ) → position p xs ≡ None → k < length xs → p (get_or xs k 0) ≡ false
none_passes p xs k e lt =
    let past : length xs ≤ position_or_len p xs = grind (arith, common_steps) in
    fails_before_first p xs k 0 (omega (arith, past, lt))

-- no byte is the one that parts a value
abbrev pub Barless : List ℕ → Type 0
Barless s = (k : ℕ) → k < length s → get_or s k 0 ≡ 124 → ⊥

passes_at : (p : ℕ → Bool) (s : List ℕ) (k : ℕ) → list_all p s ≡ true → k < length s → p (get_or s k 0) ≡ true
passes_at p [] k h lt = absurd (omega arith)
passes_at p (b ∷ bs) zero h lt = (and_parts _ _ h).0
passes_at p (b ∷ bs) (suc k) h lt = passes_at p bs k (and_parts _ _ h).1 (omega arith)

all_barless : (p : ℕ → Bool) → p 124 ≡ false → (s : List ℕ) → list_all p s ≡ true → Barless s
all_barless p bar s h k lt e = true≢false (sym (passes_at p s k h lt) ∙ ap p e ∙ bar)

says_number : (b : Bool) (o : Option ℕ) → is_some (cond b o None) ≡ true → b ≡ true
says_number true o h = refl
says_number false o h = absurd (true≢false (sym h))

number_digits : (least most : ℕ) (s : List ℕ) → is_number least most s ≡ true → list_all is_ascii_digit s ≡ true
number_digits least most s h = numeral_digits s (says_number (is_numeral s) _ h)

number_barless : (least most : ℕ) (s : List ℕ) → is_number least most s ≡ true → Barless s
number_barless least most s h = all_barless is_ascii_digit refl s (number_digits least most s h)

onto_parts : (p : ℕ → Bool) (b : ℕ) (parts : List (List ℕ)) → list_all (list_all p) (onto_first b parts) ≡ true → (p b ≡ true) × (list_all (list_all p) parts ≡ true)
onto_parts p b [] h = ((and_parts _ _ (and_parts _ _ h).0).0, refl)
onto_parts p b (part ∷ parts) h =
    let first = and_parts _ _ (and_parts _ _ h).0 in
    (first.0, and_from _ _ first.1 (and_parts _ _ h).1)

cut_parts : (p : ℕ → Bool) (c : Bool) (b : ℕ) (parts : List (List ℕ)) → list_all (list_all p) (cond c ([] ∷ parts) (onto_first b parts)) ≡ true → ((c || p b) ≡ true) × (list_all (list_all p) parts ≡ true)
cut_parts p true b parts h = (refl, h)
cut_parts p false b parts h = onto_parts p b parts h

-- the bytes of the parts, and what parts them
parts_pass : (cut p : ℕ → Bool) (s : List ℕ) → list_all (list_all p) (slice_split cut s) ≡ true → list_all (λ b. cut b || p b) s ≡ true
parts_pass cut p [] h = refl
parts_pass cut p (b ∷ bs) h =
    let parts = cut_parts p (cut b) b (slice_split cut bs) h in
    and_from _ _ parts.0 (parts_pass cut p bs parts.1)

digest_barless : (digits : ℕ) (s kept : List ℕ) → digest digits s ≡ Ok kept → Barless s
digest_barless digits s kept e k lt bar =
    let h = digest_kept digits s kept e in
    true≢false (sym (ap (λ b. not (is_ascii_hexdigit b)) bar) ∙ none_passes (λ b. not (is_ascii_hexdigit b)) s k h.0 lt)

implied : {X : Type 0} (p q : X → Bool) → ((x : X) → p x ≡ true → q x ≡ true) → (xs : List X) → list_all p xs ≡ true → list_all q xs ≡ true
implied p q h [] e = refl
implied p q h (x ∷ xs) e = and_from _ _ (h x (and_parts _ _ e).0) (implied p q h xs (and_parts _ _ e).1)

dotted_barless : (s : List ℕ) → is_dotted_form s ≡ true → Barless s
dotted_barless s h =
    let parts = implied (is_number 0 255) (list_all is_ascii_digit) (number_digits 0 255) (slice_split is_dot s) (and_parts _ _ h).1 in
    all_barless (λ b. is_dot b || is_ascii_digit b) refl s (parts_pass is_dot is_ascii_digit s parts)

third : (a b c d : Bool) → (a && b && c && d) ≡ true → c ≡ true
third a b true d h = refl
third true true false d h = h
third true false false d h = h
third false b false d h = h

colon_barless : (s : List ℕ) → is_colon_form s ≡ true → Barless s
colon_barless s h = all_barless is_colon_byte refl s (third (nat_le 2 (length s)) (nat_le (length s) 45) (list_all is_colon_byte s) (nat_le 2 (count_by is_colon s)) h)

form_barless : (b : Bool) (s : List ℕ) → cond b (is_colon_form s) (is_dotted_form s) ≡ true → Barless s
form_barless true s h = colon_barless s h
form_barless false s h = dotted_barless s h

-- the wrong part of an address is none
no_part : (b c : Bool) → cond {A = Option ℕ} (not b) (Some 1) (cond c None (Some 2)) ≡ None → (b ≡ true) × (c ≡ true)
no_part true true e = (refl, refl)
no_part true false e = absurd (true≢false (ap is_some e))
no_part false c e = absurd (true≢false (ap is_some e))

no_first : (b : Bool) → cond {A = Option ℕ} b None (Some 1) ≡ None → b ≡ true
no_first true e = refl
no_first false e = absurd (true≢false (ap is_some e))

around_barless : (at : ℕ) (s : List ℕ) → Barless (take at s) → is_slash (get_or s at 0) ≡ true → Barless (drop (at + 1) s) → Barless s
around_barless at s front slash back k lt e =
    ⊎_elim
    (λ here. true≢false (sym slash ∙ ap (λ i. is_slash (get_or s i 0)) here ∙ ap is_slash e))
    (λ other. ⊎_elim
    (λ before. front k (omega (arith, before, lt, length-take at s)) (get_or-take at s k 0 before ∙ e))
    (λ behind.
    let place : (at + 1) + (k - (at + 1)) ≡ k = omega (arith, behind, other) in
    back (k - (at + 1)) (omega (arith, behind, other, lt, length-drop (at + 1) s)) (get_or-drop (at + 1) s (k - (at + 1)) 0 ∙ ap (λ i. get_or s i 0) place ∙ e))
    (cases_lt k at))
    (cases_eq at k)

at_barless : (at : Option ℕ) (s : List ℕ) → position is_slash s ≡ at → address_fault_at at s ≡ None → Barless s
at_barless None s p e = form_barless (has_colon s) s (no_first _ e)
at_barless (Some at) s p e =
    let h = no_part _ _ e in
    let slash = position-Some is_slash s at 0 p in
    around_barless at s (form_barless (has_colon (take at s)) (take at s) h.0) slash.1 (number_barless 0 (most_bits (take at s)) (drop (at + 1) s) h.1)

address_barless : (s kept : List ℕ) → address s ≡ Ok kept → Barless s
address_barless s kept e = at_barless _ s refl (address_kept s kept e).0

-- the forms that may be after the `|`
abbrev pub MayEnd : Form → Type 0
MayEnd (Form.Digest digits) = Unit {0}
MayEnd Form.Address = Unit {0}
MayEnd Form.Domain = ⊥
MayEnd Form.Port = Unit {0}
MayEnd Form.System = ⊥
MayEnd Form.Any = ⊥

ends_barless : (form : Form) → MayEnd form → (s kept : List ℕ) → by_form form s ≡ Ok kept → Barless s
ends_barless (Form.Digest digits) may s kept e = digest_barless digits s kept e
ends_barless Form.Address may s kept e = address_barless s kept e
ends_barless Form.Domain may s kept e = absurd may
ends_barless Form.Port may s kept e = number_barless 1 65535 s (port_kept s kept e).0
ends_barless Form.System may s kept e = absurd may
ends_barless Form.Any may s kept e = absurd may

pub kept_barless : (form : Form) → MayEnd form → (s kept : List ℕ) → text_of form s ≡ Ok kept → Barless kept
kept_barless form may s kept e = ends_barless form may kept kept (form_again form s kept (unless _ _ _ kept e).1)
