-- What is kept of a text of a form is of that form, and is kept as it is.
use Rattle.std.proofs.Common.{◌≡◌, ℕ, ◌^◌, ◌<◌, ◌==◌, nat_le, Bool, true, false, cond, not, List, [], ◌∷◌, ◌++◌, length, get_or, codes, decimal, position, is_some, is_ok, Option, Some, None, Ok, Err, true≢false, refl, sym, ap, ◌∙◌, arith}
use Rattle.std.specs.Char.{is_ascii_digit, is_ascii_hexdigit, digit_value, to_ascii_lowercase}
use Rattle.std.specs.Option.{option_map_or}
use Rattle.std.specs.List.{list_all}
use Rattle.std.specs.Str.Parse.{AllDigits, digits_value}
use Rattle.std.proofs.lemmas.Bool.{and_parts, cond-false}
use Rattle.std.proofs.lemmas.Bool.Decides.{nat_tests}
use Rattle.std.proofs.lemmas.Fmt.{decimal-digits_value}
use Rattle.std.proofs.lemmas.List.{length-map}
use Rattle.misp_types.specs.declared.fault.ValueFault.{ValueFault}
use Rattle.misp_types.specs.declared.kinds.Form.{Form}
use Rattle.misp_types.specs.Checked.{Checked}
use Rattle.misp_types.specs.Numbers.{is_numeral, not_below, number_in, is_number}
use Rattle.misp_types.specs.Forms.{lower, lower_unless_at, lower_unless_part, digest, domain, address_fault, address, port, after_mark, numbered, system, by_form, text_of}
use Rattle.misp_types.proofs.LowerCase.{numeral_digits, digest_blind, domain_blind, address_kept_blind}

abbrev kept_or : Checked → List ℕ
kept_or (Ok kept) = kept
kept_or (Err fault) = []

-- what two outcomes of one value have in common
pub same_kept : (a b : List ℕ) → ◌≡◌ {A = Checked} (Ok a) (Ok b) → b ≡ a
same_kept a b e = sym (ap kept_or e)

pub no_fault : {Y : Type 0} (fault : ValueFault) (kept : List ℕ) → ◌≡◌ {A = Checked} (Err fault) (Ok kept) → Y
no_fault fault kept e = absurd (true≢false (sym (ap is_ok e)))

pub when : (b : Bool) (x : Checked) (fault : ValueFault) (kept : List ℕ) → cond b x (Err fault) ≡ Ok kept → (b ≡ true) × (x ≡ Ok kept)
when true x fault kept e = (refl, e)
when false x fault kept e = no_fault fault kept e

pub unless : (b : Bool) (x : Checked) (fault : ValueFault) (kept : List ℕ) → cond b (Err fault) x ≡ Ok kept → (b ≡ false) × (x ≡ Ok kept)
unless true x fault kept e = no_fault fault kept e
unless false x fault kept e = (refl, e)

when_some : (b : Bool) (x : Option ℕ) (n : ℕ) → cond b x None ≡ Some n → (b ≡ true) × (x ≡ Some n)
when_some true x n e = (refl, e)
when_some false x n e = absurd (true≢false (sym (ap is_some e)))

-- ---- lower case

at_kept : (at : Option ℕ) (s kept : List ℕ) → lower_unless_at at s ≡ Ok kept → (at ≡ None) × (kept ≡ lower s)
at_kept None s kept e = (refl, same_kept _ kept e)
at_kept (Some place) s kept e = no_fault _ kept e

part_kept : (part : Option ℕ) (s kept : List ℕ) → lower_unless_part part s ≡ Ok kept → (part ≡ None) × (kept ≡ lower s)
part_kept None s kept e = (refl, same_kept _ kept e)
part_kept (Some part) s kept e = no_fault _ kept e

pub digest_kept : (digits : ℕ) (s kept : List ℕ) → digest digits s ≡ Ok kept → (position (λ b. not (is_ascii_hexdigit b)) s ≡ None) × (kept ≡ lower s)
digest_kept digits s kept e = at_kept _ s kept (when _ _ _ kept e).1

pub domain_kept : (s kept : List ℕ) → domain s ≡ Ok kept → kept ≡ lower s
domain_kept s kept e = (at_kept _ s kept (unless _ _ _ kept e).1).1

pub address_kept : (s kept : List ℕ) → address s ≡ Ok kept → (address_fault s ≡ None) × (kept ≡ lower s)
address_kept s kept e = part_kept _ s kept e

pub port_kept : (s kept : List ℕ) → port s ≡ Ok kept → (is_number 1 65535 s ≡ true) × (kept ≡ s)
port_kept s kept e = let h = when _ _ _ kept e in (h.0, same_kept s kept h.1)

-- ---- numbers

below_kept : (least : ℕ) (o : Option ℕ) (n : ℕ) → not_below least o ≡ Some n → o ≡ Some n
below_kept least None n e = e
below_kept least (Some k) n e = (when_some _ _ n e).1

number_is : (a b : ℕ) → ◌≡◌ {A = Option ℕ} (Some a) (Some b) → b ≡ a
number_is a b e = sym (ap (λ o. option_map_or (λ n. n) o 0) e)

-- what a text that says a number is
says : (least most : ℕ) (s : List ℕ) (n : ℕ) → number_in least most s ≡ Some n → (is_numeral s ≡ true) × (nat_le (digits_value 10 s) most ≡ true) × (◌≡◌ {A = Option ℕ} (Some (digits_value 10 s)) (Some n))
says least most s n e =
    let numeral = when_some _ _ n e in
    let few = when_some _ _ n (below_kept least _ n numeral.1) in
    (numeral.0, few.0, few.1)

one_digit : (d : ℕ) → is_ascii_digit d ≡ true → digit_value d < 10
one_digit d h = grind (arith, nat_tests)

pub all_digits : (s : List ℕ) → list_all is_ascii_digit s ≡ true → AllDigits 10 s
all_digits [] h = tt
all_digits (d ∷ ds) h = (one_digit d (and_parts _ _ h).0, all_digits ds (and_parts _ _ h).1)

not_zero : (d : ℕ) → not (d == 48) ≡ true → d ≡ 48 → ⊥
not_zero d h e = grind (arith, nat_tests)

lone_zero : (s : List ℕ) → is_numeral s ≡ true → (0 < length s) × (get_or s 0 0 ≡ 48 → length s ≡ 1)
lone_zero [] h = absurd (true≢false (sym h))
lone_zero (d ∷ []) h = (omega arith, λ e. refl)
lone_zero (d ∷ e ∷ ds) h = (omega arith, λ z. absurd (not_zero d (and_parts _ _ h).0 z))

below : (n most : ℕ) → nat_le n most ≡ true → most < 2 ^ 64 → n < 2 ^ 64
below n most h lt = grind (arith, nat_tests)

-- a numeral is what its number is written as
written : (s : List ℕ) → is_numeral s ≡ true → digits_value 10 s < 2 ^ 64 → decimal (digits_value 10 s) ≡ s
written s h small =
    let lone = lone_zero s h in
    decimal-digits_value (record { to = λ ds p. p; from = λ ds p. p; same = λ ds p. refl }) s (all_digits s (numeral_digits s h)) lone.0 lone.1 small

number_again : (most : ℕ) (s : List ℕ) (n : ℕ) → most < 2 ^ 64 → number_in 0 most s ≡ Some n → number_in 0 most (decimal n) ≡ Some n
number_again most s n lt e =
    let h = says 0 most s n e in
    let small = below _ most h.1 lt in
    let same : decimal n ≡ s = ap decimal (number_is _ n h.2) ∙ written s h.0 small in
    ap (number_in 0 most) same ∙ e

numbered_is : (o : Option ℕ) (kept : List ℕ) → numbered o ≡ Ok kept → (n : ℕ) × (o ≡ Some n) × (kept ≡ codes "AS" ++ decimal n)
numbered_is None kept e = no_fault _ kept e
numbered_is (Some n) kept e = (n, refl, same_kept _ kept e)

system_again : (s kept : List ℕ) → system s ≡ Ok kept → (system kept ≡ Ok kept) × (0 < length kept)
system_again s kept e =
    let is = numbered_is _ kept e in
    let again : number_in 0 4294967295 (decimal is.0) ≡ Some is.0 = number_again 4294967295 (after_mark s) is.0 (omega arith) is.1 in
    let text : system (codes "AS" ++ decimal is.0) ≡ Ok (codes "AS" ++ decimal is.0) = ap numbered again in
    (ap system is.2 ∙ text ∙ ap Ok (sym is.2), omega (arith, ap length is.2))

-- ---- what is kept is not empty, and is of its form

lower_form : (f : List ℕ → Checked) → ((t : List ℕ) → f (lower t) ≡ f t) → (s kept : List ℕ) → kept ≡ lower s → f s ≡ Ok kept → f kept ≡ Ok kept
lower_form f blind s kept is e = ap f is ∙ blind s ∙ e

pub form_again : (form : Form) (s kept : List ℕ) → by_form form s ≡ Ok kept → by_form form kept ≡ Ok kept
form_again (Form.Digest digits) s kept e = lower_form (digest digits) (digest_blind digits) s kept (digest_kept digits s kept e).1 e
form_again Form.Address s kept e = lower_form address address_kept_blind s kept (address_kept s kept e).1 e
form_again Form.Domain s kept e = lower_form domain domain_blind s kept (domain_kept s kept e) e
form_again Form.Port s kept e = ap port (port_kept s kept e).1 ∙ e
form_again Form.System s kept e = (system_again s kept e).0
form_again Form.Any s kept e = refl

lower_filled : (s kept : List ℕ) → kept ≡ lower s → 0 < length s → 0 < length kept
lower_filled s kept is some = omega (arith, ap length is, length-map s to_ascii_lowercase)

same_filled : (s kept : List ℕ) → kept ≡ s → 0 < length s → 0 < length kept
same_filled s kept is some = omega (arith, ap length is)

form_filled : (form : Form) (s kept : List ℕ) → by_form form s ≡ Ok kept → 0 < length s → 0 < length kept
form_filled (Form.Digest digits) s kept e = lower_filled s kept (digest_kept digits s kept e).1
form_filled Form.Address s kept e = lower_filled s kept (address_kept s kept e).1
form_filled Form.Domain s kept e = lower_filled s kept (domain_kept s kept e)
form_filled Form.Port s kept e = same_filled s kept (port_kept s kept e).1
form_filled Form.System s kept e = λ some. (system_again s kept e).1
form_filled Form.Any s kept e = same_filled s kept (same_kept s kept e)

some_length : (n : ℕ) → (n == 0) ≡ false → 0 < n
some_length n h = grind (arith, nat_tests)

filled_length : (n : ℕ) → 0 < n → (n == 0) ≡ false
filled_length n h = grind (arith, nat_tests)

pub when_filled : (s : List ℕ) (x y : Checked) → 0 < length s → x ≡ y → cond (length s == 0) (Err ValueFault.WrongLength) x ≡ y
when_filled s x y some e = cond-false _ _ _ (filled_length _ some) ∙ e

pub text_again : (form : Form) (s kept : List ℕ) → text_of form s ≡ Ok kept → (text_of form kept ≡ Ok kept) × (0 < length kept)
text_again form s kept e =
    let h = unless _ _ _ kept e in
    let some = form_filled form s kept h.1 (some_length _ h.0) in
    (when_filled kept _ _ some (form_again form s kept h.1), some)
