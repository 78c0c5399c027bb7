-- Values and numbers of queries.
use Rattle.std.proofs.Common.{◌≡◌, ℕ, ◌+◌, ◌≤◌, ◌<◌, ◌^◌, Bool, true, false, ◌&&◌, List, ◌∷◌, length, get_or, drop, nat_le, Option, Some, None, Err, refl, sym, ap, ◌∙◌, arith, rules}
use Rattle.std.specs.Char.{is_ascii_digit}
use Rattle.std.specs.List.{filter_map, list_all, slice_get}
use Rattle.std.specs.Str.Parse.{IsNumeral, digits_value, without_leading_plus}
use Rattle.std.proofs.lemmas.Bool.Decides.{nat_tests}
use Rattle.std.proofs.lemmas.List.{at_drop_more, at_drop_all}
use Rattle.std.proofs.lemmas.Str.Parse.{IsNumeralModel, numerals_by_value, parse_digits}
use Rattle.misp_api.specs.Query.{number_in, value_of}

-- ---- values

-- the first value of this name among these pieces
abbrev pub first_value : List ℕ → List (List ℕ) → Option (List ℕ)
first_value name pieces = slice_get (filter_map (value_of name) pieces) 0

-- that of a piece, or of those after it
abbrev pub first_or : Option (List ℕ) → Option (List ℕ) → Option (List ℕ)
first_or None later = later
first_or (Some value) later = Some value

first_of : (name piece : List ℕ) (pieces : List (List ℕ)) (value : Option (List ℕ)) → value_of name piece ≡ value
    → first_value name (piece ∷ pieces) ≡ first_or value (first_value name pieces)
first_of name piece pieces None is = rw is refl
first_of name piece pieces (Some value) is = rw is refl

pub first_at : (name : List ℕ) (pieces : List (List ℕ)) (at : ℕ) (piece : List ℕ) (value : Option (List ℕ)) → (at < length pieces) × (piece ≡ get_or pieces at piece)
    → value ≡ value_of name piece → first_value name (drop at pieces) ≡ first_or value (first_value name (drop (at + 1) pieces))
first_at name pieces at piece value is says =
    at_drop_more (first_value name) pieces at piece is.0
    ∙ ap (λ p. first_value name (p ∷ drop (at + 1) pieces)) (sym is.1)
    ∙ first_of name piece (drop (at + 1) pieces) value (sym says)

pub first_of_none : (name : List ℕ) (pieces : List (List ℕ)) (at : ℕ) → length pieces ≤ at → first_value name (drop at pieces) ≡ None
first_of_none name pieces at past = at_drop_all (first_value name) pieces at past

-- ---- numbers

digits : IsNumeralModel (λ text. list_all is_ascii_digit text ≡ true) (digits_value 10)
digits = numerals_by_value _ (search rules)

and_no : (a b c d : Bool) → d ≡ false → (a && b && (c && d)) ≡ false
and_no true true true d is = is
and_no true true false d is = refl
and_no true false c d is = refl
and_no false b c d is = refl

not_true : (b : Bool) → (b ≡ true → ⊥) → b ≡ false
not_true true h = absurd (h refl)
not_true false h = refl

at_most : (number most : ℕ) → nat_le number most ≡ true → number ≤ most
at_most number most h = grind (arith, nat_tests)

-- digits that are refused write a number above all of 64 bits
pub too_large : (most : ℕ) (text : List ℕ) → most < 2 ^ 64 → 0 < length text → list_all is_ascii_digit text ≡ true
    → ¬ (IsNumeral 10 (without_leading_plus text) × (digits_value 10 (without_leading_plus text) < 2 ^ 64)) → number_in most text ≡ None
unfolding number_in
too_large most text few some all fails =
    let refused : ¬ ((0 < length text) × (digits_value 10 text < 2 ^ 64)) = parse_digits digits {E = Unit {0}} 64 text (Err tt) fails all in
    let large : nat_le (digits_value 10 text) most ≡ false = not_true _ (λ h. let few_digits = at_most _ _ h in refused (some, omega (arith, few, few_digits))) in
    rw (and_no _ (list_all is_ascii_digit text) (nat_le 1 (digits_value 10 text)) _ large) refl
