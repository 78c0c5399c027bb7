-- Decimal digits, one after another.
use Rattle.std.proofs.Common.{◌≡◌, ℕ, zero, suc, ◌+◌, ◌-◌, ◌*◌, ◌<◌, true, false, List, [], ◌∷◌, length, get_or, take, refl, arith, nat_le, None}
use Rattle.std.specs.Char.{is_ascii_digit, digit_value}
use Rattle.std.specs.List.{list_all}
use Rattle.std.specs.Str.Parse.{digits_value}
use Rattle.std.proofs.lemmas.Bool.{and_parts}
use Rattle.std.proofs.lemmas.Bool.Decides.{nat_tests}
use Rattle.std.proofs.lemmas.Int.Digits.{digits_value_more}
use Rattle.std.proofs.lemmas.Str.Parse.{digits_value-take-le}
use Rattle.misp_types.specs.Numbers.{number_up_to}

one_digit : (d : ℕ) → is_ascii_digit d ≡ true → digit_value d ≡ d - 48
one_digit d h = grind (arith, nat_tests)

digit_at : (ds : List ℕ) (i : ℕ) → list_all is_ascii_digit ds ≡ true → i < length ds → digit_value (get_or ds i 0) ≡ get_or ds i 0 - 48
digit_at [] i h lt = absurd (omega arith)
digit_at (d ∷ ds) zero h lt = one_digit d (and_parts _ _ h).0
digit_at (d ∷ ds) (suc i) h lt = digit_at ds i (and_parts _ _ h).1 (omega arith)

-- one digit more
pub one_more : (ds : List ℕ) (i value : ℕ) → list_all is_ascii_digit ds ≡ true → i < length ds → value ≡ digits_value 10 (take i ds) → 10 * value + (get_or ds i 0 - 48) ≡ digits_value 10 (take (i + 1) ds)
one_more ds i value h lt is = omega (arith, is, digits_value_more 10 ds i lt, digit_at ds i h lt)

above : (n most : ℕ) → most < n → nat_le n most ≡ false
above n most lt = grind (arith, nat_tests)

-- the first digits write no more than all of them
pub too_large : (ds : List ℕ) (i most value : ℕ) → value ≡ digits_value 10 (take i ds) → most < value → number_up_to most ds ≡ None
too_large ds i most value is lt =
    let large : most < digits_value 10 ds = omega (arith, is, lt, digits_value-take-le 10 ds i (omega arith)) in
    rw (above _ _ large) refl
