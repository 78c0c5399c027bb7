-- Decimal digits, one after another.
use Rattle.std.proofs.Common.{◌≡◌, ℕ, zero, suc, ◌+◌, ◌-◌, ◌*◌, ◌^◌, ◌<◌, ◌≤◌, true, List, [], ◌∷◌, length, get_or, take, ap, add-one, arith}
use Rattle.std.specs.Char.{is_ascii_digit, digit_value}
use Rattle.std.specs.List.{list_all}
use Rattle.std.specs.Str.Parse.{digits_value}
use Rattle.std.proofs.Math.Nat.{pow-suc, pow-le-pow_right}
use Rattle.std.proofs.lemmas.Bool.{and_parts}
use Rattle.std.proofs.lemmas.Bool.Decides.{nat_tests}
use Rattle.std.proofs.lemmas.Int.Digits.{digits_value_more}

one_digit : (d : ℕ) → is_ascii_digit d ≡ true → (48 ≤ d) × (d < 58) × (digit_value d ≡ d - 48)
one_digit d h = (grind (arith, nat_tests), grind (arith, nat_tests), grind (arith, nat_tests))

pub digit_at : (ds : List ℕ) (i : ℕ) → list_all is_ascii_digit ds ≡ true → i < length ds → (48 ≤ get_or ds i 0) × (get_or ds i 0 < 58) × (digit_value (get_or ds i 0) ≡ get_or ds i 0 - 48)
digit_at [] i h lt = absurd (omega arith)
digit_at (d ∷ ds) zero h lt = one_digit d (and_parts _ _ h).0
digit_at (d ∷ ds) (suc i) h lt = digit_at ds i (and_parts _ _ h).1 (omega arith)

pub one_more : (ds : List ℕ) (i value digit : ℕ) → i < length ds → digit ≡ digit_value (get_or ds i 0) → value ≡ digits_value 10 (take i ds) → 10 * value + digit ≡ digits_value 10 (take (i + 1) ds)
one_more ds i value digit lt says is = omega (arith, is, says, digits_value_more 10 ds i lt)

pub bound_more : (i value digit : ℕ) → digit < 10 → value < 10 ^ i → 10 * value + digit < 10 ^ (i + 1)
bound_more i value digit few small = omega (arith, pow-suc 10 i, ap (λ k. 10 ^ k) (add-one i))

-- what nineteen digits can be at most
pub below : (i value : ℕ) → i < 19 → value < 10 ^ i → value < 1_000_000_000_000_000_000
below i value few small = let most : 10 ^ i ≤ 10 ^ 18 = pow-le-pow_right {n = 10} (omega arith) {i = i} {j = 18} (omega arith) in omega (arith, most)
