-- Hexadecimal digits, one after another.
use Rattle.std.proofs.Common.{◌≡◌, ℕ, zero, suc, ◌+◌, ◌*◌, ◌^◌, ◌<◌, ◌≤◌, true, List, [], ◌∷◌, length, get_or, take, ap, add-one, arith}
use Rattle.std.specs.Char.{digit_value}
use Rattle.std.specs.Str.Parse.{digits_value}
use Rattle.std.proofs.Math.Nat.{pow-suc, pow-le-pow_right}
use Rattle.std.proofs.lemmas.Int.Digits.{digits_value_more}
use Rattle.misp_lists.proofs.Prelude.{and_parts, list_all}
use Rattle.misp_script.specs.Numbers.{is_lower_hex}

pub hex_at : (ds : List ℕ) (i : ℕ) → list_all is_lower_hex ds ≡ true → i < length ds → is_lower_hex (get_or ds i 0) ≡ true
hex_at [] i h lt = absurd (omega arith)
hex_at (d ∷ ds) zero h lt = (and_parts _ _ h).0
hex_at (d ∷ ds) (suc i) h lt = hex_at ds i (and_parts _ _ h).1 (omega arith)

pub one_more_sixteen : (ds : List ℕ) (i value digit : ℕ) → i < length ds → digit ≡ digit_value (get_or ds i 0) → value ≡ digits_value 16 (take i ds) → 16 * value + digit ≡ digits_value 16 (take (i + 1) ds)
one_more_sixteen ds i value digit lt says is = omega (arith, is, says, digits_value_more 16 ds i lt)

pub bound_sixteen : (i value digit : ℕ) → digit < 16 → value < 16 ^ i → 16 * value + digit < 16 ^ (i + 1)
bound_sixteen i value digit few small = omega (arith, pow-suc 16 i, ap (λ k. 16 ^ k) (add-one i))

-- thirty-two digits fit
pub below_sixteen : (i value : ℕ) → i < 32 → value < 16 ^ i → value < 2 ^ 124
below_sixteen i value few small = let most : 16 ^ i ≤ 16 ^ 31 = pow-le-pow_right {n = 16} (omega arith) {i = i} {j = 31} (omega arith) in omega (arith, most)
