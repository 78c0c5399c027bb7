-- Bytes in hexadecimal digits.
use Rattle.std.proofs.Common.{◌≡◌, ◌%◌, ℕ, true, List, [], ◌∷◌, length, Some, refl, arith}
use Rattle.std.specs.List.{list_all}
use Rattle.std.proofs.lemmas.List.Sums.{AllPass-from_list_all}
use Rattle.std.proofs.lemmas.Bool.{and_parts}
use Rattle.std.proofs.lemmas.Bool.Decides.{nat_tests}
use Rattle.hex.specs.Hex.{is_hex_digit}
use Rattle.hex.proofs.HexLemmas.{decode_of-digits}
use Rattle.misp_script.specs.Step.{bytes_of, hex_bytes, is_lower_digit}

-- a lower-case digit is one
lower_is_digit : (byte : ℕ) → is_lower_digit byte ≡ true → is_hex_digit byte ≡ true
lower_is_digit byte lower = grind (arith, nat_tests, lower)

all_digits : (text : List ℕ) → list_all is_lower_digit text ≡ true → list_all is_hex_digit text ≡ true
all_digits [] all = refl
all_digits (byte ∷ text) all = let parts = and_parts _ _ all in rw (lower_is_digit byte parts.0, all_digits text parts.1) refl

-- an even number of them are bytes
pub are_bytes : (text : List ℕ) → length text % 2 ≡ 0 → list_all is_lower_digit text ≡ true → Some (bytes_of text) ≡ hex_bytes text
are_bytes text even all =
    let digits = decode_of-digits text even (AllPass-from_list_all is_hex_digit text (all_digits text all)) in
    rw (all, digits.1) refl
