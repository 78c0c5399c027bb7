-- Visible bytes are ASCII.
use Rattle.std.proofs.Common.{◌≡◌, ℕ, zero, suc, ◌<◌, true, List, [], ◌∷◌, arith, IsAscii, IsUtf8}
use Rattle.std.proofs.lemmas.Str.{IsUtf8-from_ascii}
use Rattle.misp_lists.proofs.Prelude.{and_parts, list_all, nat_tests}
use Rattle.misp_script.specs.Step.{is_visible}

visible_small : (b : ℕ) → is_visible b ≡ true → b < 128
visible_small b h = grind (arith, nat_tests)

IsAscii-visible : (bs : List ℕ) → list_all is_visible bs ≡ true → IsAscii bs
IsAscii-visible [] h i = omega arith
IsAscii-visible (b ∷ bs) h zero = visible_small b (and_parts _ _ h).0
IsAscii-visible (b ∷ bs) h (suc i) = IsAscii-visible bs (and_parts _ _ h).1 i

pub IsUtf8-visible : (text : List ℕ) → list_all is_visible text ≡ true → IsUtf8 text
IsUtf8-visible text h = IsUtf8-from_ascii text (IsAscii-visible text h)
