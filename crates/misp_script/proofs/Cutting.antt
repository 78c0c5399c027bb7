-- A script is its first line and what follows it.
use Rattle.std.proofs.Common.{◌≡◌, ℕ, zero, suc, ◌+◌, ◌<◌, List, [], ◌∷◌, length, take, drop, position, Some, None, arith, add-one}
use Rattle.std.proofs.lemmas.Bool.Decides.{nat_tests}
use Rattle.misp_script.specs.Lines.{lines_of, is_line_feed}

pub lines_at : (bytes : List ℕ) (end : ℕ) → position is_line_feed bytes ≡ Some end → lines_of bytes ≡ take end bytes ∷ lines_of (drop (end + 1) bytes)
lines_at [] end at = cc
lines_at (byte ∷ bytes) zero at = grind (arith, nat_tests)
lines_at (byte ∷ bytes) (suc end) at = grind (arith, nat_tests, add-one, lines_at bytes end)

pub last_line : (bytes : List ℕ) → position is_line_feed bytes ≡ None → 0 < length bytes → lines_of bytes ≡ bytes ∷ []
last_line [] none some = absurd (omega arith)
last_line (byte ∷ []) none some = grind (arith, nat_tests)
last_line (byte ∷ next ∷ bytes) none some = grind (arith, nat_tests, last_line (next ∷ bytes))
