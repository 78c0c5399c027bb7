-- Bytes that are text.
use Rattle.std.proofs.Common.{◌≡◌, ◌<◌, ℕ, List, true, false, inl, inr, arith}
use Rattle.std.specs.Prelude.{IsUtf8}
use Rattle.std.specs.Str.{is_utf8}
use Rattle.std.proofs.lemmas.Bool.{cases_Bool}
use Rattle.std.proofs.lemmas.Bool.Decides.{nat_tests}
use Rattle.std.proofs.lemmas.List.Elements.{All-weaker}
use Rattle.std.proofs.lemmas.Str.{IsUtf8-from_ascii, IsUtf8-from_is_utf8}
use Rattle.std.proofs.lemmas.Str.Ascii.{IsAscii-from_all}
use Rattle.httparse.specs.Grammar.{IsToken, is_token_byte}

pub no_text : (bytes : List ℕ) → ¬ (IsUtf8 bytes) → is_utf8 bytes ≡ false
no_text bytes none = elim (cases_Bool (is_utf8 bytes)) [
  | inl text ↦ absurd (none (IsUtf8-from_is_utf8 bytes text))
  | inr not_text ↦ not_text
]

token_is_ascii : (b : ℕ) → is_token_byte b ≡ true → b < 128
unfolding is_token_byte
token_is_ascii b token = grind (arith, nat_tests)

pub token_is_text : (bytes : List ℕ) → IsToken bytes → IsUtf8 bytes
token_is_text bytes token =
    IsUtf8-from_ascii _ (IsAscii-from_all _
    (All-weaker (λ b. is_token_byte b ≡ true) (λ b. b < 128) token_is_ascii _ token.1))
