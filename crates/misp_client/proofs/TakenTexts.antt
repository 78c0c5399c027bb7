-- The number of what was taken is read from its text.
use Rattle.std.proofs.Common.{◌≡◌, ◌<◌, ◌^◌, ℕ, Ok, refl, ap, arith, option_and_then}
use Rattle.std.specs.Result.{result_ok}
use Rattle.serde_json.proofs.Numbers.{number_of-decimal}
use Rattle.serde_json.specs.Written.{compact_text}
use Rattle.misp_format.specs.Json.{json_in}
use Rattle.misp_format.specs.Replies.{taken_data}
use Rattle.misp_client.specs.Bodies.{at_most, taken_at, taken_in}
use Rattle.misp_client.proofs.JsonTexts.{plain_read}

taken_read : (n : ℕ) → n < 2 ^ 64 → json_in (compact_text (taken_data n)) ≡ Ok (taken_data n)
unfolding taken_data
taken_read n small = plain_read (taken_data n) (refl, (small, tt)) (rw (number_of-decimal n small) refl) (omega arith)

-- where it is no more than was sent
pub taken_back : (most n : ℕ) → n < 2 ^ 64 → taken_in most (compact_text (taken_data n)) ≡ at_most most n
unfolding taken_in taken_at taken_data
taken_back most n small = ap (λ x. option_and_then (taken_at most) (result_ok x)) (taken_read n small)
