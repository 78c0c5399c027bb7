-- Bytes that were read in parts.
use Rattle.std.proofs.Common.{◌≡◌, ℕ, ◌<◌, List, [], ◌++◌, length, Option, Some, None, refl, sym, ◌∙◌, ap, arith, append_assoc, append-nil, length-append, IfSome}
use Rattle.std.specs.Io.KnownBytes.{Consumes, IsAtEnd}

pub consumes_none : (left : Option (List ℕ)) → Consumes left left []
consumes_none None = tt
consumes_none (Some bytes) = refl

pub consumes_more : (before mid now : Option (List ℕ)) (first more : List ℕ) → Consumes before mid first → Consumes mid now more → Consumes before now (first ++ more)
consumes_more None mid now first more a b = tt
consumes_more (Some before) None now first more a b = absurd a
consumes_more (Some before) (Some mid) None first more a b = absurd b
consumes_more (Some before) (Some mid) (Some now) first more a b = a ∙ ap (λ rest. first ++ rest) b ∙ sym (append_assoc first more now)

pub consumes_all : (before now : Option (List ℕ)) (bytes : List ℕ) → Consumes before now bytes → IsAtEnd now → IfSome before (λ left. bytes ≡ left)
consumes_all None now bytes taken at = tt
consumes_all (Some before) None bytes taken at = absurd taken
consumes_all (Some before) (Some now) bytes taken at = sym (taken ∙ ap (λ rest. bytes ++ rest) at ∙ append-nil bytes)

pub consumes_many : (limit : ℕ) (before now : Option (List ℕ)) (bytes : List ℕ) → Consumes before now bytes → limit < length bytes → IfSome before (λ left. limit < length left)
consumes_many limit None now bytes taken many = tt
consumes_many limit (Some before) None bytes taken many = absurd taken
consumes_many limit (Some before) (Some now) bytes taken many = let all = ap length taken in omega (arith, length-append bytes now)
