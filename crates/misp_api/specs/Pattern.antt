-- Which paths a pattern fits.
use Rattle.std.specs.Prelude.{ℕ, ◌==◌, Bool, false, not, List, [], ◌∷◌, bytes_eq, if◌then◌else◌}
use Rattle.std.specs.Cmp.Lexicographic.{pointwise}

abbrev pub is_slash : ℕ → Bool
is_slash byte = byte == 47

-- one byte more at the front of the first segment
abbrev pub with_byte : ℕ → List (List ℕ) → List (List ℕ)
with_byte byte [] = (byte ∷ []) ∷ []
with_byte byte (segment ∷ rest) = (byte ∷ segment) ∷ rest

-- the segments of a text, with a slash between two
abbrev pub segments : List ℕ → List (List ℕ)
segments [] = [] ∷ []
segments (byte ∷ text) =
    if is_slash byte then [] ∷ segments text else with_byte byte (segments text)

-- a name in braces
abbrev pub is_name : List ℕ → Bool
is_name [] = false
is_name (byte ∷ word) = byte == 123

-- a name takes each segment that is not empty, and another word takes itself
abbrev pub takes : List ℕ → List ℕ → Bool
takes word segment = if is_name word then not (bytes_eq [] segment) else bytes_eq word segment

-- each segment of the path is taken by that of the pattern
abbrev pub fits_pattern : List ℕ → List ℕ → Bool
fits_pattern pattern path = pointwise takes (segments pattern) (segments path)
