-- Moments and words, as fields of a line say them.
use Rattle.std.specs.Prelude.{ℕ, Bool, false, ◌&&◌, ◌||◌, ◌==◌, not, nat_le, List, [], ◌∷◌, length, Option, Some, None, if◌then◌else◌}
use Rattle.std.specs.Char.{is_ascii_digit}
use Rattle.std.specs.List.{list_all}
use Rattle.std.specs.Str.Parse.{digits_value}

-- digits, of which the first is a zero only where it is the only one
abbrev pub is_numeral : List ℕ → Bool
is_numeral [] = false
is_numeral (d ∷ []) = list_all is_ascii_digit (d ∷ [])
is_numeral (d ∷ e ∷ ds) = not (d == 48) && list_all is_ascii_digit (d ∷ e ∷ ds)

-- the last second of the year 9999
abbrev pub last_second : ℕ
last_second = 253402300799

-- no later than the last second
abbrev pub moment : ℕ → Option ℕ
moment seconds = if nat_le seconds last_second then Some seconds else None

-- a decimal number of at most twelve digits, that is a moment
abbrev pub time_of : List ℕ → Option ℕ
time_of text =
    if nat_le (length text) 12 && is_numeral text then moment (digits_value 10 text) else None

-- a digit, or a letter from `a` to `f`
abbrev pub is_lower_hex : ℕ → Bool
is_lower_hex byte = is_ascii_digit byte || (nat_le 97 byte && nat_le byte 102)

-- 32 lower-case hexadecimal digits
abbrev pub word_of : List ℕ → Option ℕ
word_of text =
    if (length text == 32) && list_all is_lower_hex text then Some (digits_value 16 text) else None
