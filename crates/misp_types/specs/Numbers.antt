-- Decimal numbers without leading zeros.
use Rattle.std.specs.Prelude.{ℕ, Bool, false, ◌&&◌, ◌==◌, not, nat_le, List, [], ◌∷◌, Option, Some, None, is_some, if◌then◌else◌}
use Rattle.std.specs.Char.{is_ascii_digit}
use Rattle.std.specs.List.{list_all}
use Rattle.std.specs.Str.Parse.{digits_value}

-- decimal digits, of which the first is a zero only where it is the only one
abbrev pub is_numeral : List ℕ → Bool
is_numeral [] = false
is_numeral (d ∷ []) = list_all is_ascii_digit (d ∷ [])
is_numeral (d ∷ e ∷ ds) = not (d == 48) && list_all is_ascii_digit (d ∷ e ∷ ds)

-- the number that digits write, where it is not above the most
abbrev pub number_up_to : ℕ → List ℕ → Option ℕ
number_up_to most digits =
    if nat_le (digits_value 10 digits) most then Some (digits_value 10 digits) else None

-- what there is, where it is not below the least
abbrev pub not_below : ℕ → Option ℕ → Option ℕ
not_below least None = None
not_below least (Some n) = if nat_le least n then Some n else None

-- the number that a text says, where it is from the least to the most
abbrev pub number_in : ℕ → ℕ → List ℕ → Option ℕ
number_in least most text =
    if is_numeral text then not_below least (number_up_to most text) else None

-- whether it says one
abbrev pub is_number : ℕ → ℕ → List ℕ → Bool
is_number least most text = is_some (number_in least most text)
