-- How many connections a word asks for.
use Rattle.std.specs.Prelude.{ℕ, Bool, false, not, ◌==◌, ◌&&◌, nat_le, List, [], ◌∷◌, length, Option, Some, None, option_and_then, if◌then◌else◌}
use Rattle.std.specs.Char.{is_ascii_digit}
use Rattle.std.specs.List.{list_all}
use Rattle.std.specs.Str.Parse.{digits_value}

-- the most connections
abbrev pub count_limit : ℕ
count_limit = 1_000_000

-- one decimal digit or more, of which the first is not 0
abbrev pub is_numeral : List ℕ → Bool
is_numeral [] = false
is_numeral (digit ∷ digits) = not (digit == 48) && list_all is_ascii_digit (digit ∷ digits)

-- a count that is at most the limit
abbrev pub within_limit : ℕ → Option ℕ
within_limit count = if nat_le count count_limit then Some count else None

-- the count of a text, which is from 1 to the limit
abbrev pub count_of : List ℕ → Option ℕ
count_of text =
    if nat_le (length text) 7 && is_numeral text
    then within_limit (digits_value 10 text)
    else None

-- the most events
abbrev pub events_limit : ℕ
events_limit = 10_000

-- a number of events that is at most their limit
abbrev pub within_events : ℕ → Option ℕ
within_events count = if nat_le count events_limit then Some count else None

-- the number of events of a text, which is from 1 to their limit
abbrev pub events_of : List ℕ → Option ℕ
events_of text = option_and_then within_events (count_of text)
