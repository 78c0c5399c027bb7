-- The days of the calendar, their texts, and the day of a moment.
use Rattle.std.specs.Prelude.{ℕ, zero, suc, ◌+◌, ◌-◌, ◌*◌, ◌/◌, ◌%◌, ◌==◌, Bool, false, not, ◌&&◌, ◌||◌, nat_le, nat_lt, if◌then◌else◌, List, [], ◌∷◌, ◌++◌, codes, Option, Some, None, option_map, unwrap_or}
use Rattle.std.specs.Char.{is_ascii_digit}
use Rattle.misp_dates.specs.declared.day.Day.{Day}

-- ---- days

-- every fourth year, but of the centuries only every fourth
abbrev pub is_leap_year : ℕ → Bool
is_leap_year year = (year % 4 == 0) && (not (year % 100 == 0) || (year % 400 == 0))

-- thirty days have April, June, September and November
abbrev pub days_in_month : ℕ → ℕ → ℕ
days_in_month year month =
    if month == 2 then (if is_leap_year year then 29 else 28)
    else (if (month == 4) || (month == 6) || (month == 9) || (month == 11) then 30 else 31)

-- the calendar has this day
abbrev pub is_day : Day → Bool
is_day d =
    nat_le 1 d.month && nat_le d.month 12
    && nat_le 1 d.day && nat_le d.day (days_in_month d.year d.month)

-- the next day of its month, or the first of the next month, or that of the next year
abbrev pub day_after : Day → Day
day_after d =
    if nat_lt d.day (days_in_month d.year d.month)
    then record { year = d.year; month = d.month; day = d.day + 1 }
    else (if nat_lt d.month 12 then record { year = d.year; month = d.month + 1; day = 1 }
    else record { year = d.year + 1; month = 1; day = 1 })

-- the day so many days after 1970-01-01
unfoldable pub nth_day : ℕ → Day
nth_day zero = record { year = 1970; month = 1; day = 1 }
nth_day (suc n) = day_after (nth_day n)

-- the number of the last day of the year 9999
abbrev pub last_day : ℕ
last_day = 2932896

-- ---- texts

-- two decimal digits
abbrev pub are_digits : ℕ → ℕ → Bool
are_digits tens ones = is_ascii_digit tens && is_ascii_digit ones

-- the number that two digits write
abbrev pub two_digits : ℕ → ℕ → ℕ
two_digits tens ones = 10 * (tens - 48) + (ones - 48)

-- the day that four, two and two digits write
abbrev pub day_of : ℕ → ℕ → ℕ → ℕ → ℕ → ℕ → ℕ → ℕ → Day
day_of y1 y2 y3 y4 m1 m2 d1 d2 =
    record {
      year = 100 * two_digits y1 y2 + two_digits y3 y4;
      month = two_digits m1 m2;
      day = two_digits d1 d2;
    }

-- the day that a text of the form `YYYY-MM-DD` names, whether or not the calendar has it
abbrev pub day_in : List ℕ → Option Day
day_in (y1 ∷ y2 ∷ y3 ∷ y4 ∷ h1 ∷ m1 ∷ m2 ∷ h2 ∷ d1 ∷ d2 ∷ []) =
    if (are_digits y1 y2 && are_digits y3 y4 && (h1 == 45)
    && are_digits m1 m2 && (h2 == 45) && are_digits d1 d2)
    then Some (day_of y1 y2 y3 y4 m1 m2 d1 d2) else None
day_in text = None

-- a text of the form `YYYY-MM-DD` that names a day of the calendar
unfoldable pub is_date : List ℕ → Bool
is_date text = unwrap_or (option_map is_day (day_in text)) false

-- a number below 100 in two digits
abbrev pub in_two_digits : ℕ → List ℕ
in_two_digits n = (48 + n / 10) ∷ (48 + n % 10) ∷ []

-- a day as `YYYY-MM-DD`
abbrev pub date_text : Day → List ℕ
date_text d =
    in_two_digits (d.year / 100) ++ in_two_digits (d.year % 100)
    ++ codes "-" ++ in_two_digits d.month
    ++ codes "-" ++ in_two_digits d.day

-- ---- moments

-- the last second of the year 9999, counted from 1970
abbrev pub last_second : ℕ
last_second = 253402300799

-- the date of a moment in UTC, of which each day has 86400 seconds
unfoldable pub date_of : ℕ → List ℕ
date_of now = date_text (nth_day (now / 86400))
