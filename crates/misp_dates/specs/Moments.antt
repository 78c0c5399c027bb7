-- The numbers of days, and the texts of moments: which name one, and how each is written.
use Rattle.std.specs.Prelude.{ℕ, zero, suc, ◌+◌, ◌-◌, ◌*◌, ◌<◌, ◌/◌, ◌%◌, ◌==◌, not, ◌&&◌, nat_le, nat_lt, if◌then◌else◌, List, [], ◌∷◌, ◌++◌, length, take, drop, get_or, replicate, position, codes, Option, Some, None, option_map, option_and_then}
use Rattle.std.specs.Char.{is_ascii_digit}
use Rattle.misp_dates.specs.declared.clock.Zone.{Zone}
use Rattle.misp_dates.specs.declared.day.Day.{Day}
use Rattle.misp_dates.specs.declared.moment.TheConstants.{LAST_MICROSECOND}
use Rattle.misp_dates.specs.Dates.{is_leap_year, days_in_month, is_day, nth_day, are_digits, two_digits, day_in, in_two_digits, date_text}

infixl 10 ◌>>=◌
abbrev ◌>>=◌ : {A B : Type 0} → Option A → (A → Option B) → Option B
o >>= f = option_and_then f o

-- ---- numbers of days

abbrev pub days_in_year : ℕ → ℕ
days_in_year year = if is_leap_year year then 366 else 365

-- the days of the first so many years, from the year 0 on
unfoldable pub days_of_years : ℕ → ℕ
days_of_years zero = 0
days_of_years (suc years) = days_of_years years + days_in_year years

-- the days of the first so many months of a year
unfoldable pub days_of_months : ℕ → ℕ → ℕ
days_of_months year zero = 0
days_of_months year (suc months) = days_of_months year months + days_in_month year (suc months)

-- how many days a day is after the first of January of the year 0
abbrev pub day_number : Day → ℕ
day_number d = days_of_years d.year + days_of_months d.year (d.month - 1) + (d.day - 1)

-- ---- times of day

-- the minutes since midnight that `hh:mm` writes, up to `23:59`
abbrev pub minutes_in : List ℕ → Option ℕ
minutes_in (h1 ∷ h2 ∷ colon ∷ m1 ∷ m2 ∷ []) =
    if (are_digits h1 h2 && (colon == 58) && are_digits m1 m2
    && nat_lt (two_digits h1 h2) 24 && nat_lt (two_digits m1 m2) 60)
    then Some (60 * two_digits h1 h2 + two_digits m1 m2) else None
minutes_in text = None

-- the seconds that `:ss` writes, up to `:59`
abbrev pub seconds_in : List ℕ → Option ℕ
seconds_in (colon ∷ s1 ∷ s2 ∷ []) =
    if ((colon == 58) && are_digits s1 s2 && nat_lt (two_digits s1 s2) 60)
    then Some (two_digits s1 s2) else None
seconds_in text = None

-- the seconds since midnight that `hh:mm:ss` writes
unfoldable pub clock_in : List ℕ → Option ℕ
clock_in text = do
  minutes ← minutes_in (take 5 text)
  seconds ← seconds_in (drop 5 text)
  Some (60 * minutes + seconds)

-- the microseconds that six digits after a point write
abbrev pub six_digits : List ℕ → Option ℕ
six_digits (a ∷ b ∷ c ∷ d ∷ e ∷ f ∷ []) =
    if (are_digits a b && are_digits c d && are_digits e f)
    then Some (10000 * two_digits a b + 100 * two_digits c d + two_digits e f) else None
six_digits text = None

-- those that one to six digits write: the digits that are left out are zeros
unfoldable pub fraction_in : List ℕ → Option ℕ
fraction_in digits =
    if (nat_lt 0 (length digits) && nat_le (length digits) 6)
    then six_digits (digits ++ replicate (6 - length digits) 48) else None

-- ---- zones

-- its clocks are so many minutes ahead of UTC
abbrev pub ahead_by : ℕ → Zone
ahead_by minutes = record { ahead = 60 * minutes; behind = 0 }

-- its clocks are so many minutes behind UTC
abbrev pub behind_by : ℕ → Zone
behind_by minutes = record { ahead = 0; behind = 60 * minutes }

-- it is less than a day from UTC
abbrev pub IsNear : Zone → Type 0
IsNear zone = (zone.ahead < 86400) × (zone.behind < 86400)

-- the zone that `Z`, `+hh:mm` or `-hh:mm` writes
unfoldable pub zone_in : List ℕ → Option Zone
zone_in [] = None
zone_in (mark ∷ []) = if mark == 90 then Some (ahead_by 0) else None
zone_in (mark ∷ b ∷ bs) =
    if mark == 43 then option_map ahead_by (minutes_in (b ∷ bs))
    else (if mark == 45 then option_map behind_by (minutes_in (b ∷ bs)) else None)

-- ---- the texts that name a moment

-- the seconds from the beginning of the year 0 to `YYYY-MM-DDThh:mm:ss`, of a day of the calendar
unfoldable pub local_in : List ℕ → Option ℕ
local_in text = do
  day ← day_in (take 10 text)
  clock ← clock_in (drop 11 text)
  if ((get_or text 10 0 == 84) && is_day day) then Some (86400 * day_number day + clock) else None

-- less than a second, and a zone
abbrev pub IsRest : ℕ × Zone → Type 0
IsRest rest = (rest.0 < 1000000) × IsNear rest.1

-- the microseconds of a fraction, and the zone after its digits
unfoldable pub after_point : List ℕ → Option (ℕ × Zone)
after_point text = do
  place ← position (λ byte. not (is_ascii_digit byte)) text
  microseconds ← fraction_in (take place text)
  zone ← zone_in (drop place text)
  Some (microseconds, zone)

-- a point with a fraction or neither, and then a zone
unfoldable pub after_seconds : List ℕ → Option (ℕ × Zone)
after_seconds [] = None
after_seconds (mark ∷ rest) =
    if mark == 46 then after_point rest
    else option_map (λ zone. (0, zone)) (zone_in (mark ∷ rest))

-- the seconds from the beginning of the year 0 to that of 1970
abbrev pub seconds_to_1970 : ℕ
seconds_to_1970 = 62167219200

-- so many microseconds after the beginning of 1970, up to the end of the year 9999
abbrev pub in_range : ℕ → Option ℕ
in_range n = if nat_le n LAST_MICROSECOND then Some n else None

-- the moment at which clocks of the zone show this time, if it is not before 1970
unfoldable pub moment_at : ℕ → ℕ → Zone → Option ℕ
moment_at local microseconds zone =
    if nat_le (seconds_to_1970 + zone.ahead) (local + zone.behind)
    then in_range (1000000 * (local + zone.behind - (seconds_to_1970 + zone.ahead)) + microseconds)
    else None

-- `YYYY-MM-DDThh:mm:ss`, a fraction of 1 to 6 digits after a point or none, and a zone
unfoldable pub read_moment : List ℕ → Option ℕ
read_moment text =
    if nat_lt (length text) 19 then None
    else (do
      local ← local_in (take 19 text)
      rest ← after_seconds (drop 19 text)
      moment_at local rest.0 rest.1)

-- ---- the text of a moment

-- the time of day as `hh:mm:ss`
abbrev pub clock_text : ℕ → List ℕ
clock_text seconds =
    in_two_digits (seconds / 3600)
    ++ codes ":" ++ in_two_digits (seconds / 60 % 60)
    ++ codes ":" ++ in_two_digits (seconds % 60)

-- a number below a million in six digits
abbrev pub fraction_text : ℕ → List ℕ
fraction_text microseconds =
    in_two_digits (microseconds / 10000)
    ++ in_two_digits (microseconds / 100 % 100)
    ++ in_two_digits (microseconds % 100)

-- the moment in UTC, as `YYYY-MM-DDThh:mm:ss.ffffff+00:00`
unfoldable pub moment_text : ℕ → List ℕ
moment_text n =
    date_text (nth_day (n / 86400000000))
    ++ codes "T" ++ clock_text (n / 1000000 % 86400)
    ++ codes "." ++ fraction_text (n % 1000000) ++ codes "+00:00"
