-- Dates that the calendar gives, and moments, so that a wrong rule in the specs does not check.
use Rattle.std.proofs.Common.{◌≡◌, true, false, [], ◌∷◌, map, refl, sym, pos, rules, codes, ◌*◌, Some}
use Rattle.std.specs.Option.{is_none}
use Rattle.std.specs.List.{list_all}
use Rattle.jiff.specs.Types.{Date}
use Rattle.jiff.proofs.Family.{days_from_civil-max}
use Rattle.misp_dates.specs.Dates.{is_date, last_second, date_of, nth_day}
use Rattle.misp_dates.specs.declared.day.Day.{Day}
use Rattle.misp_dates.specs.Moments.{days_of_years, days_of_months, day_number, clock_in, fraction_in, zone_in, local_in, after_point, after_seconds, seconds_to_1970, moment_at, read_moment, moment_text}
use Rattle.misp_dates.proofs.Days.{jiff_text-nth_day}

-- 2000 and 2024 are leap years, and 1900 and 2023 are none
pub known_dates :
    map is_date
    (codes "2000-02-29" ∷ codes "2024-02-29" ∷ codes "0000-02-29" ∷ codes "1900-02-29" ∷ codes "2023-02-29" ∷ codes "2023-12-31" ∷ codes "2023-11-31" ∷ codes "2023-00-01"
    ∷ codes "2023-13-01" ∷ codes "2023-01-00" ∷ codes "2023-1-01" ∷ codes "2023-01-01T" ∷ codes "2023/01/01" ∷ [])
    ≡ true ∷ true ∷ true ∷ false ∷ false ∷ true ∷ false ∷ false ∷ false ∷ false ∷ false ∷ false ∷ false ∷ []
unfolding is_date
known_dates = refl

pub known_moments : (date_of 0 ≡ codes "1970-01-01") × (date_of 86_399 ≡ codes "1970-01-01") × (date_of 86_400 ≡ codes "1970-01-02")
    × (date_of 951_782_400 ≡ codes "2000-02-29") × (date_of 951_868_800 ≡ codes "2000-03-01") × (date_of 1_700_000_000 ≡ codes "2023-11-14")
unfolding date_of nth_day
known_moments = (refl, refl, refl, refl, refl, refl)

last_day : Date
last_day = record { year = pos 9999; month = 12; day = 31; year_in = search rules; month_in = search rules; day_in = search rules }

-- the date of the greatest moment
pub last_date : date_of last_second ≡ codes "9999-12-31"
unfolding date_of last_day
last_date = sym (jiff_text-nth_day 2_932_896 last_day days_from_civil-max)

-- ---- moments

abbrev pub first_of_1970 : Day
first_of_1970 = record { year = 1970; month = 1; day = 1 }

-- the days of years, with the leap years before 1970
pub known_numbers : (86_400 * day_number first_of_1970 ≡ seconds_to_1970) × (days_of_years 4 ≡ 1461) × (days_of_years 400 ≡ 146_097)
    × (map (days_of_months 2023) (0 ∷ 1 ∷ 2 ∷ 12 ∷ []) ≡ 0 ∷ 31 ∷ 59 ∷ 365 ∷ []) × (map (days_of_months 2024) (2 ∷ 12 ∷ []) ≡ 60 ∷ 366 ∷ [])
unfolding days_of_years days_of_months
known_numbers = (refl, refl, refl, refl, refl)

-- zones and fractions, and the ends of the range
pub known_readings :
    map read_moment
    (codes "1970-01-01T00:00:00Z" ∷ codes "2023-11-15T00:13:20.5+02:00" ∷ codes "2023-11-14T22:13:20.123456-00:00" ∷ codes "1969-12-31T23:30:00-01:00"
    ∷ codes "9999-12-31T23:59:59.999999Z" ∷ [])
    ≡ Some 0 ∷ Some 1_700_000_000_500_000 ∷ Some 1_700_000_000_123_456 ∷ Some 1_800_000_000 ∷ Some 253_402_300_799_999_999 ∷ []
unfolding read_moment local_in clock_in after_seconds after_point fraction_in zone_in moment_at days_of_years days_of_months
known_readings = refl

-- no zone, no time, and no such day, time, fraction or zone; before 1970, and after 9999
pub known_refusals :
    list_all (λ text. is_none (read_moment text))
    (codes "2023-11-14T22:13:20" ∷ codes "2023-11-14" ∷ codes "2023-02-29T00:00:00Z" ∷ codes "1900-02-29T00:00:00Z" ∷ codes "2023-11-14T24:00:00Z"
    ∷ codes "2023-11-14T23:60:00Z" ∷ codes "2023-11-14T23:59:60Z" ∷ codes "2023-11-14t22:13:20Z" ∷ codes "2023-11-14T22:13:20z" ∷ codes "2023-11-14 22:13:20Z"
    ∷ codes "2023-11-14T22:13:20.Z" ∷ codes "2023-11-14T22:13:20.1234567Z" ∷ codes "2023-11-14T22:13:20+24:00" ∷ codes "2023-11-14T22:13:20+0200"
    ∷ codes "2023-11-14T22:13:20Z " ∷ codes "1970-01-01T00:30:00+01:00" ∷ codes "9999-12-31T23:30:00-01:00" ∷ [])
    ≡ true
unfolding read_moment local_in clock_in after_seconds after_point fraction_in zone_in moment_at days_of_years days_of_months
known_refusals = refl

pub known_texts : (moment_text 0 ≡ codes "1970-01-01T00:00:00.000000+00:00")
    × (moment_text 1_700_000_000_500_000 ≡ codes "2023-11-14T22:13:20.500000+00:00")
unfolding moment_text nth_day
known_texts = (refl, refl)
