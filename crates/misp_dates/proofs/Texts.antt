-- What is written is read again.
use Rattle.std.proofs.Common.{◌≡◌, ℕ, ◌+◌, ◌*◌, ◌/◌, ◌%◌, ◌≤◌, ◌<◌, true, refl, arith, Some}
use Rattle.std.proofs.lemmas.Bool.Decides.{nat_tests}
use Rattle.misp_dates.specs.declared.day.Day.{Day}
use Rattle.misp_dates.specs.Dates.{days_in_month, are_digits, two_digits, day_in, is_day, is_date, nth_day, date_text, last_second, date_of}
use Rattle.misp_dates.proofs.Days.{IsNth, nth_day-is}

pub two_digits-back : (n : ℕ) → two_digits (48 + n / 10) (48 + n % 10) ≡ n
two_digits-back n = omega arith

pub are_digits-written : (n : ℕ) → n < 100 → are_digits (48 + n / 10) (48 + n % 10) ≡ true
are_digits-written n h = grind (arith, nat_tests)

-- a day whose numbers have so few digits is read from its text
pub read_back : (y m d : ℕ) → y < 10_000 → m < 100 → d < 100
    → day_in (date_text (record { year = y; month = m; day = d })) ≡ Some (record { year = y; month = m; day = d })
read_back y m d year month day =
    let a = are_digits-written (y / 100) (omega arith) in
    let b = are_digits-written (y % 100) (omega arith) in
    let c = are_digits-written m month in
    let e = are_digits-written d day in
    let years : 100 * two_digits (48 + y / 100 / 10) (48 + y / 100 % 10) + two_digits (48 + y % 100 / 10) (48 + y % 100 % 10) ≡ y = omega arith in
    rw (a, b, c, e, years, two_digits-back m, two_digits-back d) refl

pub days_of_months : (y m d : ℕ) → d ≤ days_in_month y m → d < 100
days_of_months y m d h = grind arith

pub is_day-nth : (n : ℕ) (d : Day) → IsNth n d → is_day d ≡ true
is_day-nth n d is = grind (arith, nat_tests, is.month, is.day)

is_date-written : (n : ℕ) (d : Day) → IsNth n d → is_date (date_text d) ≡ true
unfolding is_date
is_date-written n d is =
    let small = days_of_months d.year d.month d.day is.day.1 in
    rw (read_back d.year d.month d.day (omega (arith, is.year)) (omega (arith, is.month)) small) (is_day-nth n d is)

-- the date of a moment is a date
pub is_date-date_of : (now : ℕ) → now ≤ last_second → is_date (date_of now) ≡ true
unfolding date_of
is_date-date_of now h = is_date-written (now / 86400) (nth_day (now / 86400)) (nth_day-is (now / 86400) (omega arith))
