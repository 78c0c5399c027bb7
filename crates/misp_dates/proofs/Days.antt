-- The days after 1970-01-01, as jiff counts them.
use Rattle.std.proofs.Common.{◌≡◌, ℕ, zero, suc, ◌+◌, ◌≤◌, ◌<◌, nat_lt, refl, sym, ◌∙◌, pos, arith, inl, inr}
use Rattle.std.proofs.lemmas.Bool.{cases_Bool, cases_lt}
use Rattle.std.proofs.lemmas.Bool.Decides.{nat_tests}
use Rattle.jiff.specs.Types.{Date}
use Rattle.jiff.specs.Words.{epoch_day, date_text as jiff_text}
use Rattle.jiff.proofs.SpanFacts.{signed_arith}
use Rattle.jiff.proofs.Family.{epoch_day_range, epoch_day_injective, days_from_civil-day, days_from_civil-next_month, days_from_civil-next_year, days_from_civil-max}
use Rattle.jiff_core.specs.Calendar.{days_from_civil}
use Rattle.jiff_core.proofs.StandardFacts.{known_days}
use Rattle.misp_dates.specs.declared.day.Day.{Day}
use Rattle.misp_dates.specs.Dates.{days_in_month, day_after, nth_day, date_text}

-- a day of the calendar, before the year 10000, of this number
pub record IsNth (n : ℕ) (d : Day) : Type 0 where
  pub year : d.year ≤ 9999
  pub month : (1 ≤ d.month) × (d.month ≤ 12)
  pub day : (1 ≤ d.day) × (d.day ≤ days_in_month d.year d.month)
  pub place : days_from_civil (pos d.year) d.month d.day ≡ pos n

some_days : (y m : ℕ) → 1 ≤ days_in_month y m
some_days y m = grind arith

next_day : (n y m d : ℕ) → IsNth n (record { year = y; month = m; day = d }) → d < days_in_month y m
    → IsNth (suc n) (record { year = y; month = m; day = d + 1 })
next_day n y m d is more = record {
  year = is.year;
  month = is.month;
  day = omega arith;
  place = omega (arith, signed_arith, is.place, days_from_civil-day (pos y) m d (d + 1) is.day.0 (omega arith));
}

next_month : (n y m d : ℕ) → IsNth n (record { year = y; month = m; day = d }) → days_in_month y m ≤ d → m < 12
    → IsNth (suc n) (record { year = y; month = m + 1; day = 1 })
next_month n y m d is last more = record {
  year = is.year;
  month = omega (arith, is.month);
  day = (omega arith, some_days y (m + 1));
  place = omega (arith, signed_arith, is.place, days_from_civil-next_month (pos y) m d is.month.0 (omega (arith, is.day)));
}

pub december : (y m d : ℕ) → m ≡ 12 → days_in_month y m ≤ d → d ≤ days_in_month y m → d ≡ 31
december y m d is last within = grind arith

before_the_last : (n y : ℕ) → y ≤ 9999 → n < 2_932_896 → days_from_civil (pos y) 12 31 ≡ pos n → y < 9999
before_the_last n y within few place =
    elim (cases_lt y 9999) [
      | inl before ↦ before
      | inr after ↦
          let e : y ≡ 9999 = omega arith in
          absurd (omega (arith, signed_arith, rw e at place, days_from_civil-max))
    ]

next_year : (n y m d : ℕ) → IsNth n (record { year = y; month = m; day = d }) → days_in_month y m ≤ d → 12 ≤ m → n < 2_932_896
    → IsNth (suc n) (record { year = y + 1; month = 1; day = 1 })
next_year n y m d is last late few =
    let twelve : m ≡ 12 = omega (arith, is.month) in
    let end : d ≡ 31 = december y m d twelve last is.day.1 in
    let place : days_from_civil (pos y) 12 31 ≡ pos n = rw (twelve, end) at is.place in
    let before : y < 9999 = before_the_last n y is.year few place in
    record {
      year = omega arith;
      month = (omega arith, omega arith);
      day = (omega arith, some_days (y + 1) 1);
      place = omega (arith, signed_arith, place, days_from_civil-next_year (pos y) (pos (y + 1)) (omega (arith, signed_arith)) (omega (arith, signed_arith)));
    }

next : (n : ℕ) (d : Day) → IsNth n d → n < 2_932_896 → IsNth (suc n) (day_after d)
next n d is few =
    elim (cases_Bool (nat_lt d.day (days_in_month d.year d.month))) [
      | inl within ↦ rw within (next_day n d.year d.month d.day is (grind (arith, nat_tests)))
      | inr last ↦ elim (cases_Bool (nat_lt d.month 12)) [
        | inl more ↦ rw (last, more) (next_month n d.year d.month d.day is (grind (arith, nat_tests)) (grind (arith, nat_tests)))
        | inr late ↦ rw (last, late) (next_year n d.year d.month d.day is (grind (arith, nat_tests)) (grind (arith, nat_tests)) few)
      ]
    ]

-- each day up to the last of the year 9999 is of the calendar
pub nth_day-is : (n : ℕ) → n ≤ 2_932_896 → IsNth n (nth_day n)
unfolding nth_day
nth_day-is zero h = record { year = omega arith; month = (omega arith, omega arith); day = (omega arith, omega arith); place = known_days.0 }
nth_day-is (suc n) h = next n (nth_day n) (nth_day-is n (omega arith)) (omega arith)

-- as jiff has it
as_jiff : (n : ℕ) (d : Day) → IsNth n d → Date
as_jiff n d is = record { year = pos d.year; month = d.month; day = d.day; year_in = omega (arith, signed_arith, is.year); month_in = is.month; day_in = is.day }

same_parts : (n : ℕ) (d : Day) → IsNth n d → (e : Date) → epoch_day e ≡ pos n → (e.year ≡ pos d.year) × (e.month ≡ d.month) × (e.day ≡ d.day)
unfolding as_jiff
same_parts n d is e place = epoch_day_injective e (as_jiff n d is) (place ∙ sym is.place)

same_text : (n : ℕ) (d : Day) → IsNth n d → (e : Date) → epoch_day e ≡ pos n → jiff_text e ≡ date_text d
unfolding as_jiff
same_text n d is e place =
    let same = epoch_day_injective e (as_jiff n d is) (place ∙ sym is.place) in
    rw (same.0, same.1, same.2) refl

-- the day of that number is written so
pub jiff_text-nth_day : (n : ℕ) (e : Date) → epoch_day e ≡ pos n → jiff_text e ≡ date_text (nth_day n)
jiff_text-nth_day n e place =
    let range : n ≤ 2_932_896 = omega (arith, signed_arith, rw place at (epoch_day_range e)) in
    same_text n (nth_day n) (nth_day-is n range) e place

-- and has this year, this month and this day
pub parts-nth_day : (n : ℕ) (e : Date) → n ≤ 2_932_896 → epoch_day e ≡ pos n
    → (e.year ≡ pos (nth_day n).year) × (e.month ≡ (nth_day n).month) × (e.day ≡ (nth_day n).day)
parts-nth_day n e range place = same_parts n (nth_day n) (nth_day-is n range) e place

small_days : (y m : ℕ) → days_in_month y m ≤ 31
small_days y m = grind arith

small_nth : (n : ℕ) (d : Day) → IsNth n d → (d.year ≤ 9999) × (d.month ≤ 12) × (d.day ≤ 31)
small_nth n d is = (is.year, is.month.1, omega (arith, is.day.1, small_days d.year d.month))

pub small-nth_day : (n : ℕ) → n ≤ 2_932_896 → ((nth_day n).year ≤ 9999) × ((nth_day n).month ≤ 12) × ((nth_day n).day ≤ 31)
small-nth_day n range = small_nth n (nth_day n) (nth_day-is n range)
