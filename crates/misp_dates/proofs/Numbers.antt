-- Numbers of days.
use Rattle.std.proofs.Common.{◌≡◌, ℕ, zero, suc, ◌+◌, ◌-◌, ◌*◌, ◌/◌, ◌≤◌, ◌<◌, true, false, nat_lt, slice_index_or, [], ◌∷◌, refl, ◌∙◌, arith, inl, inr}
use Rattle.std.proofs.lemmas.Bool.{cases_Bool}
use Rattle.std.proofs.lemmas.Bool.Decides.{nat_tests}
use Rattle.misp_dates.specs.declared.day.Day.{Day}
use Rattle.misp_dates.specs.Dates.{is_leap_year, days_in_month, day_after, nth_day}
use Rattle.misp_dates.specs.Moments.{days_in_year, days_of_years, days_of_months, day_number}
use Rattle.misp_dates.proofs.Days.{IsNth, nth_day-is, december}

-- ---- years

year_more : (y n : ℕ) → n + (y + 99) / 100 ≡ 365 * y + (y + 3) / 4 + (y + 399) / 400
    → n + days_in_year y + (suc y + 99) / 100 ≡ 365 * suc y + (suc y + 3) / 4 + (suc y + 399) / 400
year_more y n e = grind (arith, nat_tests)

-- with a leap day for each fourth year, but of the centuries only for each fourth
pub years_closed : (y : ℕ) → days_of_years y + (y + 99) / 100 ≡ 365 * y + (y + 3) / 4 + (y + 399) / 400
unfolding days_of_years
years_closed zero = refl
years_closed (suc y) = year_more y (days_of_years y) (years_closed y)

-- ---- months

-- the days before each month of a year that is no leap year
abbrev pub days_before : ℕ → ℕ
days_before months = slice_index_or {A = ℕ} (0 ∷ 31 ∷ 59 ∷ 90 ∷ 120 ∷ 151 ∷ 181 ∷ 212 ∷ 243 ∷ 273 ∷ 304 ∷ 334 ∷ []) months 0

pub leap_month : (y m : ℕ) → 1 < m → m < 12 → is_leap_year y ≡ true → days_before m + 1 ≡ days_of_months y m
unfolding days_of_months
leap_month y zero more less leap = absurd (omega arith)
leap_month y (suc zero) more less leap = absurd (omega arith)
leap_month y (suc (suc zero)) more less leap = rw leap refl
leap_month y (suc (suc (suc zero))) more less leap = rw leap refl
leap_month y (suc (suc (suc (suc zero)))) more less leap = rw leap refl
leap_month y (suc (suc (suc (suc (suc zero))))) more less leap = rw leap refl
leap_month y (suc (suc (suc (suc (suc (suc zero)))))) more less leap = rw leap refl
leap_month y (suc (suc (suc (suc (suc (suc (suc zero))))))) more less leap = rw leap refl
leap_month y (suc (suc (suc (suc (suc (suc (suc (suc zero)))))))) more less leap = rw leap refl
leap_month y (suc (suc (suc (suc (suc (suc (suc (suc (suc zero))))))))) more less leap = rw leap refl
leap_month y (suc (suc (suc (suc (suc (suc (suc (suc (suc (suc zero)))))))))) more less leap = rw leap refl
leap_month y (suc (suc (suc (suc (suc (suc (suc (suc (suc (suc (suc zero))))))))))) more less leap = rw leap refl
leap_month y (suc (suc (suc (suc (suc (suc (suc (suc (suc (suc (suc (suc m)))))))))))) more less leap = absurd (omega arith)

pub other_month : (y m : ℕ) → m < 12 → is_leap_year y ≡ false → days_before m ≡ days_of_months y m
unfolding days_of_months
other_month y zero less other = refl
other_month y (suc zero) less other = refl
other_month y (suc (suc zero)) less other = rw other refl
other_month y (suc (suc (suc zero))) less other = rw other refl
other_month y (suc (suc (suc (suc zero)))) less other = rw other refl
other_month y (suc (suc (suc (suc (suc zero))))) less other = rw other refl
other_month y (suc (suc (suc (suc (suc (suc zero)))))) less other = rw other refl
other_month y (suc (suc (suc (suc (suc (suc (suc zero))))))) less other = rw other refl
other_month y (suc (suc (suc (suc (suc (suc (suc (suc zero)))))))) less other = rw other refl
other_month y (suc (suc (suc (suc (suc (suc (suc (suc (suc zero))))))))) less other = rw other refl
other_month y (suc (suc (suc (suc (suc (suc (suc (suc (suc (suc zero)))))))))) less other = rw other refl
other_month y (suc (suc (suc (suc (suc (suc (suc (suc (suc (suc (suc zero))))))))))) less other = rw other refl
other_month y (suc (suc (suc (suc (suc (suc (suc (suc (suc (suc (suc (suc m)))))))))))) less other = absurd (omega arith)

pub first_month : (y m : ℕ) → m ≤ 1 → days_before m ≡ days_of_months y m
unfolding days_of_months
first_month y zero less = refl
first_month y (suc zero) less = refl
first_month y (suc (suc m)) less = absurd (omega arith)

-- ---- the next day

days_to_december : (y : ℕ) → days_of_months y (12 - 1) + 31 ≡ days_in_year y
unfolding days_of_months
days_to_december y = elim (cases_Bool (is_leap_year y)) [ inl leap ↦ rw leap refl | inr other ↦ rw other refl ]

next_year : (y : ℕ) → days_of_years (y + 1) ≡ days_of_years y + days_in_year y
unfolding days_of_years
next_year y =
    let e : y + 1 ≡ suc y = omega arith in
    rw e refl

no_month : (y : ℕ) → days_of_months y 0 ≡ 0
unfolding days_of_months
no_month y = refl

next_month : (y m d : ℕ) → 1 ≤ m → days_of_months y (m + 1 - 1) ≡ days_of_months y (m - 1) + days_in_month y m
unfolding days_of_months
next_month y zero d least = absurd (omega arith)
next_month y (suc m) d least =
    let after : suc m + 1 - 1 ≡ suc m = omega arith in
    let before : suc m - 1 ≡ m = omega arith in
    rw (after, before) refl

-- each day of the calendar is followed by the day of the next number
number_next : (d : Day) → 1 ≤ d.day → d.day ≤ days_in_month d.year d.month → 1 ≤ d.month → d.month ≤ 12
    → day_number (day_after d) ≡ day_number d + 1
number_next d first last least most =
    elim (cases_Bool (nat_lt d.day (days_in_month d.year d.month))) [
      | inl within ↦ rw within (omega (arith, first))
      | inr end ↦ elim (cases_Bool (nat_lt d.month 12)) [
        | inl more ↦
            let full : d.day ≡ days_in_month d.year d.month = grind (arith, nat_tests) in
            rw (end, more) (omega (arith, full, first, next_month d.year d.month d.day least))
        | inr late ↦
            let twelve : d.month ≡ 12 = grind (arith, nat_tests) in
            let full : d.day ≡ 31 = december d.year d.month d.day twelve (grind (arith, nat_tests)) last in
            rw (end, late, twelve, full) (omega (arith, days_to_december d.year, next_year d.year, no_month (d.year + 1)))
      ]
    ]

known_first : day_number (record { year = 1970; month = 1; day = 1 }) ≡ 719_528
unfolding days_of_months
known_first = omega (arith, years_closed 1970)

number_of_next : (n : ℕ) (d : Day) → IsNth n d → day_number d ≡ 719_528 + n → day_number (day_after d) ≡ 719_528 + suc n
number_of_next n d is e = number_next d is.day.0 is.day.1 is.month.0 is.month.1 ∙ omega (arith, e)

-- the day so many days after the first of 1970 has that number, counted from the year 0
pub number-nth_day : (n : ℕ) → n ≤ 2_932_896 → day_number (nth_day n) ≡ 719_528 + n
unfolding nth_day
number-nth_day zero h = known_first
number-nth_day (suc n) h = number_of_next n (nth_day n) (nth_day-is n (omega arith)) (number-nth_day n (omega arith))
