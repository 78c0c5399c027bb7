-- What is written of a moment is read again.
use Rattle.std.proofs.Common.{◌≡◌, ℕ, ◌+◌, ◌-◌, ◌*◌, ◌/◌, ◌%◌, ◌≤◌, ◌<◌, true, not, ◌&&◌, nat_lt, nat_le, List, [], ◌∷◌, ◌++◌, length, drop, replicate, position, codes, Option, Some, refl, arith}
use Rattle.std.specs.Char.{is_ascii_digit}
use Rattle.std.proofs.lemmas.Bool.Decides.{nat_tests}
use Rattle.std.proofs.lemmas.List.{drop-replicate}
use Rattle.misp_dates.specs.declared.day.Day.{Day}
use Rattle.misp_dates.specs.Dates.{is_day, nth_day, date_text}
use Rattle.misp_dates.specs.Moments.{day_number, clock_in, six_digits, fraction_in, ahead_by, zone_in, local_in, after_point, after_seconds, moment_at, read_moment, clock_text, fraction_text, moment_text}
use Rattle.misp_dates.proofs.Days.{IsNth, nth_day-is}
use Rattle.misp_dates.proofs.Numbers.{number-nth_day}
use Rattle.misp_dates.proofs.Texts.{two_digits-back, are_digits-written, read_back, is_day-nth, days_of_months}

-- ---- fractions

-- six digits in a row
pub padded : (digits six : List ℕ) (read : Option ℕ) → six ≡ digits
    → read ≡ six_digits (six ++ drop {A = ℕ} (length digits) (48 ∷ 48 ∷ 48 ∷ 48 ∷ 48 ∷ 48 ∷ [])) → 0 < length digits → length digits ≤ 6
    → read ≡ fraction_in digits
unfolding fraction_in
padded digits six read same e some few =
    let tests : (nat_lt 0 (length digits) && nat_le (length digits) 6) ≡ true = grind (arith, nat_tests) in
    let zeros : drop {A = ℕ} (length digits) (48 ∷ 48 ∷ 48 ∷ 48 ∷ 48 ∷ 48 ∷ []) ≡ replicate (6 - length digits) 48 = drop-replicate (length digits) 6 48 in
    rw tests (rw (same, zeros) at e)

hundreds : (f : ℕ) → f < 1_000_000 → (f / 10_000 < 100) × (10_000 * (f / 10_000) + 100 * (f / 100 % 100) + f % 100 ≡ f)
hundreds f few = (omega arith, omega arith)

fraction_back : (f : ℕ) → f < 1_000_000 → fraction_in (fraction_text f) ≡ Some f
unfolding fraction_in
fraction_back f few =
    let parts = hundreds f few in
    let a = are_digits-written (f / 10_000) parts.0 in
    let b = are_digits-written (f / 100 % 100) (omega arith) in
    let c = are_digits-written (f % 100) (omega arith) in
    rw (a, b, c, two_digits-back (f / 10_000), two_digits-back (f / 100 % 100), two_digits-back (f % 100), parts.1) refl

is_tens : (n : ℕ) → n < 100 → is_ascii_digit (48 + n / 10) ≡ true
is_tens n h = grind (arith, nat_tests)

is_ones : (n : ℕ) → n < 100 → is_ascii_digit (48 + n % 10) ≡ true
is_ones n h = grind (arith, nat_tests)

place_back : (a b c d e f : ℕ) → is_ascii_digit a ≡ true → is_ascii_digit b ≡ true → is_ascii_digit c ≡ true
    → is_ascii_digit d ≡ true → is_ascii_digit e ≡ true → is_ascii_digit f ≡ true
    → position (λ byte. not (is_ascii_digit byte)) (a ∷ b ∷ c ∷ d ∷ e ∷ f ∷ codes "+00:00") ≡ Some 6
place_back a b c d e f ea eb ec ed ee ef = rw (ea, eb, ec, ed, ee, ef) refl

utc_back : zone_in (codes "+00:00") ≡ Some (ahead_by 0)
unfolding zone_in
utc_back = refl

rest_back : (f : ℕ) → f < 1_000_000 → after_seconds (codes "." ++ fraction_text f ++ codes "+00:00") ≡ Some (f, ahead_by 0)
unfolding after_seconds after_point
rest_back f few =
    let a = f / 10_000 in
    let b = f / 100 % 100 in
    let c = f % 100 in
    let ha : a < 100 = (hundreds f few).0 in
    let hb : b < 100 = omega arith in
    let hc : c < 100 = omega arith in
    let place = place_back (48 + a / 10) (48 + a % 10) (48 + b / 10) (48 + b % 10) (48 + c / 10) (48 + c % 10)
    (is_tens a ha) (is_ones a ha) (is_tens b hb) (is_ones b hb) (is_tens c hc) (is_ones c hc) in
    rw (place, fraction_back f few, utc_back) refl

-- ---- times of day

clock_parts : (s : ℕ) → s < 86_400 → (s / 3600 < 24) × (60 * (60 * (s / 3600) + s / 60 % 60) + s % 60 ≡ s)
clock_parts s few = (omega arith, omega arith)

below : (m n : ℕ) → m < n → nat_lt m n ≡ true
below m n h = grind (arith, nat_tests)

clock_back : (s : ℕ) → s < 86_400 → clock_in (clock_text s) ≡ Some s
unfolding clock_in
clock_back s few =
    let parts = clock_parts s few in
    let a = are_digits-written (s / 3600) (omega (arith, parts.0)) in
    let b = are_digits-written (s / 60 % 60) (omega arith) in
    let c = are_digits-written (s % 60) (omega arith) in
    let h = below (s / 3600) 24 parts.0 in
    let m = below (s / 60 % 60) 60 (omega arith) in
    let n = below (s % 60) 60 (omega arith) in
    rw (a, b, c, two_digits-back (s / 3600), two_digits-back (s / 60 % 60), two_digits-back (s % 60), h, m, n, parts.1) refl

-- ---- moments

local_back : (d : Day) (s : ℕ) → d.year < 10_000 → d.month < 100 → d.day < 100 → is_day d ≡ true → s < 86_400
    → local_in (date_text d ++ codes "T" ++ clock_text s) ≡ Some (86_400 * day_number d + s)
unfolding local_in
local_back d s year month day is few =
    rw (read_back d.year d.month d.day year month day, clock_back s few, is) refl

nth_back : (n : ℕ) (d : Day) → IsNth n d → (s : ℕ) → s < 86_400 → day_number d ≡ 719_528 + n
    → local_in (date_text d ++ codes "T" ++ clock_text s) ≡ Some (86_400 * (719_528 + n) + s)
nth_back n d is s few e =
    let day = days_of_months d.year d.month d.day is.day.1 in
    let back = local_back d s (omega (arith, is.year)) (omega (arith, is.month)) day (is_day-nth n d is) few in
    rw e at back

at_least : (m n : ℕ) → m ≤ n → nat_le m n ≡ true
at_least m n h = grind (arith, nat_tests)

whole : (n : ℕ) → 1_000_000 * (86_400 * (n / 86_400_000_000) + n / 1_000_000 % 86_400) + n % 1_000_000 ≡ n
whole n = omega arith

moment_back : (n : ℕ) → n ≤ 253_402_300_799_999_999
    → moment_at (86_400 * (719_528 + n / 86_400_000_000) + n / 1_000_000 % 86_400) (n % 1_000_000) (ahead_by 0) ≡ Some n
unfolding moment_at
moment_back n most =
    let seconds = 86_400 * (719_528 + n / 86_400_000_000) + n / 1_000_000 % 86_400 in
    let late = at_least 62_167_219_200 (seconds + 0) (omega arith) in
    let same : 1_000_000 * (seconds + 0 - 62_167_219_200) + n % 1_000_000 ≡ n = omega (arith, whole n) in
    rw (late, same, at_least n 253_402_300_799_999_999 most) refl

written_back : (n : ℕ) (d : Day) → IsNth (n / 86_400_000_000) d → day_number d ≡ 719_528 + n / 86_400_000_000
    → n ≤ 253_402_300_799_999_999
    → read_moment
    (date_text d ++ codes "T" ++ clock_text (n / 1_000_000 % 86_400) ++ codes "." ++ fraction_text (n % 1_000_000)
    ++ codes "+00:00")
    ≡ Some n
unfolding read_moment
written_back n d is number most =
    rw (nth_back (n / 86_400_000_000) d is (n / 1_000_000 % 86_400) (omega arith) number, rest_back (n % 1_000_000) (omega arith))
    (moment_back n most)

-- the text of a moment names that moment
pub read_moment-moment_text : (n : ℕ) → n ≤ 253_402_300_799_999_999 → read_moment (moment_text n) ≡ Some n
unfolding moment_text
read_moment-moment_text n most =
    let days : n / 86_400_000_000 ≤ 2_932_896 = omega arith in
    written_back n (nth_day (n / 86_400_000_000)) (nth_day-is (n / 86_400_000_000) days) (number-nth_day (n / 86_400_000_000) days) most
