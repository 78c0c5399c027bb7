-- Nothing is text, and a date is a short one.
use Rattle.std.proofs.Common.{◌≡◌, ℕ, zero, suc, ◌<◌, ◌^◌, Bool, true, false, cond, List, [], ◌∷◌, length, Some, None, true≢false, refl, sym, arith, option_map, unwrap_or, IsAscii, eqb-true, leb, le-leb, ◌&&◌}
use Rattle.std.specs.Char.{is_ascii_digit}
use Rattle.std.proofs.lemmas.Str.{IsUtf8-from_ascii}
use Rattle.misp_lists.proofs.Prelude.{AllByRecursion, and_from, and_parts, is_utf8, is_utf8-from_IsUtf8, nat_tests}
use Rattle.misp_dates.specs.Dates.{is_day, are_digits, is_date}
use Rattle.misp_elem.specs.Fields.{is_text}
use Rattle.misp_elem.proofs.Numbers.{length-text_le}

digit_small : (b : ℕ) → is_ascii_digit b ≡ true → b < 128
digit_small b h = grind (arith, nat_tests)

IsAscii-from_all : (bs : List ℕ) → AllByRecursion (λ b. b < 128) bs → IsAscii bs
IsAscii-from_all [] h i = omega arith
IsAscii-from_all (b ∷ bs) h zero = h.0
IsAscii-from_all (b ∷ bs) h (suc i) = IsAscii-from_all bs h.1 i

is_utf8-from_all : (bs : List ℕ) → AllByRecursion (λ b. b < 128) bs → is_utf8 bs ≡ true
is_utf8-from_all bs h = is_utf8-from_IsUtf8 bs (IsUtf8-from_ascii bs (IsAscii-from_all bs h))

-- no bytes are text of whatever room
pub no_text : (room : ℕ) → is_text 0 room [] ≡ true
no_text room = and_from (leb 0 0 && leb 0 room) (is_utf8 []) (and_from (leb 0 0) (leb 0 room) refl (le-leb 0 room (omega arith))) (is_utf8-from_all [] tt)

digits_small : (tens ones : ℕ) → are_digits tens ones ≡ true → (tens < 128) × (ones < 128)
digits_small tens ones h = let q = and_parts _ _ h in (digit_small tens q.0, digit_small ones q.1)

-- what names a day of the calendar has the form
of_the_form : {D : Type 0} (test : D → Bool) (b : Bool) (d : D) → unwrap_or (option_map test (cond b (Some d) None)) false ≡ true → b ≡ true
of_the_form test true d h = refl
of_the_form test false d h = absurd (true≢false (sym h))

-- a date is ten bytes of text
pub is_text-date : (t : List ℕ) → is_date t ≡ true → is_text 10 10 t ≡ true
unfolding is_date
is_text-date ([]) h = absurd (true≢false (sym h))
is_text-date (y1 ∷ []) h = absurd (true≢false (sym h))
is_text-date (y1 ∷ y2 ∷ []) h = absurd (true≢false (sym h))
is_text-date (y1 ∷ y2 ∷ y3 ∷ []) h = absurd (true≢false (sym h))
is_text-date (y1 ∷ y2 ∷ y3 ∷ y4 ∷ []) h = absurd (true≢false (sym h))
is_text-date (y1 ∷ y2 ∷ y3 ∷ y4 ∷ h1 ∷ []) h = absurd (true≢false (sym h))
is_text-date (y1 ∷ y2 ∷ y3 ∷ y4 ∷ h1 ∷ m1 ∷ []) h = absurd (true≢false (sym h))
is_text-date (y1 ∷ y2 ∷ y3 ∷ y4 ∷ h1 ∷ m1 ∷ m2 ∷ []) h = absurd (true≢false (sym h))
is_text-date (y1 ∷ y2 ∷ y3 ∷ y4 ∷ h1 ∷ m1 ∷ m2 ∷ h2 ∷ []) h = absurd (true≢false (sym h))
is_text-date (y1 ∷ y2 ∷ y3 ∷ y4 ∷ h1 ∷ m1 ∷ m2 ∷ h2 ∷ d1 ∷ []) h = absurd (true≢false (sym h))
is_text-date (y1 ∷ y2 ∷ y3 ∷ y4 ∷ h1 ∷ m1 ∷ m2 ∷ h2 ∷ d1 ∷ d2 ∷ []) h =
    let q5 = and_parts _ _ (of_the_form is_day _ _ h) in
    let q4 = and_parts _ _ q5.0 in
    let q3 = and_parts _ _ q4.0 in
    let q2 = and_parts _ _ q3.0 in
    let q1 = and_parts _ _ q2.0 in
    let y12 = digits_small y1 y2 q1.0 in
    let y34 = digits_small y3 y4 q1.1 in
    let m12 = digits_small m1 m2 q3.1 in
    let d12 = digits_small d1 d2 q5.1 in
    let hyphen1 : h1 < 128 = omega (arith, eqb-true h1 45 q2.1) in
    let hyphen2 : h2 < 128 = omega (arith, eqb-true h2 45 q4.1) in
    is_utf8-from_all (y1 ∷ y2 ∷ y3 ∷ y4 ∷ h1 ∷ m1 ∷ m2 ∷ h2 ∷ d1 ∷ d2 ∷ [])
    (y12.0, (y12.1, (y34.0, (y34.1, (hyphen1, (m12.0, (m12.1, (hyphen2, (d12.0, (d12.1, tt))))))))))
is_text-date (y1 ∷ y2 ∷ y3 ∷ y4 ∷ h1 ∷ m1 ∷ m2 ∷ h2 ∷ d1 ∷ d2 ∷ x ∷ more) h = absurd (true≢false (sym h))

-- and so short enough for its length to be written
pub date_short : (t : List ℕ) → is_date t ≡ true → length t < 2 ^ 32
date_short t h = omega (arith, length-text_le 10 10 t (is_text-date t h))
