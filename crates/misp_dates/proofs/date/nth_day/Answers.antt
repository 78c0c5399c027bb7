use Rattle.std.proofs.Common.{◌≡◌, ◌∙◌, ◌≤◌, ℕ, ℤ, pos, to_z, of_z, w8, refl, arith, rules}
use Rattle.std.specs.Int.{w16}
use Rattle.std.proofs.lemmas.Int.{to_z-of_z}
use Rattle.misp_dates.proofs.Days.{parts-nth_day, small-nth_day}
use Rattle.misp_dates.proofs.date.nth_day.Goals as goal

year_back : (z : ℤ) (y : ℕ) → z ≡ pos y → y ≤ 9999 → to_z w16 (of_z w16 z) ≡ pos y
year_back z y e small = rw e (to_z-of_z w16 (pos y) (omega arith))

small_back : (z : ℤ) (e n : ℕ) → z ≡ pos e → e ≡ n → n ≤ 31 → to_z w8 (of_z w8 z) ≡ pos n
small_back z e n ez en small = rw (ez, en) (to_z-of_z w8 (pos n) (omega arith))

pub overflow_cast-result : goal.overflow_cast-result
overflow_cast-result c =
    let parts = parts-nth_day c.args.days c.day_at-date.result c.requires c.day_at-date.ensures in
    let small = small-nth_day c.args.days c.requires in
    rw (year_back c.year.result _ (c.year.ensures ∙ parts.0) small.0) (search rules, omega arith)

pub returns : goal.returns
returns c =
    let parts = parts-nth_day c.args.days c.day_at-date.result c.requires c.day_at-date.ensures in
    let small = small-nth_day c.args.days c.requires in
    let year = year_back c.year.result _ (c.year.ensures ∙ parts.0) small.0 in
    let month = small_back c.month.result _ _ c.month.ensures parts.1 (omega (arith, small.1)) in
    let day = small_back c.day.result _ _ c.day.ensures parts.2 small.2 in
    record { value = rw (year, month, day) refl; small = rw (year, month, day) (omega (arith, small.0), omega (arith, small.1), omega (arith, small.2)) }
