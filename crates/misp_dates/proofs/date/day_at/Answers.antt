use Rattle.std.proofs.Common.{◌≡◌, ◌∙◌, pos, ◌+ℤ◌, to_z, w64, arith}
use Rattle.std.proofs.lemmas.Int.{ints}
use Rattle.std.proofs.lemmas.Bool.{false≢true}
use Rattle.jiff.proofs.SpanFacts.{signed_arith, date_add-days, can_add-days}
use Rattle.jiff.specs.Words.{epoch_day, IsEpochDay}
use Rattle.jiff.specs.Types.{Date}
use Rattle.jiff_core.proofs.StandardFacts.{known_days}
use Rattle.misp_dates.proofs.date.day_at.Goals as goal

first_day : (d : Date) → d.year ≡ pos 1970 → pos d.month ≡ pos 1 → pos d.day ≡ pos 1 → epoch_day d ≡ pos 0
first_day d year month day =
    let m : d.month ≡ 1 = cc in
    let n : d.day ≡ 1 = cc in
    rw (year, m, n) known_days.0

pub unreachable-requires : goal.unreachable-requires
unreachable-requires c =
    let start = first_day c.date.result c.date.ensures.0 c.date.ensures.1 c.date.ensures.2 in
    let days = c.args.days in
    let n : to_z w64 days ≡ pos days = omega (arith, ints, c.requires) in
    let can = can_add-days c.date.result (to_z w64 days) c.days.result c.days.ensures in
    let day : IsEpochDay (epoch_day c.date.result +ℤ to_z w64 days) = rw (start, n) (omega (arith, signed_arith, c.requires)) in
    let ok = c.checked_add.ensures.succeeds.1 (can.1 day) in
    false≢true (rw c.in-Err.is at ok)

pub returns : goal.returns
returns c =
    let start = first_day c.date.result c.date.ensures.0 c.date.ensures.1 c.date.ensures.2 in
    let days = c.args.days in
    let n : to_z w64 days ≡ pos days = omega (arith, ints, c.requires) in
    let moved = date_add-days c.date.result (to_z w64 days) c.days.result c.days.ensures in
    c.in-Ok.ensures.value ∙ moved ∙ rw (start, n) (omega (arith, signed_arith))
