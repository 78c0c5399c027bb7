-- Tallies whose groups are counted in 64 bits.
use Rattle.std.proofs.Common.{◌≡◌, ℕ, ◌==◌, ◌+◌, ◌^◌, ◌-◌, ◌<◌, Bool, true, false, cond, min, ap, arith}
use Rattle.misp_elem.specs.Prelude.{EventId}
use Rattle.misp_protocol.specs.Counts.{IsTally, plus, with_groups, with_rows, with_taken}
use Rattle.misp_protocol.specs.declared.count.Tally.{Tally}

-- no groups more
pub none_more : (t : Tally) → IsTally t → with_groups t 0 ≡ t
none_more t is =
    let same : plus t.count.groups 0 ≡ t.count.groups = omega (arith, is) in
    ap (λ g. record t { count = record t.count { groups = g } }) same

pub grouped_tally : (t : Tally) (n : ℕ) → IsTally (with_groups t n)
grouped_tally t n = omega arith

pub taken_tally : (t : Tally) (e : EventId) (n : ℕ) → IsTally t → IsTally (with_taken t e n)
taken_tally t e n is = one (n == 0)
  where
    one : (b : Bool) → IsTally (cond b t (with_rows t e n))
    one true = is
    one false = is
