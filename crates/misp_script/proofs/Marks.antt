-- The first mark from a place on.
use Rattle.std.proofs.Common.{◌≡◌, ℕ, suc, ◌+◌, ◌-◌, ◌<◌, Bool, true, false, Some, find, refl, arith}
use Rattle.std.specs.List.{range_with_len}

pub first_here : (test : ℕ → Bool) (at n : ℕ) → at < n → test at ≡ true → find test (range_with_len at (n - at)) ≡ Some at
first_here test at n inside hit =
    let more : n - at ≡ suc (n - (at + 1)) = omega arith in
    rw more (rw hit refl)

pub first_later : (test : ℕ → Bool) (at n : ℕ) → at < n → test at ≡ false → find test (range_with_len at (n - at)) ≡ find test (range_with_len (at + 1) (n - (at + 1)))
first_later test at n inside miss =
    let more : n - at ≡ suc (n - (at + 1)) = omega arith in
    rw more (rw miss refl)
