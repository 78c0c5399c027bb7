-- When a stamp has one after it.
use Rattle.std.proofs.Common.{◌≡◌, ℕ, Bool, true, false, refl, ap, sym, arith, eqb, ◌+◌, max, ◌==◌, if◌then◌else◌, is_some, Option, Some, None}
use Rattle.misp_ids.specs.declared.stamp.TheConstants.{LAST_SECOND}
use Rattle.misp_ids.specs.Stamp.{next_stamp as next_of}
use Rattle.misp_model.proofs.Prelude.{false≢true, last_stamp, nat_tests}

abbrev some_of : ℕ → Option ℕ → ℕ
some_of n None = n
some_of n (Some m) = m

pub next_is : (old now stamp : ℕ) → next_of old now ≡ Some stamp → (eqb old last_stamp ≡ false) × (stamp ≡ max now (old + 1))
unfolding last_stamp
next_is old now stamp h = one (old == LAST_SECOND) refl h
  where
    one : (b : Bool) → (old == LAST_SECOND) ≡ b → (if b then None else Some (max now (old + 1))) ≡ Some stamp → (eqb old 253402300799 ≡ false) × (stamp ≡ max now (old + 1))
    one true e g = absurd (false≢true (ap is_some g))
    one false e g = (grind (arith, nat_tests, e), sym (ap (some_of 0) g))

pub next_none : (old now : ℕ) → next_of old now ≡ None → eqb old last_stamp ≡ true
unfolding last_stamp
next_none old now h = one (old == LAST_SECOND) refl h
  where
    one : (b : Bool) → (old == LAST_SECOND) ≡ b → (if b then None else Some (max now (old + 1))) ≡ None → eqb old 253402300799 ≡ true
    one true e g = grind (arith, nat_tests, e)
    one false e g = absurd (false≢true (sym (ap is_some g)))
