-- What the reader of one row answers is what is read of it before others.
use Rattle.std.proofs.Common.{◌≡◌, ℕ, ◌+◌, ◌-◌, ◌≤◌, List, length, take, drop, Option, Result, Ok, Err, refl, ap, arith, w32, le-ltb}
use Rattle.misp_elem.specs.Reading.{answer, number_at}
use Rattle.misp_elem.specs.WireReading.{row_of_wire}
use Rattle.misp_elem.specs.declared.fault.DecodeFault.TheVariants.{BadRow}
use Rattle.misp_model.specs.Prelude.{EventId, Key, Row}
use Rattle.misp_package.specs.PackageReading.{before_others, framed_row_at}

-- so many bytes are a row, and the others follow
pub framed_is : (e : EventId) (before : Option Key) (bytes : List ℕ) (len : ℕ) (after front back : List ℕ)
    → number_at w32 bytes ≡ Ok (len, after) → len ≤ length after → front ≡ take len after → back ≡ drop len after
    → framed_row_at e before bytes ≡ before_others back (row_of_wire e before front)
unfolding framed_row_at
framed_is e before bytes len after front back read long front-is back-is = rw (read, le-ltb (length after) len long, front-is, back-is) refl

pub row_read : (front back : List ℕ) (read : Result Row ℕ) (r : Row) → answer front read ≡ Ok r → before_others back read ≡ Ok (r, back)
row_read front back (Ok x) r h = let same : x ≡ r = cc in ap (λ (y : Row). Ok (y, back)) same
row_read front back (Err left) r h = absurd cc

pub row_refused : (front back : List ℕ) (n place : ℕ) (read : Result Row ℕ)
    → ((left : ℕ) → read ≡ Err left → left ≤ length front) → length front + length back ≡ n → answer front read ≡ Err (BadRow place)
    → before_others back read ≡ Err (n - place)
row_refused front back n place (Ok x) within sizes h = absurd cc
row_refused front back n place (Err left) within sizes h = let same : length front - left ≡ place = cc in ap (λ (m : ℕ). Err m) (omega (arith, within left refl))
