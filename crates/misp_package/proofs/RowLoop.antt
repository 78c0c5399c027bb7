-- Reading rows one after the other, as a loop does.
use Rattle.std.proofs.Common.{◌≡◌, ℕ, suc, ◌-◌, ◌+◌, ◌≤◌, ◌<◌, List, [], ◌∷◌, ◌++◌, Option, Some, Ok, Err, refl, sym, ap, ◌∙◌, append_assoc, arith, append-nil}
use Rattle.misp_elem.specs.Prelude.{◌>>=◌, Reading}
use Rattle.misp_model.specs.Prelude.{EventId, Key, Row}
use Rattle.misp_package.specs.PackageReading.{Fails, framed_row_at, rows_after}
use Rattle.misp_package.specs.declared.reading.Stop.{Stop}

-- what was read before, and what is still read
abbrev pub with_front : List Row → Reading (List Row) → Reading (List Row)
with_front front read = read >>= λ x. Ok (front ++ x.0, x.1)

regroup : (front : List Row) (r : Row) (read : Reading (List Row)) → with_front front (read >>= λ x. Ok (r ∷ x.0, x.1)) ≡ with_front (front ++ r ∷ []) read
regroup front r (Ok x) = ap (λ (rs : List Row). Ok (rs, x.1)) (simp append_assoc)
regroup front r (Err left) = refl

module _ (e : EventId) (before : Option Key) (front : List Row) (count i : ℕ) (bytes : List ℕ) (total : Reading (List Row)) where
  abbrev still : Reading (List Row)
  still = with_front front (rows_after e before (count - i) bytes)

  pub goes_on : (r : Row) (after : List ℕ) → i < count → framed_row_at e before bytes ≡ Ok (r, after) → still ≡ total
      → with_front (front ++ r ∷ []) (rows_after e (Some r.key) (count - (i + 1)) after) ≡ total
  unfolding rows_after
  goes_on r after lt read so_far =
      let k : count - i ≡ suc (count - (i + 1)) = omega arith in
      let one : still ≡ with_front (front ++ r ∷ []) (rows_after e (Some r.key) (count - (i + 1)) after) =
      rw (k, read) (regroup front r (rows_after e (Some r.key) (count - (i + 1)) after)) in
      sym one ∙ so_far

  pub stops_at : (stop : Stop) → i < count → Fails stop (framed_row_at e before bytes) → still ≡ total → Fails stop total
  unfolding rows_after
  stops_at Stop.NoMemory lt read so_far = tt
  stops_at (Stop.Bad left) lt read so_far =
      let k : count - i ≡ suc (count - (i + 1)) = omega arith in
      let one : still ≡ Err left = rw (k, read) refl in
      sym so_far ∙ one

  pub is_done : count ≤ i → still ≡ total → total ≡ Ok (front, bytes)
  unfolding rows_after
  is_done le so_far =
      let k : count - i ≡ 0 = omega arith in
      let one : still ≡ Ok (front, bytes) = rw k (ap (λ (rs : List Row). Ok (rs, bytes)) (append-nil front)) in
      sym so_far ∙ one
