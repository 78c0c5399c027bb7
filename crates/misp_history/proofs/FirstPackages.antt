-- The packages up to the n-th that brings a row, and how many bring one.
use Rattle.std.proofs.Common.{◌≡◌, ℕ, zero, suc, ◌+◌, min, Bool, List, [], ◌∷◌, ◌++◌, take, refl, ◌∙◌, ap, arith, append_assoc, append-nil}
use Rattle.misp_model.specs.Prelude.{Row}
use Rattle.misp_history.specs.Merging.{bringing, brought, count_bringing, fewer_where, fresh, more_where}

module _ (test : Row → Bool) where
  -- they are the first ones
  pub is_first : (n : ℕ) (so : List Row) (ps : List (List Row)) → (k : ℕ) × (bringing n test so ps ≡ take k ps)
  unfolding bringing
  is_first zero so ps = (0, refl)
  is_first (suc n) so [] = (0, refl)
  is_first (suc n) so (p ∷ ps) =
      let more = is_first (fewer_where (fresh test so p) n) (so ++ fresh test so p) ps in
      (suc more.0, ap (λ rest. p ∷ rest) more.1)

  -- one package, by whether it brings a row
  one_more : (brings : List Row) (n c d : ℕ) → d ≡ min (fewer_where brings n) c → more_where brings d ≡ min (suc n) (more_where brings c)
  one_more [] n c d same = same
  one_more (x ∷ xs) n c d same = omega (arith, same)

  -- so many of them bring one, or all that do
  pub are_bringing : (n : ℕ) (so : List Row) (ps : List (List Row)) → count_bringing test so (bringing n test so ps) ≡ min n (count_bringing test so ps)
  unfolding bringing count_bringing
  are_bringing zero so ps = omega arith
  are_bringing (suc n) so [] = omega arith
  are_bringing (suc n) so (p ∷ ps) =
      one_more (fresh test so p) n (count_bringing test (so ++ fresh test so p) ps) _ (are_bringing (fewer_where (fresh test so p) n) (so ++ fresh test so p) ps)

  plus_more : (brings : List Row) (c d : ℕ) → more_where brings (c + d) ≡ more_where brings c + d
  plus_more [] c d = refl
  plus_more (x ∷ xs) c d = omega arith

  -- the last package brings one where it has a row of a name that none before has brought
  pub by_last : (so : List Row) (ps : List (List Row)) (p : List Row)
      → count_bringing test so (ps ++ p ∷ []) ≡ count_bringing test so ps + more_where (fresh test (so ++ brought test so ps) p) 0
  unfolding brought count_bringing
  by_last so [] p = let same : so ++ [] ≡ so = append-nil so in rw same (omega arith)
  by_last so (q ∷ ps) p =
      let first : List Row = fresh test so q in
      ap (more_where first) (by_last (so ++ first) ps p)
      ∙ plus_more first (count_bringing test (so ++ first) ps) _
      ∙ ap (λ names. more_where first (count_bringing test (so ++ first) ps) + more_where (fresh test names p) 0) (append_assoc so first (brought test (so ++ first) ps))
