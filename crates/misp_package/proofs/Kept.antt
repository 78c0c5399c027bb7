-- One element more, which a test keeps or does not.
use Rattle.std.proofs.Common.{◌≡◌, ℕ, ◌+◌, ◌<◌, List, [], ◌∷◌, ◌++◌, Bool, true, false, ap, sym, ◌∙◌, cond, length, get_or, take, filter, append-nil}
use Rattle.std.proofs.lemmas.List.Elements.{filter_more}

module _ {X : Type 0} (q : X → Bool) (xs : List X) (i : ℕ) (x : X) (done : List X) (inside : i < length xs) (is : x ≡ get_or xs i x) (so : done ≡ filter q (take i xs)) where
  step : (b : Bool) → q x ≡ b → done ++ cond b (x ∷ []) [] ≡ filter q (take (i + 1) xs)
  step b e = sym (filter_more q xs i x inside ∙ (λ j. sym so j ++ cond (one j) (sym is j ∷ []) []))
    where
      one : q (get_or xs i x) ≡ b
      one = ap q (sym is) ∙ e

  pub kept_more : q x ≡ true → done ++ x ∷ [] ≡ filter q (take (i + 1) xs)
  kept_more e = step true e

  pub kept_same : q x ≡ false → done ≡ filter q (take (i + 1) xs)
  kept_same e = sym (append-nil done) ∙ step false e
