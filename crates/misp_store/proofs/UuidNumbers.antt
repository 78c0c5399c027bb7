-- The numbers of uuids in order, each once, are the same numbers.
use Rattle.std.proofs.Common.{◌≡◌, ℕ, List, [], ◌∷◌, Bool, true, false, refl, sym, ap, ◌∙◌, inl, inr, cond, eqb, eqb-true, ◌||◌}
use Rattle.std.specs.List.{dedup, dedup_from}
use Rattle.std.specs.List.Sorted.{IsPermutation}
use Rattle.std.proofs.lemmas.List.Filters.{All-dedup}
use Rattle.std.proofs.lemmas.List.Sorted.{All-permutation}
use Rattle.misp_lists.specs.Prelude.{AllByRecursion, list_any}
use Rattle.misp_lists.proofs.All.{all_at, all_from}
use Rattle.misp_lists.proofs.Prelude.{cases_Bool}

module _ (p : ℕ → Bool) where
  again : (a b : Bool) → (a || b) ≡ (a || (a || b))
  again true b = refl
  again false b = refl

  any_from : (k : ℕ) (xs : List ℕ) → list_any p (dedup_from eqb k xs) ≡ (p k || list_any p xs)
  any_from k [] = refl
  any_from k (x ∷ xs) = elim (cases_Bool (eqb x k)) [
    | inl is ↦
        let one : x ≡ k = eqb-true x k is in
        ap (λ b. list_any p (cond b (dedup_from eqb k xs) (k ∷ dedup_from eqb x xs))) is ∙ any_from k xs ∙ again (p k) (list_any p xs) ∙ ap (λ n. p k || (p n || list_any p xs)) (sym one)
    | inr not ↦ ap (λ b. list_any p (cond b (dedup_from eqb k xs) (k ∷ dedup_from eqb x xs))) not ∙ ap (λ t. p k || t) (any_from x xs)
  ]

  -- what is there once passes where it passes as often as it is there
  pub any_dedup : (xs : List ℕ) → list_any p (dedup eqb xs) ≡ list_any p xs
  any_dedup [] = refl
  any_dedup (x ∷ xs) = any_from x xs

-- what holds of all still does
pub all_once : (P : ℕ → Type 0) (xs sorted : List ℕ) → IsPermutation xs sorted → AllByRecursion P xs → AllByRecursion P (dedup eqb sorted)
all_once P xs sorted same all =
    all_from P (dedup eqb sorted) (All-dedup eqb P sorted (All-permutation P xs sorted same (λ k d below. all_at P xs k d below all)))
