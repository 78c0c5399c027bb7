-- Searches of a list.
use Rattle.std.proofs.Common.{◌≡◌, ℕ, suc, Bool, true, false, ap, sym, ◌∙◌, arith, List, [], ◌∷◌, length, map, ◌==◌, not, filter}
use Rattle.misp_lists.proofs.Prelude.{list_any, nat_tests}
use Rattle.misp_lists.proofs.Lists.{any_is}

-- one passes where those that pass are not none
pub any_left : {X Y : Type 0} (f : Y → X) (p : X → Bool) (xs : List X) (ys : List Y) (none : Bool) → map f ys ≡ filter p xs → none ≡ (length ys == 0) → not none ≡ list_any p xs
any_left f p xs [] none h e = ap not e ∙ sym (any_is p xs ∙ ap (list_any (λ x. true)) (sym h))
any_left f p xs (y ∷ ys) none h e = ap not (e ∙ some (length ys)) ∙ sym (any_is p xs ∙ ap (list_any (λ x. true)) (sym h))
  where
    some : (n : ℕ) → (suc n == 0) ≡ false
    some n = grind (arith, nat_tests)
