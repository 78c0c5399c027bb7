-- Lists whose first item is taken out.
use Rattle.std.proofs.Common.{◌≡◌, ◌<◌, List, [], ◌∷◌, length, get_or, sym, ap, arith, remove}

pub first_and_rest : {X : Type 0} (xs : List X) (x : X) → 0 < length xs → x ≡ get_or xs 0 x → xs ≡ x ∷ remove xs 0
first_and_rest [] x some first = absurd (omega arith)
first_and_rest (y ∷ xs) x some first = ap (λ z. z ∷ xs) (sym first)
