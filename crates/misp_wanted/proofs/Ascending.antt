-- Rows of which each goes before the next one by its key ascend.
use Rattle.std.proofs.Common.{◌≡◌, ◌∙◌, ◌+◌, ℕ, suc, arith, length, slice_index_or, Bool, true, false, sym, subst, List, [], ◌∷◌, is_lt, Less}
use Rattle.std.specs.List.{AllAdjacentBelow, IsAllAdjacentAnswer}
use Rattle.std.specs.List.Sorted.{IsStrictlySortedBy}
use Rattle.misp_lists.proofs.All.{all_implied}
use Rattle.misp_lists.proofs.Orders.{less_of}
use Rattle.misp_model.proofs.Prelude.{Row, false≢true}
use Rattle.misp_package.specs.Packing.{key_order}
use Rattle.misp_package.proofs.KeyOrders.{key_total}

next : (k : ℕ) → suc k + 1 ≡ suc (k + 1)
next k = omega arith

-- the key of the first goes before that of the second
abbrev pub goes_before : Row → Row → Bool
goes_before a b = is_lt (key_order a b)

up : (xs : List Row) → AllAdjacentBelow (λ x y. true ≡ goes_before x y) xs (length xs) → IsStrictlySortedBy key_order xs
unfolding IsStrictlySortedBy
up [] h = tt
up (x ∷ []) h = (tt, tt)
up (x ∷ y ∷ ys) h =
    let rest : IsStrictlySortedBy key_order (y ∷ ys) =
    up (y ∷ ys) (λ k d lt. subst (λ n. true ≡ goes_before (slice_index_or (y ∷ ys) k d) (slice_index_or (x ∷ y ∷ ys) n d)) (next k) (h (suc k) d (omega arith))) in
    let first : key_order x y ≡ Less = less_of _ (sym (h 0 x (omega arith))) in
    ((first, all_implied (λ z. key_order y z ≡ Less) (λ z. key_order x z ≡ Less) (λ z e. key_total.trans x y z first e) ys rest.0), rest)

pub ascend_where : (xs : List Row) (r : Bool) → IsAllAdjacentAnswer (λ x y b. b ≡ goes_before x y) xs r → r ≡ true → IsStrictlySortedBy key_order xs
ascend_where xs true h is = up xs h
ascend_where xs false h is = absurd (false≢true is)
