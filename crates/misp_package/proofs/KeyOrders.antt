-- Rows in the order of their keys.
use Rattle.std.proofs.Common.{◌≡◌, ◌↔◌, cond, subst, ◌+◌, ◌<◌, ℕ, zero, suc, arith, length, slice_index_or, Bool, true, false, refl, ap, sym, ◌∙◌, List, [], ◌∷◌, map, Bor, not, is_lt, is_eq, IsSortedBy, Ordering, Less, Equal, Greater}
use Rattle.std.specs.Cmp.{IsTotalOrder, IsStrictWeakOrder}
use Rattle.std.specs.List.{AllAdjacentBelow, IsAllAdjacentAnswer}
use Rattle.std.specs.List.Sorted.{IsStableBy, IsStrictlySortedBy}
use Rattle.std.proofs.lemmas.Cmp.{nat_list_cmp_total, on_total}
use Rattle.std.proofs.lemmas.List.Sorted.{ranks_by}
use Rattle.misp_lists.specs.Order.{sorted_by, in_order, put}
use Rattle.misp_lists.proofs.All.{all_implied}
use Rattle.misp_lists.proofs.Ordering.{all_in_order, in_order_map}
use Rattle.misp_lists.proofs.Orders.{less_of}
use Rattle.misp_lists.proofs.Sorting.{sorted_in_order, ascend_sorted}
use Rattle.misp_model.proofs.Prelude.{AllByRecursion, IsDistinct, Row, false≢true, ordering_reverse, same_key, spell}
use Rattle.misp_copies.proofs.KeyOrder.{level_is}
use Rattle.misp_package.specs.Packing.{key_order}

pub key_total : IsTotalOrder key_order
unfolding key_order
key_total = on_total (λ (r : Row). spell r.key) nat_list_cmp_total

-- of references
abbrev pub goes_ahead : Bor Row → Bor Row → Bool
goes_ahead a b = is_lt (key_order a.now b.now)

pub ahead_weak : IsStrictWeakOrder goes_ahead
ahead_weak = ranks_by key_total (λ (r : Bor Row). r.now)

pub sorted_rows : (xs ys : List (Bor Row)) → IsSortedBy goes_ahead ys → IsStableBy goes_ahead xs ys → map (λ r. r.now) ys ≡ sorted_by key_order (map (λ r. r.now) xs)
unfolding key_order
sorted_rows xs ys up stable =
    ap (map (λ r. r.now)) (sorted_in_order (λ (a b : Bor Row). key_order a.now b.now) (on_total (λ (r : Bor Row). spell r.now.key) nat_list_cmp_total) xs ys up stable)
    ∙ in_order_map (λ r. r.now) (λ a b. not (is_lt (key_order b a))) xs

-- rows of which no two have one key
abbrev pub one_key : Row → Row → Bool
one_key a b = same_key a.key b.key

pub key_level : (a b : Row) → one_key a b ≡ is_eq (key_order a b)
unfolding key_order
key_level a b = sym (level_is a.key b.key)

pub keys_ascend : (rows : List Row) → IsDistinct one_key rows → IsStrictlySortedBy key_order (sorted_by key_order rows)
keys_ascend rows apart = ascend_sorted key_order key_total one_key key_level rows apart

-- rows that ascend are by their keys
pub ascending_by_keys : (rows : List Row) → IsStrictlySortedBy key_order rows → rows ≡ sorted_by key_order rows
unfolding IsStrictlySortedBy in_order put
ascending_by_keys [] s = refl
ascending_by_keys (x ∷ []) s = refl
ascending_by_keys (x ∷ y ∷ ys) s =
    sym (ap (put (λ a b. not (is_lt (key_order b a))) x) (sym (ascending_by_keys (y ∷ ys) s.1)) ∙ stays (key_order y x) (key_total.antisymm y x ∙ ap ordering_reverse s.0.0))
  where
    stays : (o : Ordering) → o ≡ Greater → cond (not (is_lt o)) (x ∷ y ∷ ys) (y ∷ put (λ a b. not (is_lt (key_order b a))) x ys) ≡ x ∷ y ∷ ys
    stays o e = rw (e) refl

-- two orders that agree on those that are apart
module _ {X : Type 0} (same : X → X → Bool) (p r : X → X → Bool) (agree : (x y : X) → same x y ≡ false → p x y ≡ r x y) where
  put_apart : (x : X) (ys : List X) → AllByRecursion (λ y. same x y ≡ false) ys → put p x ys ≡ put r x ys
  unfolding put
  put_apart x [] a = refl
  put_apart x (y ∷ ys) a = rw (agree x y a.0, put_apart x ys a.1) refl

  pub apart_same : (xs : List X) → IsDistinct same xs → in_order p xs ≡ in_order r xs
  unfolding in_order IsDistinct
  apart_same [] d = refl
  apart_same (x ∷ xs) d = ap (put p x) (apart_same xs d.1) ∙ put_apart x (in_order r xs) (all_in_order (λ y. same x y ≡ false) r xs d.0)

pub before_is : (a b : Row) → one_key a b ≡ false → is_lt (key_order a b) ≡ not (is_lt (key_order b a))
before_is a b h = ap (λ o. is_lt o) (key_total.antisymm a b) ∙ one (key_order b a) (sym (ap is_eq (key_total.antisymm a b)) ∙ sym (key_level a b) ∙ h)
  where
    one : (o : Ordering) → is_eq (ordering_reverse o) ≡ false → is_lt (ordering_reverse o) ≡ not (is_lt o)
    one Less e = refl
    one Equal e = absurd cc
    one Greater e = refl

-- ---- whether they ascend

next : (k : ℕ) → suc k + 1 ≡ suc (k + 1)
next k = omega arith

up : (xs : List (Bor Row)) → AllAdjacentBelow (λ x y. true ≡ goes_ahead x y) xs (length xs) → IsStrictlySortedBy key_order (map (λ r. r.now) xs)
unfolding IsStrictlySortedBy
up [] h = tt
up (x ∷ []) h = (tt, tt)
up (x ∷ y ∷ ys) h =
    let rest : IsStrictlySortedBy key_order (map (λ r. r.now) (y ∷ ys)) =
    up (y ∷ ys) (λ k d lt. subst (λ n. true ≡ goes_ahead (slice_index_or (y ∷ ys) k d) (slice_index_or (x ∷ y ∷ ys) n d)) (next k) (h (suc k) d (omega arith))) in
    let first : key_order x.now y.now ≡ Less = less_of _ (sym (h 0 x (omega arith))) in
    ((first, all_implied (λ z. key_order y.now z ≡ Less) (λ z. key_order x.now z ≡ Less) (λ z e. key_total.trans x.now y.now z first e) (map (λ r. r.now) ys) rest.0), rest)

not_down : (xs : List (Bor Row)) (k : ℕ) → IsStrictlySortedBy key_order (map (λ r. r.now) xs) → k + 1 < length xs → ((d : Bor Row) → false ≡ goes_ahead (slice_index_or xs k d) (slice_index_or xs (k + 1) d)) → ⊥
unfolding IsStrictlySortedBy
not_down [] k s lt h = absurd (omega arith)
not_down (x ∷ []) k s lt h = absurd (omega arith)
not_down (x ∷ y ∷ ys) zero s lt h = false≢true (h x ∙ ap is_lt s.0.0)
not_down (x ∷ y ∷ ys) (suc k) s lt h = not_down (y ∷ ys) k s.1 (omega arith) (λ d. subst (λ n. false ≡ goes_ahead (slice_index_or (y ∷ ys) k d) (slice_index_or (x ∷ y ∷ ys) n d)) (next k) (h d))

pub ascend_where : (xs : List (Bor Row)) (r : Bool) → IsAllAdjacentAnswer (λ x y b. b ≡ goes_ahead x y) xs r → (r ≡ true) ↔ IsStrictlySortedBy key_order (map (λ r. r.now) xs)
ascend_where xs true h = (λ e. up xs h, λ s. refl)
ascend_where xs false h = (λ e. absurd (false≢true e), λ s. absurd (not_down xs h.0 s h.1 h.2))
