-- What is counted and summed.
use Rattle.std.proofs.Common.{◌≡◌, ℕ, suc, ◌+◌, true, false, filter, is_some, length-append, List, [], ◌∷◌, length, map, Option, None, Some, option_map, refl, sym, ap, arith}
use Rattle.std.specs.List.{range_with_len}
use Rattle.std.proofs.lemmas.List.FromFn.{filter_of_map_range_with_len_more}
use Rattle.serde_json.specs.Data.{Data}
use Rattle.serde_json.specs.View.{items_of}
use Rattle.misp_generated.specs.Summary.{items_count, sum_of}

-- the items of an array are as many as its values
pub items_length : (ds : List Data) → items_count (items_of ds) ≡ length ds
items_length [] = refl
items_length (d ∷ ds) = grind (arith, items_length ds)

-- ---- replies that are there, place after place

pub some_mapped : {A B : Type 0} (f : A → B) (x : Option A) → is_some (option_map f x) ≡ is_some x
some_mapped f None = refl
some_mapped f (Some a) = refl

module _ {A : Type 0} (reply : ℕ → Option A) (k number : ℕ) (before : number ≡ length (filter is_some (map reply (range_with_len 0 k)))) where
  pub one_counted : is_some (reply k) ≡ true → number + 1 ≡ length (filter is_some (map reply (range_with_len 0 (k + 1))))
  one_counted there =
      let counted : List (Option A) = filter is_some (map reply (range_with_len 0 k)) in
      rw (filter_of_map_range_with_len_more is_some reply 0 k k (omega arith), there) (omega (arith, before, length-append counted (reply k ∷ [])))

  pub none_counted : is_some (reply k) ≡ false → number ≡ length (filter is_some (map reply (range_with_len 0 (k + 1))))
  none_counted missing =
      let counted : List (Option A) = filter is_some (map reply (range_with_len 0 k)) in
      rw (filter_of_map_range_with_len_more is_some reply 0 k k (omega arith), missing) (omega (arith, before, length-append counted []))

-- ---- a sum, pull after pull

plus_none : (x : Option ℕ) → option_map (λ rest. 0 + rest) x ≡ x
plus_none None = refl
plus_none (Some rest) = ap Some (omega arith)

plus_both : (a b : ℕ) (x : Option ℕ) → option_map (λ rest. a + rest) (option_map (λ rest. b + rest) x) ≡ option_map (λ rest. a + b + rest) x
plus_both a b None = refl
plus_both a b (Some rest) = ap Some (omega arith)

module _ (count : ℕ → Option ℕ) (place : ℕ) where
  -- the sum so far, with those of so many more places
  abbrev with_rest : ℕ → ℕ → ℕ → Option ℕ
  with_rest sum from n = option_map (λ rest. sum + rest) (sum_of (map count (range_with_len from n)))

  pub none_summed : (n : ℕ) → n ≡ 4 → with_rest 0 place n ≡ sum_of (map count (range_with_len place 4))
  none_summed n four = rw four (plus_none (sum_of (map count (range_with_len place 4))))

  pub one_summed : (sum some n m : ℕ) → count place ≡ Some some → n ≡ suc m → with_rest (sum + some) (place + 1) m ≡ with_rest sum place n
  one_summed sum some n m is more =
      rw (more, is) (sym (plus_both sum some (sum_of (map count (range_with_len (place + 1) m)))))

  pub none_there : (sum n m : ℕ) → count place ≡ None → n ≡ suc m → with_rest sum place n ≡ None
  none_there sum n m is more = rw (more, is) refl
