-- A list cut into parts of 64.
use Rattle.std.proofs.Common.{◌≡◌, ℕ, zero, suc, ◌+◌, ◌-◌, ◌<◌, ◌≤◌, List, [], ◌∷◌, ◌++◌, length, take, drop, map, refl, ap, sym, ◌∙◌, arith, Less, Ordering, take_all}
use Rattle.std.specs.List.Sorted.{IsStrictlySortedBy}
use Rattle.misp_model.proofs.Prelude.{AllByRecursion}
use Rattle.std.proofs.lemmas.List.{append_assoc, drop-drop, length-drop}
use Rattle.misp_history.specs.Merging.{cut, onto}

module _ {X : Type 0} where
  -- with room for all there is one part
  pub cut_whole : (n : ℕ) (xs : List X) → length xs ≤ n → cut n xs ≡ xs ∷ []
  unfolding cut
  cut_whole n [] le = refl
  cut_whole zero (x ∷ xs) le = absurd (omega arith)
  cut_whole (suc n) (x ∷ xs) le = ap (onto x) (cut_whole n xs (omega arith))

  -- without, the first part is full
  pub cut_more : (n : ℕ) (xs : List X) → n < length xs → cut n xs ≡ take n xs ∷ cut 64 (drop n xs)
  unfolding cut
  cut_more n [] lt = absurd (omega arith)
  cut_more zero (x ∷ xs) lt = refl
  cut_more (suc n) (x ∷ xs) lt = ap (onto x) (cut_more n xs (omega arith))

  -- ---- what holds of all holds in each part

  onto_all : (R : X → Type 0) (x : X) (cs : List (List X)) → R x → AllByRecursion (λ c. AllByRecursion R c) cs → AllByRecursion (λ c. AllByRecursion R c) (onto x cs)
  onto_all R x [] r a = ((r, tt), tt)
  onto_all R x (c ∷ cs) r a = ((r, a.0), a.1)

  pub cut_all : (R : X → Type 0) (n : ℕ) (xs : List X) → AllByRecursion R xs → AllByRecursion (λ c. AllByRecursion R c) (cut n xs)
  unfolding cut
  cut_all R n [] a = (tt, tt)
  cut_all R zero (x ∷ xs) a = (tt, onto_all R x (cut 63 xs) a.0 (cut_all R 63 xs a.1))
  cut_all R (suc n) (x ∷ xs) a = onto_all R x (cut n xs) a.0 (cut_all R n xs a.1)

  -- each part ascends
  onto_ascends : (order : X → X → Ordering) (x : X) (cs : List (List X)) → AllByRecursion (λ c. AllByRecursion (λ y. order x y ≡ Less) c) cs → AllByRecursion (IsStrictlySortedBy order) cs
      → AllByRecursion (IsStrictlySortedBy order) (onto x cs)
  unfolding IsStrictlySortedBy
  onto_ascends order x [] a s = ((tt, tt), tt)
  onto_ascends order x (c ∷ cs) a s = ((a.0, s.0), s.1)

  pub cut_ascends : (order : X → X → Ordering) (n : ℕ) (xs : List X) → IsStrictlySortedBy order xs → AllByRecursion (IsStrictlySortedBy order) (cut n xs)
  unfolding cut IsStrictlySortedBy
  cut_ascends order n [] s = (tt, tt)
  cut_ascends order zero (x ∷ xs) s = (tt, onto_ascends order x (cut 63 xs) (cut_all (λ y. order x y ≡ Less) 63 xs s.0) (cut_ascends order 63 xs s.1))
  cut_ascends order (suc n) (x ∷ xs) s = onto_ascends order x (cut n xs) (cut_all (λ y. order x y ≡ Less) n xs s.0) (cut_ascends order n xs s.1)

  -- no part has more than 64, and the first no more than there was room for
  abbrev Short : ℕ → List (List X) → Type 0
  Short n [] = Unit {0}
  Short n (c ∷ cs) = (length c ≤ n) × AllByRecursion (λ d. length d ≤ 64) cs

  onto_short : (n : ℕ) (x : X) (cs : List (List X)) → Short n cs → Short (suc n) (onto x cs)
  onto_short n x [] s = (omega arith, tt)
  onto_short n x (c ∷ cs) s = let le = s.0 in (omega arith, s.1)

  short_all : (cs : List (List X)) → Short 64 cs → AllByRecursion (λ d. length d ≤ 64) cs
  short_all [] s = tt
  short_all (c ∷ cs) s = s

  cut_short : (n : ℕ) (xs : List X) → Short n (cut n xs)
  unfolding cut
  cut_short n [] = (omega arith, tt)
  cut_short zero (x ∷ xs) = (omega arith, short_all (onto x (cut 63 xs)) (onto_short 63 x (cut 63 xs) (cut_short 63 xs)))
  cut_short (suc n) (x ∷ xs) = onto_short n x (cut n xs) (cut_short n xs)

  pub parts_short : (xs : List X) → AllByRecursion (λ c. length c ≤ 64) (cut 64 xs)
  parts_short xs = short_all (cut 64 xs) (cut_short 64 xs)

  -- ---- how many parts there are

  onto_count : (x y : X) (cs ds : List (List X)) → length cs ≡ length ds → length (onto x cs) ≡ length (onto y ds)
  onto_count x y [] [] e = refl
  onto_count x y [] (d ∷ ds) e = absurd (omega (arith, e))
  onto_count x y (c ∷ cs) [] e = absurd (omega (arith, e))
  onto_count x y (c ∷ cs) (d ∷ ds) e = e

  -- lists of one length are cut into as many parts
  pub cut_count : (n : ℕ) (xs ys : List X) → length xs ≡ length ys → length (cut n xs) ≡ length (cut n ys)
  unfolding cut
  cut_count n [] [] e = refl
  cut_count n [] (y ∷ ys) e = absurd (omega (arith, e))
  cut_count n (x ∷ xs) [] e = absurd (omega (arith, e))
  cut_count zero (x ∷ xs) (y ∷ ys) e = ap suc (onto_count x y (cut 63 xs) (cut 63 ys) (cut_count 63 xs ys (omega (arith, e))))
  cut_count (suc n) (x ∷ xs) (y ∷ ys) e = onto_count x y (cut n xs) (cut n ys) (cut_count n xs ys (omega (arith, e)))

module _ {X Y : Type 0} (f : X → Y) where
  onto_map : (x : X) (cs : List (List X)) → map (map f) (onto x cs) ≡ onto (f x) (map (map f) cs)
  onto_map x [] = refl
  onto_map x (c ∷ cs) = refl

  -- the parts of a list that is mapped
  pub cut_map : (n : ℕ) (xs : List X) → map (map f) (cut n xs) ≡ cut n (map f xs)
  unfolding cut
  cut_map n [] = refl
  cut_map zero (x ∷ xs) = ap (λ cs. [] ∷ cs) (onto_map x (cut 63 xs) ∙ ap (onto (f x)) (cut_map 63 xs))
  cut_map (suc n) (x ∷ xs) = onto_map x (cut n xs) ∙ ap (onto (f x)) (cut_map n xs)

-- ---- one part after another

module _ {X : Type 0} (whole done : List (List X)) (xs : List X) (from : ℕ) (so : done ++ cut 64 (drop from xs) ≡ whole) where
  pub next_part : 64 < length xs - from → (done ++ take (from + 64 - from) (drop from xs) ∷ []) ++ cut 64 (drop (from + 64) xs) ≡ whole
  next_part lt =
      let full : from + 64 - from ≡ 64 = omega arith in
      append_assoc done (take (from + 64 - from) (drop from xs) ∷ []) (cut 64 (drop (from + 64) xs))
      ∙ ap (λ n. done ++ take n (drop from xs) ∷ cut 64 (drop (from + 64) xs)) full
      ∙ ap (λ ys. done ++ take 64 (drop from xs) ∷ cut 64 ys) (sym (drop-drop 64 from xs))
      ∙ ap (λ cs. done ++ cs) (sym (cut_more 64 (drop from xs) (let e = length-drop from xs in omega arith))) ∙ so

  pub last_part : length xs - from ≤ 64 → done ++ take (length xs - from) (drop from xs) ∷ [] ≡ whole
  last_part le =
      ap (λ ys. done ++ ys ∷ []) (take_all (length xs - from) (drop from xs) (let e = length-drop from xs in omega arith))
      ∙ ap (λ cs. done ++ cs) (sym (cut_whole 64 (drop from xs) (let e = length-drop from xs in omega arith))) ∙ so
