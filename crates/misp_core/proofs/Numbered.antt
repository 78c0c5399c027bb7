-- Numbers that ascend, and the numbers of the events of rows.
use Rattle.std.proofs.Common.{◌≡◌, ◌⊎◌, ℕ, ◌+◌, ◌-◌, ◌≤◌, true, false, List, [], ◌∷◌, Contains, ap, arith, drop, eqb, inl, inr, is_lt, leb, length, ltb, map, take, nat_cmp, refl, slice_index_or, subst, sym, ◌∙◌, filter, Less, Equal}
use Rattle.std.specs.List.{dedup}
use Rattle.std.specs.List.Sorted.{IsPartitionPoint, IsSorted, IsStableByKey, IsStrictlySortedBy}
use Rattle.std.proofs.lemmas.Cmp.{nat_cmp_total}
use Rattle.std.proofs.lemmas.List.{get_or-map, length-map, take_rest}
use Rattle.std.proofs.lemmas.List.Kept.{Contains-dedup_nat, IsStrictlySortedBy-dedup}
use Rattle.misp_lists.proofs.All.{all_of}
use Rattle.misp_lists.proofs.Elements.{first_or, here, kept_has, map_has, of_part, there}
use Rattle.misp_lists.proofs.Orders.{same}
use Rattle.misp_copies.proofs.Cuts.{cut_is, stable_parts}
use Rattle.misp_model.proofs.Prelude.{EventId, Row, event_of, event_rows, nat_tests, same_event, same_event-refl}
use Rattle.misp_model.specs.Machine.{event_number}
use Rattle.misp_core.specs.Pulling.{IsByEvent, Rises}

-- ---- lists of numbers

not_itself : (n : ℕ) → nat_cmp n n ≡ Less → ⊥
not_itself n h = let e : Equal ≡ Less = sym (same n) ∙ h in absurd cc

-- two that ascend and have the same numbers are the same
pub same_numbers : (xs ys : List ℕ) → IsStrictlySortedBy nat_cmp xs → IsStrictlySortedBy nat_cmp ys → ((n : ℕ) → Contains xs n → Contains ys n) → ((n : ℕ) → Contains ys n → Contains xs n) → xs ≡ ys
unfolding IsStrictlySortedBy
same_numbers [] [] s t f g = refl
same_numbers [] (y ∷ ys) s t f g = let m = g y (here y ys) in let lt = m.1 in absurd (omega arith)
same_numbers (x ∷ xs) [] s t f g = let m = f x (here x xs) in let lt = m.1 in absurd (omega arith)
same_numbers (x ∷ xs) (y ∷ ys) s t f g =
    λ i. first (first_or y ys x (f x (here x xs))) (first_or x xs y (g y (here y ys))) i
    ∷ same_numbers xs ys s.1 t.1 (λ n m. left n m (first_or y ys n (f n (there x xs n m)))) (λ n m. right n m (first_or x xs n (g n (there y ys n m)))) i
  where
    first : (y ≡ x) ⊎ Contains ys x → (x ≡ y) ⊎ Contains xs y → x ≡ y
    first (inl h) k = sym h
    first (inr m) (inl h) = h
    first (inr m) (inr n) = absurd (not_itself x (nat_cmp_total.trans x y x (all_of (λ z. nat_cmp x z ≡ Less) xs y s.0 n) (all_of (λ z. nat_cmp y z ≡ Less) ys x t.0 m)))

    one : x ≡ y
    one = first (first_or y ys x (f x (here x xs))) (first_or x xs y (g y (here y ys)))

    left : (n : ℕ) → Contains xs n → (y ≡ n) ⊎ Contains ys n → Contains ys n
    left n m (inl h) = absurd (not_itself x (subst (λ z. nat_cmp x z ≡ Less) (sym h ∙ sym one) (all_of (λ z. nat_cmp x z ≡ Less) xs n s.0 m)))
    left n m (inr k) = k

    right : (n : ℕ) → Contains ys n → (x ≡ n) ⊎ Contains xs n → Contains xs n
    right n m (inl h) = absurd (not_itself y (subst (λ z. nat_cmp y z ≡ Less) (sym h ∙ one) (all_of (λ z. nat_cmp y z ≡ Less) ys n t.0 m)))
    right n m (inr k) = k

-- ---- rows by their events

-- the rows of the event of a number
pub of_number : (e : EventId) (rows : List Row) → filter (λ row. eqb e.0.0 (event_number row)) rows ≡ event_rows e rows
unfolding event_number same_event
of_number e rows = λ i. filter (λ row. one row i) rows
  where
    one : (row : Row) → eqb e.0.0 (event_of row.key).0.0 ≡ same_event (event_of row.key) e
    one row = grind (arith, nat_tests)

-- what a stable sort by the numbers has of each event
pub same_rows : (rows list : List Row) → IsStableByKey event_number nat_cmp rows list → (e : EventId) → event_rows e list ≡ event_rows e rows
same_rows rows list stable e = sym (of_number e list) ∙ stable_parts event_number rows list stable e.0.0 ∙ of_number e rows

-- the part of a list by events that has one number
pub cut_rows : (e : EventId) (list : List Row) (low count : ℕ) → low ≤ length list → count ≤ length (take (length list - low) (drop low list)) →
    IsPartitionPoint (λ x. ltb (event_number x) e.0.0 ≡ true) (λ x. ltb (event_number x) e.0.0 ≡ false) list low →
    IsPartitionPoint (λ x. leb (event_number x) e.0.0 ≡ true) (λ x. leb (event_number x) e.0.0 ≡ false) (take (length list - low) (drop low list)) count →
    take count (take (length list - low) (drop low list)) ≡ event_rows e list
cut_rows e list low count a b p q =
    ap (take count) (take_rest list low)
    ∙ cut_is event_number e.0.0 list low count a (subst (λ l. count ≤ length l) (take_rest list low) b) p
    (subst (λ l. IsPartitionPoint (λ x. leb (event_number x) e.0.0 ≡ true) (λ x. leb (event_number x) e.0.0 ≡ false) l count) (take_rest list low) q)
    ∙ of_number e list

sorted_numbers : (rows : List Row) → Rises rows → IsSorted nat_cmp (map event_number rows)
sorted_numbers [] h = λ k d low high. absurd (omega arith)
sorted_numbers (x ∷ xs) h = λ k d low high.
    let size : length (map event_number (x ∷ xs)) ≡ length (x ∷ xs) = length-map (x ∷ xs) event_number in
    let at : slice_index_or (map event_number (x ∷ xs)) k d ≡ event_number (slice_index_or (x ∷ xs) k x) = get_or-map event_number (x ∷ xs) k x d (omega (arith, size, high)) in
    let next : slice_index_or (map event_number (x ∷ xs)) (k + 1) d ≡ event_number (slice_index_or (x ∷ xs) (k + 1) x) = get_or-map event_number (x ∷ xs) (k + 1) x d (omega (arith, size, high)) in
    let le : event_number (slice_index_or (x ∷ xs) k x) ≤ event_number (slice_index_or (x ∷ xs) (k + 1) x) = h k (k + 1) x (omega arith) (omega (arith, size, high)) in
    (λ i. is_lt (nat_cmp (next i) (at i))) ∙ not_less _ _ le
  where
    not_less : (m n : ℕ) → m ≤ n → is_lt (nat_cmp n m) ≡ false
    not_less m n le = grind (arith, nat_tests)

-- the numbers of the events of rows that rise ascend
pub rising_numbers : (list : List Row) → Rises list → IsStrictlySortedBy nat_cmp (dedup eqb (map event_number list))
rising_numbers list rises = IsStrictlySortedBy-dedup nat_cmp_total (λ x y. grind (arith, nat_tests)) (map event_number list) (sorted_numbers list rises)

module _ (list rows : List Row) (by : IsByEvent list rows) where
  -- the numbers of the events ascend
  pub numbers_ascend : IsStrictlySortedBy nat_cmp (dedup eqb (map event_number list))
  numbers_ascend = rising_numbers list by.rises

  -- that of each row is among them
  pub numbers_reach : (row : Row) → Contains rows row → Contains (dedup eqb (map event_number list)) (event_number row)
  numbers_reach row m =
      Contains-dedup_nat (map event_number list) (event_number row)
      (map_has event_number list row
      (of_part (λ r. same_event (event_of r.key) (event_of row.key)) list row
      (subst (λ l. Contains l row) (sym (by.same (event_of row.key))) (kept_has (λ r. same_event (event_of r.key) (event_of row.key)) rows row m (same_event-refl (event_of row.key))))).1)
