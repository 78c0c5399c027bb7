-- The packages of what arrives are packages of it, and have all of it.
use Rattle.std.proofs.Common.{◌≡◌, arith, List, [], ◌∷◌, ◌++◌, sym, inl, inr, subst, ℕ, zero, suc, false, refl, true, Bool, ap, ◌∙◌, map, ◌⊎◌, ◌&&◌, not, flat_map, Contains, filter}
use Rattle.misp_history.proofs.Prelude.{AllByRecursion, EventId, IsDistinct, IsPackageOf, IsTable, Row, all_among, all_of, and_from, and_parts, apart_in_order, cases_Bool, event_key, event_of, false_from_ne_true, false≢true, first_or}
use Rattle.misp_history.proofs.Prelude.{found, from_in_order, here, in_one_cell, in_order, in_order_has, is_own, kept_has, list_any, map_from, map_has, not-true, of_part, onto, or_left, others_with, packages, part_is_table, row_cell_back}
use Rattle.misp_history.proofs.Prelude.{same_event, same_event-refl, same_event-sound, same_key, same_key-refl, same_key-sound, same_org, stands_before, there}
use Rattle.misp_history.specs.Merging.{cut}
use Rattle.std.proofs.lemmas.List.Elements.{Contains-append_left, Contains-append_right, Contains-append_cases}

-- ---- lists
module _ {X Y : Type 0} (f : X → List Y) where
  flat_from : (xs : List X) (y : Y) → Contains (flat_map f xs) y → (x : X) × (Contains xs x × Contains (f x) y)
  flat_from [] y m = let lt = m.1 in absurd (omega arith)
  flat_from (x ∷ xs) y m = elim (Contains-append_cases (f x) (flat_map f xs) y m) [ inl n ↦ (x, (here x xs, n)) | inr n ↦ (let g = flat_from xs y n in (g.0, (there x xs g.0 g.1.0, g.1.1))) ]

  flat_has : (xs : List X) (x : X) (y : Y) → Contains xs x → Contains (f x) y → Contains (flat_map f xs) y
  flat_has [] x y m n = let lt = m.1 in absurd (omega arith)
  flat_has (z ∷ xs) x y m n = elim (first_or z xs x m) [
    | inl e ↦ Contains-append_left (f z) (flat_map f xs) y (subst (λ t. Contains (f t) y) (sym e) n)
    | inr k ↦ Contains-append_right (f z) (flat_map f xs) y (flat_has xs x y k n)
  ]

-- ---- a list in parts
module _ {X : Type 0} where
  onto_joined : (x : X) (cs : List (List X)) → flat_map (λ c. c) (onto x cs) ≡ x ∷ flat_map (λ c. c) cs
  onto_joined x [] = refl
  onto_joined x (c ∷ cs) = refl

  -- the parts together are the list
  cut_joined : (n : ℕ) (xs : List X) → flat_map (λ c. c) (cut n xs) ≡ xs
  unfolding cut
  cut_joined n [] = refl
  cut_joined zero (x ∷ xs) = onto_joined x (cut 63 xs) ∙ ap (λ ys. x ∷ ys) (cut_joined 63 xs)
  cut_joined (suc n) (x ∷ xs) = onto_joined x (cut n xs) ∙ ap (λ ys. x ∷ ys) (cut_joined n xs)

  -- there is a part
  onto_some : (x : X) (cs : List (List X)) → (c : List X) × Contains (onto x cs) c
  onto_some x [] = (x ∷ [], here (x ∷ []) [])
  onto_some x (c ∷ cs) = (x ∷ c, here (x ∷ c) cs)

  cut_some : (n : ℕ) (xs : List X) → (c : List X) × Contains (cut n xs) c
  unfolding cut
  cut_some n [] = ([], here [] [])
  cut_some zero (x ∷ xs) = ([], here [] (onto x (cut 63 xs)))
  cut_some (suc n) (x ∷ xs) = onto_some x (cut n xs)

-- parts of a table are tables
both_tables : (xs ys : List Row) → IsTable (xs ++ ys) → IsTable xs × IsTable ys
unfolding IsDistinct
both_tables [] ys d = (tt, d)
both_tables (x ∷ xs) ys d =
    let rest = both_tables xs ys d.1 in
    ((all_among (λ y. in_one_cell x y ≡ false) xs (λ y m. all_of (λ y. in_one_cell x y ≡ false) (xs ++ ys) y d.0 (Contains-append_left xs ys y m)), rest.0), rest.1)

part_tables : (cs : List (List Row)) → IsTable (flat_map (λ c. c) cs) → AllByRecursion IsTable cs
part_tables [] d = tt
part_tables (c ∷ cs) d = let two = both_tables c (flat_map (λ c. c) cs) d in (two.0, part_tables cs two.1)

-- ---- packages
pub event_of_own : (e : EventId) → event_of (event_key e) ≡ e
unfolding event_of event_key
event_of_own e = refl

module _ (rows : List Row) (table : IsTable rows) where
  abbrev sorted : List Row
  sorted = in_order stands_before rows

  -- an event's own row with some of its others
  part_is : (x : Row) (c : List Row) → Contains sorted x → is_own x ≡ true → Contains (cut 64 (others_with sorted x)) c → IsPackageOf rows (x ∷ c)
  unfolding IsDistinct others_with is_own in_one_cell
  part_is x c m own k = record {
    apart = (all_among (λ y. in_one_cell x y ≡ false) c (λ y n. not_own y (of_c y n).0), all_of IsTable (cut 64 (others_with sorted x)) c (part_tables (cut 64 (others_with sorted x)) tables) k);
    come = λ y n. from_in_order stands_before rows y (elim (first_or x c y n) [ inl e ↦ subst (Contains sorted) e m | inr l ↦ (of_c y l).1 ]);
    with_event = λ y n. or_left _ _ (event_is y (first_or x c y n));
  }
    where
      is_other : Row → Bool
      is_other r = same_event (event_of r.key) (event_of x.key) && not (is_own r)

      tables : IsTable (flat_map (λ c. c) (cut 64 (others_with sorted x)))
      tables = subst IsTable (sym (cut_joined 64 (others_with sorted x))) (part_is_table is_other sorted (apart_in_order in_one_cell row_cell_back stands_before rows table))

      of_c : (y : Row) → Contains c y → (is_other y ≡ true) × Contains sorted y
      of_c y n = of_part is_other sorted y (subst (λ ys. Contains ys y) (cut_joined 64 (others_with sorted x)) (flat_has (λ c. c) (cut 64 (others_with sorted x)) c y k n))

      not_own : (y : Row) → is_other y ≡ true → in_one_cell x y ≡ false
      not_own y h = false_from_ne_true (in_one_cell x y) (λ g.
          false≢true (sym (not-true (is_own y) (and_parts (same_event (event_of y.key) (event_of x.key)) (not (is_own y)) h).1)
          ∙ ap (λ j. same_key j (event_key (event_of j))) (sym (same_key-sound x.key y.key (and_parts (same_org x.owner y.owner) (same_key x.key y.key) g).1)) ∙ own))

      event_is : (y : Row) → (x ≡ y) ⊎ Contains c y → same_key x.key (event_key (event_of y.key)) ≡ true
      event_is y (inl e) = ap (λ (r : Row). same_key x.key (event_key (event_of r.key))) (sym e) ∙ own
      event_is y (inr n) = ap (λ f. same_key x.key (event_key f)) (same_event-sound (event_of y.key) (event_of x.key) (and_parts (same_event (event_of y.key) (event_of x.key)) (not (is_own y)) (of_c y n).0).0) ∙ own

  pub packages_are : AllByRecursion (IsPackageOf rows) (packages rows)
  unfolding packages
  packages_are = all_among (IsPackageOf rows) (packages rows) (λ p m.
      let f = flat_from (λ x. map (λ c. x ∷ c) (cut 64 (others_with sorted x))) (filter is_own sorted) p m in
      let g = map_from (λ c. f.0 ∷ c) (cut 64 (others_with sorted f.0)) p f.1.1 in
      let h = of_part is_own sorted f.0 f.1.0 in
      subst (IsPackageOf rows) g.1.1 (part_is f.0 g.0 h.1 h.0 g.1.0))

  package_of : (x : Row) (c : List Row) → Contains rows x → is_own x ≡ true → Contains (cut 64 (others_with sorted x)) c → Contains (packages rows) (x ∷ c)
  unfolding packages
  package_of x c m own k =
      flat_has (λ x. map (λ c. x ∷ c) (cut 64 (others_with sorted x))) (filter is_own sorted) x (x ∷ c)
      (kept_has is_own sorted x (in_order_has stands_before rows x m) own) (map_has (λ c. x ∷ c) (cut 64 (others_with sorted x)) c k)

  -- where each row comes with its event's own, each is in a package
  pub packages_cover : ((x : Row) → Contains rows x → list_any (λ r. same_key r.key (event_key (event_of x.key))) rows ≡ true) → (x : Row) → Contains rows x → (p : List Row) × (Contains (packages rows) p × Contains p x)
  unfolding others_with is_own event_of event_key
  packages_cover events x m = elim (cases_Bool (is_own x)) [
    | inl own ↦ (let g = cut_some 64 (others_with sorted x) in (x ∷ g.0, (package_of x g.0 m own g.1, here x g.0)))
    | inr apart ↦ (let f = found (λ r. same_key r.key (event_key (event_of x.key))) rows (events x m) in
        let key : f.0.key ≡ event_key (event_of x.key) = same_key-sound f.0.key (event_key (event_of x.key)) f.1.1 in
        let own : is_own f.0 ≡ true = ap (λ j. same_key j (event_key (event_of j))) key ∙ same_key-refl (event_key (event_of x.key)) in
        let among : Contains (others_with sorted f.0) x =
        kept_has (λ r. same_event (event_of r.key) (event_of f.0.key) && not (is_own r)) sorted x (in_order_has stands_before rows x m)
        (and_from _ _ (ap (same_event (event_of x.key)) (ap event_of key) ∙ same_event-refl (event_of x.key)) (ap not apart)) in
        let g = flat_from (λ c. c) (cut 64 (others_with sorted f.0)) x (subst (λ ys. Contains ys x) (sym (cut_joined 64 (others_with sorted f.0))) among) in
        (f.0 ∷ g.0, (package_of f.0 g.0 f.1.0 own g.1.0, there f.0 g.0 x g.1.1)))
  ]
