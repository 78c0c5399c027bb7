-- The events of which a pull brings something are those of which there is a package.
use Rattle.std.proofs.Common.{◌≡◌, ℕ, ◌<◌, zero, suc, Bool, true, false, List, [], ◌∷◌, ◌++◌, Contains, ap, arith, cond, eqb, eqb-true, filter, filter_map, flat_map, length, is_lt, lt-ltb, ltb, ltb-true, map, nat_cmp, refl, subst, sym, ◌∙◌, ◌&&◌, ◌||◌}
use Rattle.std.specs.List.{cons_option}
use Rattle.std.specs.List.Sorted.{IsStrictlySortedBy}
use Rattle.std.proofs.lemmas.Cmp.{nat_cmp_total}
use Rattle.std.proofs.lemmas.List.Kept.{IsStrictlySortedBy-filter}
use Rattle.misp_lists.specs.Order.{in_order, is_less}
use Rattle.misp_lists.proofs.All.{all_among, all_true}
use Rattle.misp_lists.proofs.Distinct.{distinct_map, distinct_part}
use Rattle.misp_lists.proofs.Elements.{all_has, here, kept_has, map_from, map_has, of_part}
use Rattle.misp_lists.proofs.Lists.{map_twice}
use Rattle.misp_lists.proofs.Ordering.{from_in_order, in_order_has, in_order_map, in_order_same}
use Rattle.misp_lists.proofs.Orders.{itself, less_is}
use Rattle.misp_lists.proofs.Sorting.{ascend_in_order}
use Rattle.misp_manifest.specs.declared.manifest.ManifestFields.{ManifestFields}
use Rattle.misp_model.specs.Machine.{event_number}
use Rattle.misp_model.specs.Manifests.{said_of}
use Rattle.misp_model.specs.Package.{nobody}
use Rattle.misp_model.specs.Packing.{cut, is_own, onto, others_with, packages}
use Rattle.misp_model.proofs.Prelude.{EventId, IsDistinct, IsTable, Row, and_from, and_parts, event_key, event_of, event_rows, in_one_cell, list_all, nat_tests, one_cell, same_event, same_event-sound}
use Rattle.misp_model.proofs.Prelude.{same_key-sound, same_org, same_org-sound, spell, stands_before}
use Rattle.misp_history.proofs.Tables.{in_order_rows}
use Rattle.misp_manifest.specs.Manifest.{manifest_event}
use Rattle.misp_core.specs.Answers.{event_parts}
use Rattle.misp_core.specs.Pulling.{event_at, parts_where}
use Rattle.misp_core.specs.declared.reply.EventParts.{EventParts}
use Rattle.misp_core.proofs.Numbered.{same_numbers}

-- ---- packages

module _ {X : Type 0} where
  onto_some : (x : X) (cs : List (List X)) → 0 < length (onto x cs)
  onto_some x [] = omega arith
  onto_some x (c ∷ cs) = omega arith

  cut_some : (n : ℕ) (xs : List X) → 0 < length (cut n xs)
  unfolding cut
  cut_some n [] = omega arith
  cut_some zero (x ∷ xs) = omega arith
  cut_some (suc n) (x ∷ xs) = onto_some x (cut n xs)

some_map : {X Y : Type 0} (f : X → Y) (xs : List X) → 0 < length xs → 0 < length (map f xs)
some_map f [] h = h
some_map f (x ∷ xs) h = omega arith

some_with : {X : Type 0} (xs ys : List X) → 0 < length xs → 0 < length (xs ++ ys)
some_with [] ys h = absurd (omega arith)
some_with (x ∷ xs) ys h = omega arith

-- of rows with an own one there is a package
pub some_package : (rows : List Row) (x : Row) → Contains rows x → is_own x ≡ true → 0 < length (packages rows)
unfolding packages
some_package rows x m own = one (filter is_own (in_order stands_before rows)) (kept_has is_own (in_order stands_before rows) x (in_order_has stands_before rows x m) own)
  where
    one : (owns : List Row) → Contains owns x → 0 < length (flat_map (λ y. map (λ c. y ∷ c) (cut 64 (others_with (in_order stands_before rows) y))) owns)
    one [] k = let lt = k.1 in absurd (omega arith)
    one (y ∷ ys) k = some_with _ _ (some_map (λ c. y ∷ c) (cut 64 (others_with (in_order stands_before rows) y)) (cut_some 64 (others_with (in_order stands_before rows) y)))

-- and a package has an own one
pub own_of_package : (rows : List Row) → 0 < length (packages rows) → (x : Row) × (Contains rows x × (is_own x ≡ true))
unfolding packages
own_of_package rows h = one (filter is_own (in_order stands_before rows)) (λ y m. of_part is_own (in_order stands_before rows) y m) h
  where
    one : (owns : List Row) → ((y : Row) → Contains owns y → (is_own y ≡ true) × Contains (in_order stands_before rows) y) → 0 < length (flat_map (λ y. map (λ c. y ∷ c) (cut 64 (others_with (in_order stands_before rows) y))) owns)
        → (x : Row) × (Contains rows x × (is_own x ≡ true))
    one [] part k = absurd (omega arith)
    one (y ∷ ys) part k = (y, (from_in_order stands_before rows y (part y (here y ys)).1, (part y (here y ys)).0))

-- ---- told numbers

module _ (count : ℕ → ℕ) where
  abbrev counted : ℕ → EventParts
  counted n = record { event = event_at n; parts = count n }

  abbrev has : ℕ → Bool
  has n = ltb 0 (count n)

  one_kept : (n k : ℕ) (ns : List ℕ) (rest : List EventParts) → count n ≡ k → rest ≡ map counted (filter has ns)
      → cons_option (parts_where (event_at n) (count n)) rest ≡ map counted (cond (has n) (n ∷ filter has ns) (filter has ns))
  one_kept n zero ns rest e h = rw e h
  one_kept n (suc k) ns rest e h = rw e (rw (lt-ltb 0 (suc k) (omega arith)) (λ i. record { event = event_at n; parts = sym e i } ∷ h i))

  told_kept : (ns : List ℕ) → filter_map (λ n. parts_where (event_at n) (count n)) ns ≡ map counted (filter has ns)
  told_kept [] = refl
  told_kept (n ∷ ns) = one_kept n (count n) ns (filter_map (λ n. parts_where (event_at n) (count n)) ns) refl (told_kept ns)

-- ---- what is said

module _ (made : ℕ → List (List Row)) where
  abbrev said : ℕ → ManifestFields
  said n = said_of (event_at n) (made n)

  one_said : (n : ℕ) (ps : List (List Row)) (ns : List ℕ) (rest : List ManifestFields) → made n ≡ ps → rest ≡ map said ns
      → cons_option (manifest_event (event_at n) (made n)) rest ≡ map said (cond (ltb 0 (length (made n))) (n ∷ ns) ns)
  one_said n [] ns rest e h = rw e h
  one_said n (p ∷ ps) ns rest e h = rw e (rw (lt-ltb 0 (length (p ∷ ps)) (omega arith)) (λ i. said_of (event_at n) (sym e i) ∷ h i))

  said_kept : (ns : List ℕ) → filter_map (λ n. manifest_event (event_at n) (made n)) ns ≡ map said (filter (λ n. ltb 0 (length (made n))) ns)
  said_kept [] = refl
  said_kept (n ∷ ns) = one_said n (made n) (filter (λ n. ltb 0 (length (made n))) ns) (filter_map (λ n. manifest_event (event_at n) (made n)) ns) refl (said_kept ns)

-- ---- own rows

module _ (arr : List Row) (owned : list_all (λ row. same_org row.owner nobody) arr ≡ true) (table : IsTable arr) where
  abbrev sorted : List Row
  sorted = in_order stands_before arr

  abbrev owns : List Row
  owns = filter is_own sorted

  abbrev is_ours : Row → Bool
  is_ours row = same_org row.owner nobody && is_own row

  own_key : (row : Row) → is_own row ≡ true → row.key ≡ event_key (event_of row.key)
  unfolding is_own
  own_key row h = same_key-sound row.key (event_key (event_of row.key)) h

  -- own rows stand as their numbers do
  agree : (a b : Row) → is_ours a ≡ true → is_ours b ≡ true → stands_before a b ≡ ltb (event_number a) (event_number b)
  unfolding stands_before event_number is_less
  agree a b h k = combine (ltb (event_of a.key).0.0 (event_of b.key).0.0) (eqb (event_of a.key).0.0 (event_of b.key).0.0) (is_less (a.owner.0.0 ∷ spell a.key) (b.owner.0.0 ∷ spell b.key))
      (λ t. ap (λ l. is_less l (b.owner.0.0 ∷ spell b.key)) (same_tail (eqb-true _ _ t)) ∙ never (b.owner.0.0 ∷ spell b.key))
    where
      combine : (s t u : Bool) → (t ≡ true → u ≡ false) → (s || t && u) ≡ s
      combine true t u f = refl
      combine false false u f = refl
      combine false true u f = f refl

      never : (l : List ℕ) → is_less l l ≡ false
      never l = less_is l l ∙ ap is_lt (itself l)

      same_tail : (event_of a.key).0.0 ≡ (event_of b.key).0.0 → a.owner.0.0 ∷ spell a.key ≡ b.owner.0.0 ∷ spell b.key
      same_tail e =
          let mine : (same_org a.owner nobody ≡ true) × (is_own a ≡ true) = and_parts _ _ h in
          let its : (same_org b.owner nobody ≡ true) × (is_own b ≡ true) = and_parts _ _ k in
          let owners : a.owner ≡ b.owner = same_org-sound a.owner nobody mine.0 ∙ sym (same_org-sound b.owner nobody its.0) in
          let keys : a.key ≡ b.key = own_key a mine.1 ∙ ap (λ n. event_key (event_at n)) e ∙ sym (own_key b its.1) in
          λ i. (owners i).0.0 ∷ spell (keys i)

  ours : list_all is_ours (filter is_own arr) ≡ true
  ours = all_true is_ours (filter is_own arr) (all_among (λ x. is_ours x ≡ true) (filter is_own arr) (λ x m.
      let two = of_part is_own arr x m in and_from _ _ (all_has (λ row. same_org row.owner nobody) arr x owned two.1) two.0))

  own_numbers : map event_number owns ≡ in_order ltb (map event_number (filter is_own arr))
  own_numbers =
      ap (map event_number) (in_order_rows is_own arr ∙ in_order_same stands_before (λ a b. ltb (event_number a) (event_number b)) is_ours agree (filter is_own arr) ours)
      ∙ in_order_map event_number ltb (filter is_own arr)

  apart : IsDistinct eqb (map event_number (filter is_own arr))
  unfolding event_number
  apart = distinct_map event_number (λ a b. eqb (event_number a) (event_number b)) eqb (λ a b h. h) (filter is_own arr)
      (distinct_part in_one_cell (λ a b. eqb (event_number a) (event_number b)) is_own arr
      (λ a b m n h k s. one_cell a b
      (same_org-sound a.owner nobody (all_has (λ row. same_org row.owner nobody) arr a owned m) ∙ sym (same_org-sound b.owner nobody (all_has (λ row. same_org row.owner nobody) arr b owned n)))
      (own_key a h ∙ ap (λ i. event_key (event_at i)) (eqb-true _ _ s) ∙ sym (own_key b k))) table)

  pub own_ascend : IsStrictlySortedBy nat_cmp (map event_number owns)
  own_ascend = subst (IsStrictlySortedBy nat_cmp) (sym own_numbers)
      (ascend_in_order nat_cmp nat_cmp_total ltb (λ x y h. grind (arith, nat_tests)) (λ x y h. grind (arith, nat_tests)) eqb (λ x y. grind (arith, nat_tests)) (map event_number (filter is_own arr)) apart)

  -- how many packages there are of the event of a number
  abbrev count : ℕ → ℕ
  count n = length (packages (event_rows (event_at n) arr))

  module _ (numbers : List ℕ) (up : IsStrictlySortedBy nat_cmp numbers) (reach : (row : Row) → Contains arr row → Contains numbers (event_number row)) where
    of_own : (n : ℕ) → Contains (map event_number owns) n → Contains (filter (has count) numbers) n
    unfolding event_number same_event
    of_own n m =
        let f = map_from event_number owns n m in
        let part = of_part is_own sorted f.0 f.1.0 in
        let among = from_in_order stands_before arr f.0 part.1 in
        let here_ = kept_has (λ row. same_event (event_of row.key) (event_at n)) arr f.0 among (number_event f.0 f.1.1) in
        kept_has (has count) numbers n (subst (Contains numbers) f.1.1 (reach f.0 among)) (lt-ltb 0 (count n) (some_package (event_rows (event_at n) arr) f.0 here_ part.0))
      where
        number_event : (row : Row) → (event_of row.key).0.0 ≡ n → same_event (event_of row.key) (event_at n) ≡ true
        number_event row e = grind (arith, nat_tests)

    to_own : (n : ℕ) → Contains (filter (has count) numbers) n → Contains (map event_number owns) n
    unfolding event_number
    to_own n m =
        let f = own_of_package (event_rows (event_at n) arr) (ltb-true 0 (count n) (of_part (has count) numbers n m).0) in
        let part = of_part (λ row. same_event (event_of row.key) (event_at n)) arr f.0 f.1.0 in
        subst (Contains (map event_number owns)) (ap (λ (e : EventId). e.0.0) (same_event-sound (event_of f.0.key) (event_at n) part.0))
        (map_has event_number owns f.0 (kept_has is_own sorted f.0 (in_order_has stands_before arr f.0 part.1) f.1.1))

    -- the numbers of the events of which there is a package are those of the own rows that arrive, in their order
    pub numbers_packed : filter (has count) numbers ≡ map event_number owns
    numbers_packed = same_numbers (filter (has count) numbers) (map event_number owns) (IsStrictlySortedBy-filter nat_cmp (has count) numbers up) own_ascend to_own of_own

    -- and so are the events
    pub events_counted : filter_map (λ n. parts_where (event_at n) (count n)) numbers ≡ map event_parts (map (λ row. (event_of row.key, length (packages (event_rows (event_of row.key) arr)))) owns)
    unfolding event_number
    events_counted =
        told_kept count numbers
        ∙ ap (map (counted count)) numbers_packed
        ∙ map_twice event_number (counted count) (λ row. record { event = event_of row.key; parts = length (packages (event_rows (event_of row.key) arr)) }) (λ row. refl) owns
        ∙ sym (map_twice (λ row. (event_of row.key, length (packages (event_rows (event_of row.key) arr)))) event_parts (λ row. record { event = event_of row.key; parts = length (packages (event_rows (event_of row.key) arr)) }) (λ row. refl) owns)

    -- so what is said of each is what is said of these
    pub events_said : filter_map (λ n. manifest_event (event_at n) (packages (event_rows (event_at n) arr))) numbers ≡ map (λ row. said_of (event_of row.key) (packages (event_rows (event_of row.key) arr))) owns
    unfolding event_number
    events_said =
        said_kept (λ n. packages (event_rows (event_at n) arr)) numbers
        ∙ ap (map (λ n. said_of (event_at n) (packages (event_rows (event_at n) arr)))) numbers_packed
        ∙ map_twice event_number (λ n. said_of (event_at n) (packages (event_rows (event_at n) arr))) (λ row. said_of (event_of row.key) (packages (event_rows (event_of row.key) arr))) (λ row. refl) owns
