-- What comes in the order of its keys is put one after another.
use Rattle.std.proofs.Common.{◌≡◌, ℕ, ◌+◌, List, [], ◌∷◌, ◌++◌, map, Ok, refl, sym, ap, ◌∙◌, append_assoc, subst, Ordering, Less, Greater, append-nil}
use Rattle.misp_lists.specs.Prelude.{IsTotalOrder, ordering_reverse}
use Rattle.misp_format.specs.Prelude.{◌>>=◌, AllByRecursion, Data, IsStrictlySortedBy, Reading, each, insert_entry, items_of}

below_middle : {A : Type 0} (R : A → A → Ordering) (first : A) (done : List A) (a : A) (more : List A) → AllByRecursion (λ y. R first y ≡ Less) (done ++ a ∷ more) → R first a ≡ Less
below_middle R first [] a more h = h.0
below_middle R first (x ∷ done) a more h = below_middle R first done a more h.1

module _ {A K X : Type 0} (cmp : K → K → Ordering) (total : IsTotalOrder cmp) (key : A → K) (value : A → X) where
  -- each by its key
  abbrev pub entry : A → K × X
  entry a = (key a, value a)

  abbrev pub by_key : A → A → Ordering
  by_key x y = cmp (key x) (key y)

  insert_last : (done : List A) (a : A) (more : List A) → IsStrictlySortedBy by_key (done ++ a ∷ more) → insert_entry cmp (map entry done) (key a) (value a) ≡ map entry (done ++ a ∷ [])
  unfolding IsStrictlySortedBy
  insert_last [] a more h = refl
  insert_last (first ∷ done) a more h =
      let above : cmp (key a) (key first) ≡ Greater = total.antisymm (key a) (key first) ∙ ap ordering_reverse (below_middle by_key first done a more h.0) in
      rw above (ap (λ es. entry first ∷ es) (insert_last done a more h.1))

  pub each_in_order : {Is : A → Type 0} (reads : ℕ → List (K × X) → Data → Reading (List (K × X))) (one : A → Data)
      → ((n : ℕ) (so_far : List (K × X)) (a : A) → Is a → reads n so_far (one a) ≡ Ok (insert_entry cmp so_far (key a) (value a)))
      → (n : ℕ) (done more : List A) → AllByRecursion Is more → IsStrictlySortedBy by_key (done ++ more)
      → each reads n (map entry done) (items_of (map one more)) ≡ Ok (map entry (done ++ more))
  each_in_order reads one back n done [] all up = ap (λ (xs : List A). Ok (map entry xs)) (sym (append-nil done))
  each_in_order reads one back n done (a ∷ more) all up =
      ap (λ (r : Reading (List (K × X))). r >>= λ so_far. each reads (n + 1) so_far (items_of (map one more))) (back n (map entry done) a all.0)
      ∙ ap (λ (es : List (K × X)). each reads (n + 1) es (items_of (map one more))) (insert_last done a more up)
      ∙ each_in_order reads one back (n + 1) (done ++ a ∷ []) more all.1 (subst (IsStrictlySortedBy by_key) (sym (append_assoc done (a ∷ []) more)) up)
      ∙ ap (λ (xs : List A). Ok (map entry xs)) (append_assoc done (a ∷ []) more)
