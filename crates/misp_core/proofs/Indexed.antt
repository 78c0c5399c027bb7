-- The index has the events one after another, each as it is shown from its own rows.
use Rattle.std.proofs.Common.{◌≡◌, ◌⊎◌, inl, inr, ℕ, List, [], ◌∷◌, Bool, true, false, Contains, Option, Some, None, ap, arith, cond, eqb, eqb-true, filter, filter_map, find, is_lt, is_some, ltb, map, nat_cmp, option_map, refl, subst, sym, ◌∙◌, ◌&&◌, ◌||◌}
use Rattle.std.specs.List.{cons_option, dedup}
use Rattle.std.specs.List.Sorted.{IsStrictlySortedBy}
use Rattle.std.proofs.lemmas.Cmp.{nat_cmp_total}
use Rattle.std.proofs.lemmas.List.Kept.{IsStrictlySortedBy-filter}
use Rattle.misp_lists.specs.Order.{in_order, is_less}
use Rattle.misp_lists.proofs.All.{all_among, all_of, all_true}
use Rattle.misp_lists.proofs.Distinct.{distinct_map, distinct_part}
use Rattle.misp_lists.proofs.Elements.{first_or, found_among, here, kept_has, map_from, map_has, of_part, there}
use Rattle.misp_lists.proofs.Ordering.{from_in_order, in_order_has, in_order_map, in_order_same}
use Rattle.misp_lists.proofs.Orders.{itself, less_is}
use Rattle.misp_lists.proofs.Sorting.{ascend_in_order}
use Rattle.misp_model.specs.Machine.{event_number, event_rows, seeing}
use Rattle.misp_model.specs.Shown.{index, is_chosen, order_of}
use Rattle.misp_model.proofs.KnownShown.{index_known, shown_known}
use Rattle.misp_model.proofs.OneEvent.{shown_of_event}
use Rattle.misp_model.proofs.Prelude.{EventId, IsDistinct, IsTable, Row, Scene, VisibleEvent, and_from, and_parts, chosen, event_key, event_of, event_row, false≢true, first_of_all, form_of, granted, in_one_cell, list_all}
use Rattle.misp_model.proofs.Prelude.{nat_tests, one_cell, row_cell_back, same_key, same_key-refl, same_key-sound, same_org, same_org-refl, same_org-sound, shown, sorted, spell, uuid_at}
use Rattle.misp_core.specs.Pulling.{IsByEvent, event_at}
use Rattle.misp_core.proofs.Arriving.{part_table}
use Rattle.misp_core.proofs.Numbered.{numbers_ascend, numbers_reach, same_numbers}

-- ---- rows of a table

-- of two of one owner and key there is one
pub one_row : (rows : List Row) → IsTable rows → (a b : Row) → Contains rows a → Contains rows b → in_one_cell a b ≡ true → a ≡ b
unfolding IsDistinct
one_row [] t a b m n h = let lt = m.1 in absurd (omega arith)
one_row (x ∷ xs) t a b m n h = both (λ k l. one_row xs t.1 a b k l h) (first_or x xs a m) (first_or x xs b n)
  where
    apart : (y : Row) → Contains xs y → in_one_cell x y ≡ false
    apart y k = all_of (λ z. in_one_cell x z ≡ false) xs y t.0 k

    both : (Contains xs a → Contains xs b → a ≡ b) → (x ≡ a) ⊎ Contains xs a → (x ≡ b) ⊎ Contains xs b → a ≡ b
    both rest (inl e) (inl f) = sym e ∙ f
    both rest (inl e) (inr k) = absurd (false≢true (sym (apart b k) ∙ ap (λ z. in_one_cell z b) e ∙ h))
    both rest (inr k) (inl f) = absurd (false≢true (sym (row_cell_back x a (apart a k)) ∙ ap (in_one_cell a) f ∙ h))
    both rest (inr k) (inr l) = rest k l

-- ---- lists

module _ {X : Type 0} (f : ℕ → Option X) where
  -- what is told of numbers is told of those of which something is
  pub told_only : (p : ℕ → Bool) → ((n : ℕ) → p n ≡ false → f n ≡ None) → (ns : List ℕ) → filter_map f ns ≡ filter_map f (filter p ns)
  told_only p none [] = refl
  told_only p none (n ∷ ns) = one (p n) refl (told_only p none ns)
    where
      one : (b : Bool) → p n ≡ b → filter_map f ns ≡ filter_map f (filter p ns) → cons_option (f n) (filter_map f ns) ≡ filter_map f (cond b (n ∷ filter p ns) (filter p ns))
      one true e ih = ap (cons_option (f n)) ih
      one false e ih = ap (λ o. cons_option o (filter_map f ns)) (none n e) ∙ ih

  -- what is told of the numbers of items, where it is of each of them
  pub told_each : {Y : Type 0} (number : Y → ℕ) (g : Y → X) (ys : List Y) → ((y : Y) → Contains ys y → f (number y) ≡ Some (g y)) → map g ys ≡ filter_map f (map number ys)
  told_each number g [] each = refl
  told_each number g (y ∷ ys) each =
      ap (λ l. g y ∷ l) (told_each number g ys (λ z m. each z (there y ys z m)))
      ∙ ap (λ o. cons_option o (filter_map f (map number ys))) (sym (each y (here y ys)))

-- ---- the chosen rows

module _ (s : Scene) (table : IsTable s.rows) where
  abbrev choice : EventId → Option Row
  choice e = chosen s.rows s.groups s.at s.by e

  abbrev listed : List Row
  listed = filter (is_chosen s) s.rows

  abbrev is_own : Row → Bool
  is_own row = same_key row.key (event_key (event_of row.key))

  -- the chosen row of an event is a row of the event itself
  chosen_has : (e : EventId) (best : Row) → choice e ≡ Some best → (best.key ≡ event_key e) × Contains s.rows best
  unfolding chosen first_of_all
  chosen_has e best h =
      let part = of_part (λ row. same_key row.key (event_key e) && granted s.rows s.groups s.at s.by row) s.rows best (found_among _ _ best h) in
      (same_key-sound best.key (event_key e) (and_parts _ _ part.0).0, part.1)

  own_key : (row : Row) → is_own row ≡ true → row.key ≡ event_key (event_of row.key)
  own_key row h = same_key-sound row.key (event_key (event_of row.key)) h

  chosen_own : (row : Row) → is_chosen s row ≡ true → is_own row ≡ true
  unfolding is_chosen
  chosen_own row h = (and_parts _ _ h).0

  -- a row of the list is the chosen one of its event
  chosen_is : (row : Row) → Contains s.rows row → is_chosen s row ≡ true → choice (event_of row.key) ≡ Some row
  unfolding is_chosen
  chosen_is row m h = one (choice (event_of row.key)) refl (and_parts _ _ h).1
    where
      one : (o : Option Row) → choice (event_of row.key) ≡ o → (elim o as (λ x. Bool) [ None ↦ false | Some best ↦ same_org best.owner row.owner ]) ≡ true → choice (event_of row.key) ≡ Some row
      one None e g = absurd (false≢true g)
      one (Some best) e g =
          let is = chosen_has (event_of row.key) best e in
          e ∙ ap Some (one_row s.rows table best row is.1 m (one_cell best row (same_org-sound best.owner row.owner g) (is.0 ∙ sym (own_key row (chosen_own row h)))))

  event_key_of : (e : EventId) → event_of (event_key e) ≡ e
  unfolding event_of event_key
  event_key_of e = refl

  -- and the chosen row of an event is one of the list
  chosen_listed : (e : EventId) (best : Row) → choice e ≡ Some best → Contains listed best × (event_of best.key ≡ e)
  unfolding is_chosen
  chosen_listed e best h =
      let is = chosen_has e best h in
      let event : event_of best.key ≡ e = ap event_of is.0 ∙ event_key_of e in
      let own : is_own best ≡ true = ap (λ k. same_key k (event_key (event_of best.key))) is.0 ∙ ap (λ f. same_key (event_key e) (event_key f)) event ∙ same_key-refl (event_key e) in
      let mine : choice (event_of best.key) ≡ Some best = ap choice event ∙ h in (
        kept_has (is_chosen s) s.rows best is.1
            (and_from _ _ own ((λ i. elim (mine i) as (λ x. Bool) [ None ↦ false | Some row ↦ same_org row.owner best.owner ]) ∙ same_org-refl best.owner)),
        event,
      )

  -- ---- in the order of their numbers

  abbrev goes : Row → Row → Bool
  goes a b = is_less (order_of a.key) (order_of b.key)

  abbrev below : Row → Row → Bool
  below a b = ltb (event_number a) (event_number b)

  combine : (s t u : Bool) → (t ≡ true → u ≡ false) → (s || t && u) ≡ s
  combine true t u f = refl
  combine false false u f = refl
  combine false true u f = f refl

  never : (l : List ℕ) → is_less l l ≡ false
  never l = less_is l l ∙ ap is_lt (itself l)

  events : (e f : EventId) → is_less (order_of (event_key e)) (order_of (event_key f)) ≡ ltb e.0.0 f.0.0
  unfolding order_of event_key uuid_at is_less
  events e f = combine (ltb e.0.0 f.0.0) (eqb e.0.0 f.0.0) (is_less (spell (event_key e)) (spell (event_key f)))
      (λ t. ap (λ n. is_less (spell (event_key (event_at n))) (spell (event_key f))) (eqb-true _ _ t) ∙ never (spell (event_key f)))

  agree : (a b : Row) → is_own a ≡ true → is_own b ≡ true → goes a b ≡ below a b
  unfolding event_number
  agree a b h k = (λ i. is_less (order_of (own_key a h i)) (order_of (own_key b k i))) ∙ events (event_of a.key) (event_of b.key)

  all_own : list_all is_own listed ≡ true
  all_own = all_true is_own listed (all_among (λ x. is_own x ≡ true) listed (λ x m. chosen_own x (of_part (is_chosen s) s.rows x m).0))

  listed_numbers : map event_number (sorted listed) ≡ in_order ltb (map event_number listed)
  unfolding sorted
  listed_numbers = ap (map event_number) (in_order_same goes below is_own agree listed all_own) ∙ in_order_map event_number ltb listed

  apart : IsDistinct eqb (map event_number listed)
  unfolding event_number
  apart = distinct_map event_number (λ a b. eqb (event_number a) (event_number b)) eqb (λ a b h. h) listed
      (distinct_part in_one_cell (λ a b. eqb (event_number a) (event_number b)) (is_chosen s) s.rows
      (λ a b m n h k t. alike a b
      (some_row (sym (chosen_is a m h) ∙ ap (λ i. choice (event_at i)) (eqb-true _ _ t) ∙ chosen_is b n k))) table)
    where
      some_row : {a b : Row} → Some a ≡ Some b → a ≡ b
      some_row {a} {b} e = ap (λ o. elim o as (λ x. Row) [ None ↦ a | Some x ↦ x ]) e

      alike : (a b : Row) → a ≡ b → in_one_cell a b ≡ true
      alike a b e = one_cell a b (λ i. (e i).owner) (λ i. (e i).key)

  ascending : IsStrictlySortedBy nat_cmp (map event_number (sorted listed))
  ascending = subst (IsStrictlySortedBy nat_cmp) (sym listed_numbers)
      (ascend_in_order nat_cmp nat_cmp_total ltb (λ x y h. grind (arith, nat_tests)) (λ x y h. grind (arith, nat_tests)) eqb (λ x y. grind (arith, nat_tests)) (map event_number listed) apart)

  sorted_has : (x : Row) → Contains listed x → Contains (sorted listed) x
  unfolding sorted
  sorted_has x m = in_order_has goes listed x m

  from_sorted : (x : Row) → Contains (sorted listed) x → Contains listed x
  unfolding sorted
  from_sorted x m = from_in_order goes listed x m

  abbrev told : ℕ → Option VisibleEvent
  told n = shown s (event_at n) None

  -- there is something of the event of the number
  abbrev has : ℕ → Bool
  has n = is_some (choice (event_at n))

  told_row : (x : Row) → Contains (sorted listed) x → told (event_number x) ≡ Some (form_of s (event_of x.key) x)
  unfolding shown event_row event_number
  told_row x m =
      let part = of_part (is_chosen s) s.rows x (from_sorted x m) in
      ap (option_map (form_of s (event_of x.key))) (chosen_is x part.1 part.0)

  told_none : (n : ℕ) → has n ≡ false → told n ≡ None
  unfolding shown event_row
  told_none n h = one (choice (event_at n)) h
    where
      one : (o : Option Row) → is_some o ≡ false → option_map (form_of s (event_at n)) o ≡ None
      one None e = refl
      one (Some x) e = absurd (false≢true (sym e))

  module _ (numbers : List ℕ) (up : IsStrictlySortedBy nat_cmp numbers) (reach : (row : Row) → Contains s.rows row → Contains numbers (event_number row)) where
    to_listed : (n : ℕ) → Contains (filter has numbers) n → Contains (map event_number (sorted listed)) n
    unfolding event_number
    to_listed n m = one (choice (event_at n)) refl (of_part has numbers n m).0
      where
        one : (o : Option Row) → choice (event_at n) ≡ o → is_some o ≡ true → Contains (map event_number (sorted listed)) n
        one None e h = absurd (false≢true h)
        one (Some best) e h =
            let is = chosen_listed (event_at n) best e in
            subst (Contains (map event_number (sorted listed))) (ap (λ (f : EventId). f.0.0) is.1) (map_has event_number (sorted listed) best (sorted_has best is.0))

    from_listed : (n : ℕ) → Contains (map event_number (sorted listed)) n → Contains (filter has numbers) n
    unfolding event_number
    from_listed n m =
        let f = map_from event_number (sorted listed) n m in
        let part = of_part (is_chosen s) s.rows f.0 (from_sorted f.0 f.1.0) in
        kept_has has numbers n (subst (Contains numbers) f.1.1 (reach f.0 part.1))
        (subst (λ i. has i ≡ true) f.1.1 (ap is_some (chosen_is f.0 part.1 part.0)))

    pub index_is : index s ≡ filter_map told numbers
    unfolding index
    index_is =
        told_each told event_number (λ row. form_of s (event_of row.key) row) (sorted listed) told_row
        ∙ sym (told_only told has told_none numbers
        ∙ ap (filter_map told) (same_numbers (filter has numbers) (map event_number (sorted listed)) (IsStrictlySortedBy-filter nat_cmp has numbers up) ascending to_listed from_listed))

-- ---- from what the caller knows of a table, event by event

module _ (s : Scene) (rows : List Row) (table : IsTable rows) (numbers : List ℕ) (up : IsStrictlySortedBy nat_cmp numbers)
    (reach : (row : Row) → Contains rows row → Contains numbers (event_number row)) where
  one_event : (n : ℕ) → shown (record s { rows = rows }) (event_at n) None ≡ shown (seeing s (event_rows (event_at n) rows)) (event_at n) None
  one_event n = sym (shown_known rows s table (event_at n) None) ∙ sym (shown_of_event (event_at n) rows s None)

  pub index_from : index (seeing s rows) ≡ filter_map (λ n. shown (seeing s (event_rows (event_at n) rows)) (event_at n) None) numbers
  index_from = index_known rows s table ∙ index_is (record s { rows = rows }) table numbers up reach ∙ (λ i. filter_map (λ n. one_event n i) numbers)

pub index_of : (s : Scene) (list rows : List Row) → IsTable rows → IsByEvent list rows
    → index (seeing s rows) ≡ filter_map (λ n. shown (seeing s (event_rows (event_at n) rows)) (event_at n) None) (dedup eqb (map event_number list))
index_of s list rows table by = index_from s rows table (dedup eqb (map event_number list)) (numbers_ascend list rows by) (numbers_reach list rows by)

-- what is shown from the rows of the event of a number
pub seen_is : (s : Scene) (e : EventId) (n : ℕ) (rows part : List Row) → IsTable rows → e ≡ event_at n → part ≡ event_rows e rows
    → (P : Option VisibleEvent → Type 0) → (IsTable part → P (shown (seeing s part) e None)) → P (shown (seeing s (event_rows (event_at n) rows)) (event_at n) None)
seen_is s e n rows part table at is P told =
    subst P (ap (λ l. shown (seeing s l) e None) is ∙ ap (λ (id : EventId). shown (seeing s (event_rows id rows)) id None) at) (told (part_table e rows part is table))
