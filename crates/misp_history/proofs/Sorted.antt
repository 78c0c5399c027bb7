-- Rows in their order: a row of which there is one of the same owner and key takes its place, and rows of different names are put alike, in whatever order they stand.
use Rattle.std.proofs.Common.{◌≡◌, List, [], ◌∷◌, true, false, ap, sym, ◌∙◌, inl, inr, refl, Bool, cond, map, filter, ◌&&◌, not, Contains, arith}
use Rattle.misp_history.proofs.Prelude.{AllByRecursion, IsDistinct, IsTable, Ordered, Row, all_implied, all_in_order, all_kept, all_map, all_of, all_part, all_put, all_true, cases_Bool, event_of, false_from_ne_true, false≢true, filter_all}
use Rattle.misp_history.proofs.Prelude.{filter_cut, first_or, here, in_one_cell, in_order, is_less, is_row_of, kept_has, not-true, of_part, one_cell, part_is_table, put, put_all, put_cut, put_front, put_row, put_swap, row_cell_back}
use Rattle.misp_history.proofs.Prelude.{row_of_name, same_key, same_org, spell, stands_before, there, unheld}
use Rattle.misp_lists.proofs.Orders.{less_past}
use Rattle.misp_history.proofs.Putting.{before_on, before_one_way, names_apart}

before_past : (w x y : Row) → stands_before w y ≡ true → stands_before x y ≡ false → stands_before w x ≡ true
unfolding stands_before
before_past w x y h k = less_past _ _ _ h k

-- each row is before those after it
abbrev pub IsSorted : List Row → Type 0
IsSorted [] = Unit {0}
IsSorted (x ∷ xs) = AllByRecursion (λ y. stands_before x y ≡ true) xs × IsSorted xs

ordered : (xs : List Row) → IsSorted xs → Ordered stands_before before_on before_past xs
ordered [] s = tt
ordered (x ∷ xs) s = ((λ w h. all_implied (λ y. stands_before x y ≡ true) (λ y. stands_before w y ≡ true) (λ y k. before_on w x y h k) xs s.0), ordered xs s.1)

put_sorted : (x : Row) (ys : List Row) → AllByRecursion (λ y. in_one_cell x y ≡ false) ys → IsSorted ys → IsSorted (put stands_before x ys)
unfolding put
put_sorted x [] a s = (tt, tt)
put_sorted x (y ∷ ys) a s = elim (cases_Bool (stands_before x y)) [
  | inl e ↦ rw e ((e, all_implied (λ z. stands_before y z ≡ true) (λ z. stands_before x z ≡ true) (λ z k. before_on x y z e k) ys s.0), s)
  | inr e ↦ rw e (all_put (λ z. stands_before y z ≡ true) stands_before x ys (elim (names_apart x y a.0) [ inl h ↦ absurd (false≢true (sym e ∙ h)) | inr h ↦ h ]) s.0, put_sorted x ys a.1 s.1)
]

pub in_order_sorted : (xs : List Row) → IsTable xs → IsSorted (in_order stands_before xs)
unfolding IsDistinct in_order
in_order_sorted [] d = tt
in_order_sorted (x ∷ xs) d = put_sorted x (in_order stands_before xs) (all_in_order (λ y. in_one_cell x y ≡ false) stands_before xs d.0) (in_order_sorted xs d.1)

sorted_part : (q : Row → Bool) (xs : List Row) → IsSorted xs → IsSorted (filter q xs)
sorted_part q [] s = tt
sorted_part q (x ∷ xs) s = elim (cases_Bool (q x)) [ inl e ↦ rw e (all_part (λ y. stands_before x y ≡ true) q xs s.0, sorted_part q xs s.1) | inr e ↦ rw e (sorted_part q xs s.1) ]

-- the row is not of this row's owner and key
abbrev other : Row → Row → Bool
other x r = not (same_org r.owner x.owner && same_key r.key x.key)

pub put_row_sorted : (row : Row) (rows : List Row) → IsSorted rows → IsSorted (put_row row rows)
unfolding put_row in_one_cell
put_row_sorted row rows s =
    put_sorted row (filter (other row) rows) (all_kept (λ r. in_one_cell row r ≡ false) (other row) (λ r h. row_cell_back r row (not-true _ h)) rows) (sorted_part (other row) rows s)

-- ---- rows put in any order

row_swap : (a b : Row) (rows : List Row) → IsSorted rows → in_one_cell a b ≡ false → put_row a (put_row b rows) ≡ put_row b (put_row a rows)
unfolding put_row in_one_cell
row_swap a b rows s h =
    inner a b h
    ∙ ap (λ rs. put stands_before a (put stands_before b rs)) (filter_cut (other a) (other a) (other b) (λ x e. refl) rows)
    ∙ elim (names_apart a b h) [ inl e ↦ put_swap stands_before before_on before_one_way a b rest e | inr e ↦ sym (put_swap stands_before before_on before_one_way b a rest e) ]
    ∙ sym (inner b a (row_cell_back a b h))
  where
    rest : List Row
    rest = filter (other b) (filter (other a) rows)

    inner : (x y : Row) → in_one_cell x y ≡ false → put stands_before x (filter (other x) (put stands_before y (filter (other y) rows))) ≡ put stands_before x (put stands_before y (filter (other x) (filter (other y) rows)))
    inner x y e =
        ap (put stands_before x)
        (put_cut stands_before before_on before_past (other x) y (filter (other y) rows) (ordered (filter (other y) rows) (sorted_part (other y) rows s))
        ∙ ap (λ t. cond t (put stands_before y (filter (other x) (filter (other y) rows))) (filter (other x) (filter (other y) rows))) (ap not (row_cell_back x y e)))

-- one of them may be put first
put_first : (x : Row) (ys rows : List Row) → IsSorted rows → IsTable ys → Contains ys x → put_all ys rows ≡ put_all (filter (other x) ys) (put_row x rows)
unfolding put_all IsDistinct in_one_cell
put_first x [] rows s d m = let lt = m.1 in absurd (omega arith)
put_first x (y ∷ ys) rows s d m = elim (first_or y ys x m) [
  | inl e ↦ (let its : (same_org y.owner x.owner && same_key y.key x.key) ≡ true = one_cell y x (ap (λ (r : Row). r.owner) e) (ap (λ (r : Row). r.key) e) in
      let all : filter (other x) ys ≡ ys = filter_all (other x) ys (all_true (other x) ys
      (all_implied (λ z. in_one_cell y z ≡ false) (λ z. other x z ≡ true) (λ z k. ap not (row_cell_back x z (ap (λ r. in_one_cell r z) (sym e) ∙ k))) ys d.0)) in
      rw (its, all) (ap (λ r. put_all ys (put_row r rows)) e))
  | inr n ↦ (let apart : (same_org y.owner x.owner && same_key y.key x.key) ≡ false = all_of (λ z. in_one_cell y z ≡ false) ys x d.0 n in
      rw apart (put_first x ys (put_row y rows) (put_row_sorted y rows s) d.1 n ∙ ap (put_all (filter (other x) ys)) (sym (row_swap y x rows s apart))))
]

-- rows of different names that are the same rows are put alike
pub put_same : (xs ys rows : List Row) → IsSorted rows → IsTable xs → IsTable ys → ((z : Row) → Contains xs z → Contains ys z) → ((z : Row) → Contains ys z → Contains xs z) → put_all xs rows ≡ put_all ys rows
unfolding put_all IsDistinct in_one_cell
put_same [] [] rows s d e f g = refl
put_same [] (y ∷ ys) rows s d e f g = let lt = (g y (here y ys)).1 in absurd (omega arith)
put_same (x ∷ xs) ys rows s d e f g =
    put_same xs (filter (other x) ys) (put_row x rows) (put_row_sorted x rows s) d.1 (part_is_table (other x) ys e)
    (λ z m. kept_has (other x) ys z (f z (there x xs z m)) (ap not (row_cell_back x z (all_of (λ y. in_one_cell x y ≡ false) xs z d.0 m))))
    (λ z m. let a = of_part (other x) ys z m in elim (first_or x xs z (g z a.1)) [ inl k ↦ absurd (false≢true (sym (not-true _ a.0) ∙ one_cell z x (ap (λ (r : Row). r.owner) (sym k)) (ap (λ (r : Row). r.key) (sym k)))) | inr k ↦ k ])
    ∙ sym (put_first x ys rows s e (f x (here x xs)))

-- of one name there is one row in a table
pub one_of_name : (xs : List Row) (a b : Row) → IsTable xs → Contains xs a → Contains xs b → in_one_cell a b ≡ true → a ≡ b
unfolding IsDistinct
one_of_name [] a b d m n h = let lt = m.1 in absurd (omega arith)
one_of_name (x ∷ xs) a b d m n h = elim (first_or x xs a m) [
  | inl e ↦ elim (first_or x xs b n) [ inl f ↦ sym e ∙ f | inr k ↦ absurd (false≢true (sym (all_of (λ y. in_one_cell x y ≡ false) xs b d.0 k) ∙ ap (λ z. in_one_cell z b) e ∙ h)) ]
  | inr k ↦ elim (first_or x xs b n) [ inl f ↦ absurd (false≢true (sym (row_cell_back x a (all_of (λ y. in_one_cell x y ≡ false) xs a d.0 k)) ∙ ap (in_one_cell a) f ∙ h)) | inr j ↦ one_of_name xs a b d.1 k j h ]
]

-- ---- rows put in the place of rows that are there

-- a row that stands before another is not of its name
not_beside : (a b : Row) → stands_before a b ≡ true → in_one_cell a b ≡ false
unfolding in_one_cell is_row_of stands_before
not_beside a b h = false_from_ne_true _ (λ g.
    let n : (a.owner ≡ b.owner) × (a.key ≡ b.key) = row_of_name b.owner b.key a g in
    let itself : stands_before b b ≡ true = (λ i. is_less ((event_of (sym n.1 i)).0.0 ∷ (sym n.0 i).0.0 ∷ spell (sym n.1 i)) ((event_of b.key).0.0 ∷ b.owner.0.0 ∷ spell b.key)) ∙ h in
    false≢true (sym (before_one_way b b itself) ∙ itself))

-- a row that stands before others stays in front of them
pass_over_all : (x : Row) (rs xs : List Row) → AllByRecursion (λ r. stands_before x r ≡ true) rs → put_all rs (x ∷ xs) ≡ x ∷ put_all rs xs
unfolding put_all put_row put in_one_cell
pass_over_all x [] xs h = refl
pass_over_all x (r ∷ rs) xs h = rw (not_beside x r h.0, before_one_way x r h.0) (pass_over_all x rs (put_row r xs) h.1)

-- some of a table's rows, put with no hold, lose it in their places
pub put_each : (h : Row → Bool) (rows : List Row) → IsSorted rows → put_all (map unheld (filter h rows)) rows ≡ map (λ r. cond (h r) (unheld r) r) rows
unfolding put_all put_row stands_before in_one_cell
put_each h [] s = refl
put_each h (x ∷ xs) s = elim (cases_Bool (h x)) [
  | inl e ↦ rw e (ap (put_all these) in_place ∙ pass_over_all (unheld x) these xs behind ∙ ap (λ rs. unheld x ∷ rs) (put_each h xs s.1))
  | inr e ↦ rw e (pass_over_all x these xs behind ∙ ap (λ rs. x ∷ rs) (put_each h xs s.1))
]
  where
    these : List Row
    these = map unheld (filter h xs)

    behind : AllByRecursion (λ r. stands_before x r ≡ true) these
    behind = all_map unheld (λ r. stands_before x r ≡ true) (λ r. stands_before x r ≡ true) (λ r k. k) (filter h xs) (all_part (λ r. stands_before x r ≡ true) h xs s.0)

    all : filter (other x) xs ≡ xs
    all = filter_all (other x) xs (all_true (other x) xs (all_implied (λ r. stands_before x r ≡ true) (λ r. other x r ≡ true) (λ r k. ap not (row_cell_back x r (not_beside x r k))) xs s.0))

    in_place : put_row (unheld x) (x ∷ xs) ≡ unheld x ∷ xs
    in_place = rw (one_cell x x refl refl, all) (put_front stands_before (unheld x) xs (all_true (stands_before x) xs s.0))
