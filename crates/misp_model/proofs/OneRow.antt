-- A table has one row for each owner and key, and so has a part of it, and one row more in its place.
use Rattle.std.proofs.Common.{◌≡◌, true, ap, ◌∙◌, false, sym, List, [], ◌∷◌, Bool, refl, inl, inr, ◌&&◌, ◌||◌, not, Contains, filter}
use Rattle.std.proofs.lemmas.Bool.{and_from, and_parts, false≢true, false_from_ne_true, and_left, or_left, or_cases, or_from, and_right, true_from_ne_false, not-true}
use Rattle.std.specs.List.{IsDistinct}
use Rattle.misp_ids.proofs.Same.{same_org-refl, same_org-sound}
use Rattle.misp_lists.proofs.Elements.{any_has}
use Rattle.misp_lists.proofs.Lists.{any_never}
use Rattle.misp_lists.proofs.Distinct.{apart_part, apart_put}
use Rattle.misp_lists.proofs.All.{all_kept}
use Rattle.misp_elem.proofs.Same.{same_key-refl, same_key-sound}
use Rattle.misp_model.specs.Prelude.{AllByRecursion, EventId, IsTable, Key, OrgId, Row, event_key, has_copy, has_gone, is_row_of, is_tombstone, list_any, same_key, same_org, stands_before}
use Rattle.misp_model.specs.View.{in_one_cell}
use Rattle.misp_model.specs.Machine.{put_row}

-- ---- lists that are apart

-- ---- rows of one owner and key
pub one_cell : (a b : Row) → a.owner ≡ b.owner → a.key ≡ b.key → in_one_cell a b ≡ true
unfolding in_one_cell
one_cell a b o k = and_from _ _ (ap (λ w. same_org w b.owner) o ∙ same_org-refl b.owner) (ap (λ j. same_key j b.key) k ∙ same_key-refl b.key)

pub row_cell_back : (a b : Row) → in_one_cell a b ≡ false → in_one_cell b a ≡ false
unfolding in_one_cell
row_cell_back a b h = false_from_ne_true _ (λ g.
    let two : (same_org b.owner a.owner ≡ true) × (same_key b.key a.key ≡ true) = and_parts _ _ g in
    false≢true (sym h ∙ one_cell a b (sym (same_org-sound _ _ two.0)) (sym (same_key-sound _ _ two.1))))

pub row_of_name : (w : OrgId) (k : Key) (row : Row) → is_row_of w k row ≡ true → (row.owner ≡ w) × (row.key ≡ k)
unfolding is_row_of
row_of_name w k row h = let two : (same_org row.owner w ≡ true) × (same_key row.key k ≡ true) = and_parts _ _ h in (same_org-sound _ _ two.0, same_key-sound _ _ two.1)

module _ (w : OrgId) (k : Key) where
  named_alike : (a b : Row) → is_row_of w k a ≡ true → is_row_of w k b ≡ true → in_one_cell a b ≡ true
  named_alike a b h g =
      let x : (a.owner ≡ w) × (a.key ≡ k) = row_of_name w k a h in
      let y : (b.owner ≡ w) × (b.key ≡ k) = row_of_name w k b g in
      one_cell a b (x.0 ∙ sym y.0) (x.1 ∙ sym y.1)

  -- beside the owner's row of the key there is no other
  no_other : (test : Row → Bool) (x : Row) (rows : List Row) → is_row_of w k x ≡ true → AllByRecursion (λ y. in_one_cell x y ≡ false) rows → list_any (λ row. is_row_of w k row && test row) rows ≡ false
  no_other test x [] h a = refl
  no_other test x (y ∷ rows) h a =
      or_from _ _ (and_left _ _ (false_from_ne_true (is_row_of w k y) (λ g. false≢true (sym a.0 ∙ named_alike x y h g)))) (no_other test x rows h a.1)

  first_of : (a b : Bool) → (a || b) ≡ true → b ≡ false → a ≡ true
  first_of a b h e = elim (or_cases a b h) [ inl x ↦ x | inr y ↦ absurd (false≢true (sym e ∙ y)) ]

  -- what two tests find of the owner's rows of the key is one row
  pub found_together : (p q : Row → Bool) (rows : List Row) → IsTable rows →
      list_any (λ row. is_row_of w k row && p row) rows ≡ true →
      list_any (λ row. is_row_of w k row && q row) rows ≡ true →
      list_any (λ row. is_row_of w k row && (p row && q row)) rows ≡ true
  unfolding IsDistinct
  found_together p q [] t a b = a
  found_together p q (x ∷ rows) t a b = one (is_row_of w k x) refl (found_together p q rows t.1) a b
    where
      one : (c : Bool) → is_row_of w k x ≡ c →
          (list_any (λ row. is_row_of w k row && p row) rows ≡ true → list_any (λ row. is_row_of w k row && q row) rows ≡ true → list_any (λ row. is_row_of w k row && (p row && q row)) rows ≡ true) →
          (c && p x || list_any (λ row. is_row_of w k row && p row) rows) ≡ true →
          (c && q x || list_any (λ row. is_row_of w k row && q row) rows) ≡ true →
          (c && (p x && q x) || list_any (λ row. is_row_of w k row && (p row && q row)) rows) ≡ true
      one false e ih a b = ih a b
      one true e ih a b = or_left _ _ (and_from _ _ (first_of _ _ a (no_other p x rows e t.0)) (first_of _ _ b (no_other q x rows e t.0)))

both_never : (b : Bool) → (b && not b) ≡ false
both_never true = refl
both_never false = refl

-- two rows of a table that are of one owner and key pass the same tests
pub pass_alike : (w : OrgId) (k : Key) (test : Row → Bool) (rows : List Row) → IsTable rows → (a b : Row) → Contains rows a → Contains rows b →
    is_row_of w k a ≡ true → is_row_of w k b ≡ true → test a ≡ true → test b ≡ true
pass_alike w k test rows t a b m n h g e = true_from_ne_false (test b) (λ f. false≢true
    (sym (any_never _ (λ row. and_right (is_row_of w k row) _ (both_never (test row))) rows)
    ∙ found_together w k test (λ row. not (test row)) rows t (any_has _ rows a m (and_from _ _ h e)) (any_has _ rows b n (and_from _ _ g (ap not f)))))

-- beside a copy there is no tombstone of the same owner
pub is_unmixed : (rows : List Row) (w : OrgId) (e : EventId) → IsTable rows → has_copy rows w e ≡ true → has_gone rows w e ≡ false
unfolding has_copy has_gone
is_unmixed rows w e t h = false_from_ne_true _ (λ g. false≢true
    (sym (any_never _ (λ row. and_right (is_row_of w (event_key e) row) _ (both_never (is_tombstone row))) rows)
    ∙ found_together w (event_key e) is_tombstone (λ row. not (is_tombstone row)) rows t g h))

pub part_is_table : (test : Row → Bool) (rows : List Row) → IsTable rows → IsTable (filter test rows)
part_is_table test rows t = apart_part in_one_cell row_cell_back test rows t

pub put_is_table : (row : Row) (rows : List Row) → IsTable rows → IsTable (put_row row rows)
unfolding put_row in_one_cell
put_is_table row rows t =
    apart_put in_one_cell row_cell_back stands_before row (filter other rows) (all_kept (λ r. in_one_cell row r ≡ false) other apart rows) (part_is_table other rows t)
  where
    other : Row → Bool
    other r = not (same_org r.owner row.owner && same_key r.key row.key)

    apart : (r : Row) → other r ≡ true → in_one_cell row r ≡ false
    apart r h = row_cell_back r row (not-true _ h)
