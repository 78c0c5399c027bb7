-- What is taken over rows in which tests find the same.
use Rattle.std.proofs.Common.{◌≡◌, ◌&&◌, ◌||◌, ◌∙◌, Bool, true, not, leb, List, [], ◌∷◌, map, Option, None, Some, refl, sym, ap, subst}
use Rattle.std.specs.List.{AllByRecursion}
use Rattle.misp_lists.proofs.All.{all_implied, all_map, all_of, all_true}
use Rattle.misp_lists.proofs.Lists.{and_where, any_agree, filter_twice}
use Rattle.misp_elem.specs.Prelude.{IsKey}
use Rattle.misp_manifest.specs.Manifest.{AreStampedAfter, IsKeysOfPart, key_stamp}
use Rattle.misp_model.proofs.Prelude.{EventId, Group, Inst, Key, OrgId, Row, event_key, event_of, has_copy, has_gone, has_home}
use Rattle.misp_model.proofs.Prelude.{is_made_at, is_row_of, is_statement, is_tombstone, label_is_known, list_all, list_any, same_key, same_key-sound, same_org, same_org-refl, same_org-sound}
use Rattle.misp_history.specs.Merging.{counts_row, handed, has_event_row, is_newer_row, is_taken, is_welcome_row, rows_taken}
use Rattle.misp_history.proofs.Packing.{event_of_own}
use Rattle.misp_package.proofs.Going.{filter_alike}
use Rattle.misp_core.proofs.RowsAlike.{AlikeFor}

-- ---- the keys of a part

-- the row is at a key of the event
abbrev pub IsAt : EventId → Row → Type 0
IsAt e row = IsKey row.key × (event_of row.key ≡ e)

module _ (e : EventId) where
  rows_at : (before : Option Key) (rows : List Row) → AreStampedAfter e before (map key_stamp rows) → AllByRecursion (IsAt e) rows
  rows_at before [] are = tt
  rows_at None (row ∷ rows) are = ((are.0.0.0, ap event_of are.0.0.1 ∙ event_of_own e), rows_at (Some row.key) rows are.1)
  rows_at (Some k) (row ∷ rows) are = ((are.0.0.0, are.0.0.1.0), rows_at (Some row.key) rows are.1)

  -- of rows whose keys are those of a part of the event
  pub part_at : (rows : List Row) → IsKeysOfPart e (map key_stamp rows) → AllByRecursion (IsAt e) rows
  part_at rows is = rows_at None rows is.stamped

-- ---- rows in which tests find the same

-- tests of the owner's rows at such keys find the same in both, and all that comes is the owner's
module _ (i : Inst) (w : OrgId) (groups : List Group) (xs ys coming : List Row) (e : EventId) (At : Key → Type 0)
    (same : (k : Key) → At k → (test : Row → Bool) → list_any (λ r. is_row_of w k r && test r) xs ≡ list_any (λ r. is_row_of w k r && test r) ys)
    (own : At (event_key e)) (ours : list_all (λ row. same_org row.owner w) coming ≡ true) where
  any_same : (o : OrgId) (k : Key) (test : Row → Bool) → o ≡ w → At k → list_any (λ r. is_row_of o k r && test r) xs ≡ list_any (λ r. is_row_of o k r && test r) ys
  any_same o k test is at = subst (λ v. list_any (λ r. is_row_of v k r && test r) xs ≡ list_any (λ r. is_row_of v k r && test r) ys) (sym is) (same k at test)

  own_at : (x : Row) → event_of x.key ≡ e → At (event_key (event_of x.key))
  own_at x of = subst (λ f. At (event_key f)) (sym of) own

  welcome_same : (x : Row) → x.owner ≡ w → event_of x.key ≡ e → is_welcome_row i xs groups x ≡ is_welcome_row i ys groups x
  unfolding is_welcome_row has_gone has_home
  welcome_same x is of = λ j.
      not (any_same x.owner (event_key (event_of x.key)) is_tombstone is (own_at x of) j)
      && (not (any_same x.owner (event_key (event_of x.key)) (λ r. not (is_tombstone r) && not r.carried) is (own_at x of) j) || is_statement x.key)
      && not (is_made_at i x.key) && label_is_known groups x.label

  comes_same : (k : Key) → event_of k ≡ e → list_any (λ r. same_key r.key k && is_welcome_row i xs groups r) coming ≡ list_any (λ r. same_key r.key k && is_welcome_row i ys groups r) coming
  comes_same k of =
      any_agree _ _ (λ r. same_org r.owner w)
      (λ r h. and_where (same_key r.key k) _ _ (λ g. welcome_same r (same_org-sound r.owner w h) (ap event_of (same_key-sound r.key k g) ∙ of))) coming ours

  -- of the owner's rows at such keys of the event the same are taken
  pub taken_where : (x : Row) → x.owner ≡ w → At x.key → event_of x.key ≡ e → is_taken i xs groups coming x ≡ is_taken i ys groups coming x
  unfolding is_taken counts_row has_event_row has_copy is_newer_row
  taken_where x is at of = λ j.
      (welcome_same x is of j
      && (is_statement x.key || (any_same x.owner (event_key (event_of x.key)) (λ r. not (is_tombstone r)) is (own_at x of) j || comes_same (event_key (event_of x.key)) (event_of_own (event_of x.key) ∙ of) j)))
      && not (any_same x.owner x.key (λ r. leb x.stamp r.stamp) is at j)

module _ (i : Inst) (w : OrgId) (xs ys : List Row) (same : AlikeFor w xs ys) (e : EventId) (own : IsKey (event_key e)) (groups : List Group) where
  -- the row is the owner's, at a key of the event
  abbrev IsOwn : Row → Type 0
  IsOwn row = (row.owner ≡ w) × IsAt e row

  pub taken_own : (coming : List Row) → AllByRecursion IsOwn coming → rows_taken i xs groups coming ≡ rows_taken i ys groups coming
  unfolding rows_taken is_taken
  taken_own coming are =
      let ours : list_all (λ row. same_org row.owner w) coming ≡ true =
      all_true (λ row. same_org row.owner w) coming (all_implied IsOwn (λ row. same_org row.owner w ≡ true) (λ row is. ap (λ o. same_org o w) is.0 ∙ same_org-refl w) coming are) in
      filter_twice (counts_row i xs groups coming) (is_newer_row xs) coming
      ∙ filter_alike (is_taken i xs groups coming) (is_taken i ys groups coming) coming
      (λ x m. let is : IsOwn x = all_of IsOwn coming x are m in taken_where i w groups xs ys coming e (λ k. IsKey k) same own ours x is.0 is.1.0 is.1.1)
      ∙ sym (filter_twice (counts_row i ys groups coming) (is_newer_row ys) coming)

  -- of rows at keys of the event that are handed in for the owner the same are taken
  pub taken_same : (rows : List Row) → AllByRecursion (IsAt e) rows → rows_taken i xs groups (map (handed w) rows) ≡ rows_taken i ys groups (map (handed w) rows)
  unfolding handed
  taken_same rows at = taken_own (map (handed w) rows) (all_map (handed w) (IsAt e) IsOwn (λ row is. (refl, is)) rows at)
