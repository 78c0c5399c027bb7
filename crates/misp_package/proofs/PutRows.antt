-- A landing once rows are put.
use Rattle.std.proofs.Common.{◌≡◌, ℕ, ◌+◌, ◌<◌, List, [], ◌∷◌, ◌++◌, Bool, true, false, cond, refl, ap, sym, subst, ◌∙◌, ◌&&◌, ◌||◌, not, leb, filter, length, take, get_or}
use Rattle.std.proofs.lemmas.List.{take_more}
use Rattle.misp_lists.proofs.Lists.{any_never, any_of_kept}
use Rattle.misp_lists.proofs.Ordering.{any_put}
use Rattle.misp_model.specs.Prelude.{Stamp}
use Rattle.misp_model.specs.Machine.{put_all, put_row}
use Rattle.misp_model.proofs.Prelude.{EventId, Group, Inst, Key, OrgId, Row, and_parts, event_key, false_from_ne_true, false≢true, has_copy, has_gone, has_home, in_one_cell, is_row_of, is_tombstone, list_any, one_cell, or_from, row_of_name, same_key, same_org, stands_before}
use Rattle.misp_history.proofs.Again.{stays}
use Rattle.misp_history.specs.Merging.{merged, rows_taken}
use Rattle.misp_copies.specs.Copies.{copy_state, state_by}
use Rattle.misp_copies.specs.declared.states.CopyState.{CopyState}
use Rattle.misp_package.specs.Landing.{IsLanding, state_after, state_by_row}
use Rattle.misp_package.specs.Stamps.{is_as_new, stamp_at}
use Rattle.misp_package.specs.declared.landing.Landing.{Landing}

-- one row more after others
pub put_all_last : (ys : List Row) (y : Row) (rows : List Row) → put_all (ys ++ y ∷ []) rows ≡ put_row y (put_all ys rows)
unfolding put_all
put_all_last [] y rows = refl
put_all_last (x ∷ ys) y rows = put_all_last ys y (put_row x rows)

module _ (w : OrgId) (k : Key) (t : Row → Bool) where
  -- the owner's rows of the key that pass the test
  abbrev mine : Row → Bool
  mine r = is_row_of w k r && t r

  -- of these only the one that is put is left, where it is of their name
  alone : (y : Row) (rows : List Row) → is_row_of w k y ≡ true → list_any mine (put_row y rows) ≡ t y
  unfolding put_row in_one_cell
  alone y rows h =
      any_put stands_before mine y (filter other rows)
      ∙ (λ j. (h j && t y) || (any_of_kept mine other rows ∙ any_never (λ r. mine r && other r) never rows) j)
      ∙ last (t y)
    where
      other : Row → Bool
      other r = not (same_org r.owner y.owner && same_key r.key y.key)

      never : (r : Row) → (mine r && other r) ≡ false
      never r = false_from_ne_true _ (λ g.
          let two : (mine r ≡ true) × (other r ≡ true) = and_parts _ _ g in
          let n : (r.owner ≡ w) × (r.key ≡ k) = row_of_name w k r (and_parts _ _ two.0).0 in
          let m : (y.owner ≡ w) × (y.key ≡ k) = row_of_name w k y h in
          false≢true (ap not (sym (one_cell r y (n.0 ∙ sym m.0) (n.1 ∙ sym m.1))) ∙ two.1))

      last : (b : Bool) → (b || false) ≡ b
      last true = refl
      last false = refl

  pub any_put_row : (y : Row) (rows : List Row) → list_any mine (put_row y rows) ≡ cond (is_row_of w k y) (t y) (list_any mine rows)
  unfolding put_all
  any_put_row y rows = one (is_row_of w k y) refl
    where
      one : (b : Bool) → is_row_of w k y ≡ b → list_any mine (put_row y rows) ≡ cond b (t y) (list_any mine rows)
      one true h = alone y rows h
      one false h = stays w k t (y ∷ []) rows (or_from _ _ h refl)

-- the state by the row alone
by_row : (gone carried : Bool) → state_by gone (not gone && not carried) (not gone) ≡ cond gone CopyState.Gone (cond carried CopyState.Carried CopyState.Home)
unfolding state_by
by_row true carried = refl
by_row false true = refl
by_row false false = refl

state_where : (b : Bool) (row : Row) (gone home copy : Bool) →
    state_by (cond b (is_tombstone row) gone) (cond b (not (is_tombstone row) && not row.carried) home) (cond b (not (is_tombstone row)) copy)
    ≡ cond b (state_by_row row) (state_by gone home copy)
unfolding state_by_row
state_where true row gone home copy = by_row (is_tombstone row) row.carried
state_where false row gone home copy = refl

-- the state once a row is put
state_put : (w : OrgId) (e : EventId) (row : Row) (held : List Row) → copy_state (put_row row held) w e ≡ cond (is_row_of w (event_key e) row) (state_by_row row) (copy_state held w e)
unfolding copy_state has_gone has_home has_copy
state_put w e row held =
    (λ j. state_by (any_put_row w (event_key e) is_tombstone row held j) (any_put_row w (event_key e) (λ r. not (is_tombstone r) && not r.carried) row held j)
    (any_put_row w (event_key e) (λ r. not (is_tombstone r)) row held j))
    ∙ state_where (is_row_of w (event_key e) row) row (has_gone held w e) (has_home held w e) (has_copy held w e)

-- a landing once a row is put
pub landing_put : (old new : Landing) (row : Row) → new.here ≡ old.here → new.owner ≡ old.owner → new.event ≡ old.event → new.state ≡ state_after old row →
    ((k : Key) (s : Stamp) → is_as_new (stamp_at new.newest k) s ≡ cond (is_row_of old.owner k row) (leb s row.stamp) (is_as_new (stamp_at old.newest k) s)) →
    (i : Inst) (w : OrgId) (e : EventId) (held : List Row) → IsLanding old i w e held → IsLanding new i w e (put_row row held)
unfolding state_after
landing_put old new row h o v st put i w e held is = record {
  here = h ∙ is.here;
  owner = o ∙ is.owner;
  event = v ∙ is.event;
  state = st ∙ (λ j. cond (is_row_of (is.owner j) (event_key (is.event j)) row) (state_by_row row) (is.state j)) ∙ sym (state_put w e row held);
  newest = λ k s.
      put k s ∙ (λ j. cond (is_row_of (is.owner j) k row) (leb s row.stamp) (is.newest k s j))
      ∙ sym (any_put_row w k (λ r. leb s r.stamp) row held);
}

-- one row more of a list
pub put_more : (rows : List Row) (n : ℕ) (row : Row) (held : List Row) → n < length rows → row ≡ get_or rows n row →
    put_all (take (n + 1) rows) held ≡ put_row row (put_all (take n rows) held)
put_more rows n row held h e =
    ap (λ rs. put_all rs held) (take_more rows n row h ∙ ap (λ r. take n rows ++ r ∷ []) (sym e)) ∙ put_all_last (take n rows) row held

-- a landing with what is taken of what comes is that of what this is merged into
pub landing_merged : (l : Landing) (i : Inst) (w : OrgId) (e : EventId) (held : List Row) (groups : List Group) (coming taken : List Row) →
    taken ≡ rows_taken i held groups coming → IsLanding l i w e (put_all taken held) → IsLanding l i w e (merged i held groups coming)
unfolding merged
landing_merged l i w e held groups coming taken is put = subst (λ rows. IsLanding l i w e (put_all rows held)) is put
