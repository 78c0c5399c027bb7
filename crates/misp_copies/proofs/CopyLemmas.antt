-- Of the rows of one event those of an event itself are those of this event.
use Rattle.std.proofs.Common.{◌≡◌, List, [], ◌∷◌, Bool, true, false, refl, ap, sym, cond, ◌&&◌, ◌||◌, not, Some, find}
use Rattle.misp_model.proofs.Prelude.{Element, EventId, Group, Key, OrgId, Place, Row, Version, and_parts, event_key, event_of, has_copy, has_gone, has_home, is_made_at, is_row_of, is_statement}
use Rattle.misp_model.proofs.Prelude.{is_tombstone, is_welcome, label_is_known, label_now, list_all, list_any, same_event, same_key, same_org, same_place}
use Rattle.misp_copies.specs.Copies.{AreOf, copy_state, is_event_key, is_event_row, state_by, state_of, takes}

and_end : (b : Bool) → b ≡ true → (b && true) ≡ true
and_end b h = ap (λ x. x && true) h

and_never : (b : Bool) → (b && false) ≡ false
and_never true = refl
and_never false = refl

key_is : (k : Key) (e : EventId) → same_event (event_of k) e ≡ true → same_key k (event_key e) ≡ is_event_key k
unfolding same_key same_place is_event_key event_of event_key
key_is (Element f Place.Event) e h = and_end (same_event f e) h
key_is (Element f _) e h = and_never (same_event f e)
key_is _ e h = refl

module _ (o : OrgId) (e : EventId) where
  pub row_is : (row : Row) → same_event (event_of row.key) e ≡ true → is_row_of o (event_key e) row ≡ is_event_row o row
  unfolding is_row_of is_event_row
  row_is row h = ap (λ b. same_org row.owner o && b) (key_is row.key e h)

  rows_are : (test : Row → Bool) (rows : List Row) → AreOf e rows → list_any (λ row. is_row_of o (event_key e) row && test row) rows ≡ list_any (λ row. is_event_row o row && test row) rows
  rows_are test [] h = refl
  rows_are test (row ∷ rows) h = λ i.
      (row_is row (and_parts (same_event (event_of row.key) e) (list_all (λ r. same_event (event_of r.key) e) rows) h).0 i && test row)
      || rows_are test rows (and_parts (same_event (event_of row.key) e) (list_all (λ r. same_event (event_of r.key) e) rows) h).1 i

  pub finds_are : (rows : List Row) → AreOf e rows → find (is_row_of o (event_key e)) rows ≡ find (is_event_row o) rows
  finds_are [] h = refl
  finds_are (row ∷ rows) h = λ i.
      cond (row_is row (and_parts (same_event (event_of row.key) e) (list_all (λ r. same_event (event_of r.key) e) rows) h).0 i) (Some row)
      (finds_are rows (and_parts (same_event (event_of row.key) e) (list_all (λ r. same_event (event_of r.key) e) rows) h).1 i)

  -- the state is read off the rows of the event
  pub state_is : (rows : List Row) → AreOf e rows → state_of rows o ≡ copy_state rows o e
  unfolding state_of copy_state has_gone has_home has_copy
  state_is rows h = λ i.
      state_by (sym (rows_are is_tombstone rows h) i) (sym (rows_are (λ row. not (is_tombstone row) && not row.carried) rows h) i) (sym (rows_are (λ row. not (is_tombstone row)) rows h) i)

takes_by : (gone home copy : Bool) (k : Key) (i : List _) (known : Bool) →
    (not gone && (not home || is_statement k) && not (is_made_at i k) && known)
    ≡ (takes (state_by gone home copy) k i && known)
unfolding takes state_by
takes_by true home copy k i known = refl
takes_by false true copy k i known = refl
takes_by false false true k i known = refl
takes_by false false false k i known = refl

-- what is welcome is what the copy takes, where its label is known
pub welcome_is : (rows : List Row) (groups : List Group) (v : Version) →
    is_welcome rows groups v ≡ (takes (copy_state rows v.owner (event_of v.key)) v.key v.at && label_is_known groups (label_now v))
unfolding is_welcome copy_state
welcome_is rows groups v =
    takes_by (has_gone rows v.owner (event_of v.key)) (has_home rows v.owner (event_of v.key)) (has_copy rows v.owner (event_of v.key)) v.key v.at (label_is_known groups (label_now v))
