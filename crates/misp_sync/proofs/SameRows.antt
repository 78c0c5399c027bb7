-- Rows of events that are read of what is held, and rows of which tests tell the same.
use Rattle.std.proofs.Common.{◌≡◌, ◌==◌, ◌∙◌, ℕ, Bool, true, false, List, map, Result, Ok, Err, refl, sym, ap, subst, if◌then◌else◌}
use Rattle.misp_outside.specs.declared.row.RawRow.{RawRow}
use Rattle.misp_outside.specs.Held.{put_rows, rows_of}
use Rattle.misp_model.proofs.Prelude.{AllByRecursion, EventId, OrgId, Row, put_all, same_event, same_event-sound}
use Rattle.misp_store.specs.Raw.{raw_row, rows_in}
use Rattle.misp_store.specs.declared.reach.Reach.{Reach}
use Rattle.misp_core.specs.Prelude.{Held, groups_of, seen_in}
use Rattle.misp_core.proofs.Keeping.{rows_left}
use Rattle.misp_sync.specs.Pushed.{RowsOf, rows_seen, with_event}
use Rattle.misp_core.proofs.OtherEvents.{others_kept}
use Rattle.misp_core.proofs.RowsAlike.{AlikeFor, IsOurs, rows_read_alike}
use Rattle.misp_sync.proofs.TakenRows.{are_of_event, with_put}

-- both are rows, which agree, or both are the name of the first that is none
abbrev pub SameRows : OrgId → Result (List Row) (List ℕ) → Result (List Row) (List ℕ) → Type 0
SameRows w (Ok xs) (Ok ys) = AlikeFor w xs ys
SameRows w (Err name) (Err other) = name ≡ other
SameRows w read told = ⊥

-- so it is of each event, where the one are read of what is held
abbrev pub AreSame : OrgId → Held → RowsOf → Type 0
AreSame w held of = (e : EventId) → SameRows w (rows_seen (seen_in held) e) (of e)

same_itself : (w : OrgId) (read : Result (List Row) (List ℕ)) → SameRows w read read
same_itself w (Ok rows) = λ k is test. refl
same_itself w (Err name) = refl

-- what is read itself is so
pub same_seen : (w : OrgId) (held old : Held) → (seen_in held).rows ≡ (seen_in old).rows → AreSame w held (rows_seen (seen_in old))
same_seen w held old same e = subst (λ rows. SameRows w (rows (Reach.Event e)) (rows_seen (seen_in old) e)) (sym same) (same_itself w (rows_seen (seen_in old) e))

-- ---- where rows of an event are put

pub groups_kept : (rows : List Row) (held : Held) → groups_of (with_put rows held) ≡ groups_of held
groups_kept rows held = ap groups_of (rows_left rows held)

module _ (w : OrgId) (e : EventId) (held : Held) (of : RowsOf) (same : AreSame w held of) (xs ys : List Row) (read : rows_seen (seen_in held) e ≡ Ok xs) (alike : AlikeFor w xs ys)
    (rows : List Row) (ours : AllByRecursion (IsOurs w e) rows) where
  read_with : (other : EventId) → rows_seen (seen_in (with_put rows held)) other ≡ rows_in (rows_of other (put_rows (map raw_row rows) held.rows))
  read_with other = ap (λ (h : Held). rows_seen (seen_in h) other) (rows_left rows held)

  abbrev is_of : EventId → RawRow → Bool
  is_of event raw = raw.event.0.0 == event.0.0

  there : (r : Row) → IsOurs w e r → is_of e (raw_row r) ≡ true
  unfolding raw_row same_event
  there r is = is.2

  here : SameRows w (rows_seen (seen_in (with_put rows held)) e) (Ok (put_all rows ys))
  unfolding rows_of
  here =
      let put = rows_read_alike w e (is_of e) there rows ours held.rows xs ys read alike in
      subst (λ read. SameRows w read (Ok (put_all rows ys))) (sym (read_with e ∙ put.1)) put.2

  by_event : (other : EventId) (b : Bool) → same_event e other ≡ b → SameRows w (rows_seen (seen_in (with_put rows held)) other) (if b then Ok (put_all rows ys) else of other)
  unfolding rows_of
  by_event other true is = subst (λ f. SameRows w (rows_seen (seen_in (with_put rows held)) f) (Ok (put_all rows ys))) (same_event-sound e other is) here
  by_event other false is =
      subst (λ read. SameRows w read (of other))
      (sym (read_with other ∙ ap rows_in (others_kept e other is (is_of other) (λ raw h. h) rows (are_of_event w e rows ours) held.rows))) (same other)

  pub same_put : AreSame w (with_put rows held) (with_event e (put_all rows ys) of)
  same_put other = by_event other (same_event e other) refl
