-- What else is held where rows of an event are put.
use Rattle.std.proofs.Common.{◌≡◌, ℕ, ◌==◌, Bool, true, false, not, List, [], ◌∷◌, map, filter, refl, sym, ap, subst, ◌∙◌, arith}
use Rattle.std.specs.List.{list_all}
use Rattle.misp_lists.proofs.Prelude.{put}
use Rattle.misp_outside.specs.Held.{Held, comes_before, is_named, put_admins, put_raw, put_rows, raw_name, rows_named, same_raw, with_batch}
use Rattle.misp_outside.specs.declared.row.RawRow.{RawRow}
use Rattle.misp_effects.specs.Batches.{batch, put_batches}
use Rattle.misp_model.proofs.Prelude.{EventId, OrgId, Row, event_of, nat_tests, same_event, uid, and_parts}
use Rattle.misp_store.specs.Raw.{raw_row, rows_in}
use Rattle.misp_core.specs.Effects.{row_batches}
use Rattle.misp_core.specs.Prelude.{groups_of, seen_in, spelled}
use Rattle.misp_store.specs.declared.reach.Reach.{Reach}
use Rattle.misp_core.proofs.Keeping.{rows_left}

-- ---- what is left out

pub put_out : {X : Type 0} (before : X → X → Bool) (q : X → Bool) (x : X) (ys : List X) → q x ≡ false → filter q (put before x ys) ≡ filter q ys
unfolding put
put_out before q x [] out = grind (arith, out)
put_out before q x (y ∷ ys) out = grind (arith, out, put_out before q x ys out)

pub kept_out : {X : Type 0} (q t : X → Bool) → ((y : X) → q y ≡ true → t y ≡ true) → (ys : List X) → filter q (filter t ys) ≡ filter q ys
kept_out q t keeps [] = refl
kept_out q t keeps (y ∷ ys) = grind (arith, keeps y, kept_out q t keeps ys)

-- ---- rows of another event

-- what holds only what is of another event finds the same where rows of the one are put
module _ (e other : EventId) (apart : same_event e other ≡ false) (among : RawRow → Bool) (only : (raw : RawRow) → among raw ≡ true → (raw.event.0.0 == other.0.0) ≡ true) where
  not_among : (r : Row) → same_event (event_of r.key) e ≡ true → among (raw_row r) ≡ false
  unfolding raw_row same_event
  not_among r is = grind (arith, nat_tests, apart, is, only (raw_row r))

  not_same : (r : Row) → same_event (event_of r.key) e ≡ true → (y : RawRow) → among y ≡ true → not (same_raw y (raw_row r)) ≡ true
  unfolding raw_row same_event same_raw
  not_same r is y h = grind (arith, nat_tests, apart, is, only y h)

  pub others_kept : (rows : List Row) → list_all (λ row. same_event (event_of row.key) e) rows ≡ true → (raws : List RawRow) → filter among (put_rows (map raw_row rows) raws) ≡ filter among raws
  unfolding put_rows put_raw
  others_kept [] are raws = refl
  others_kept (r ∷ rows) are raws =
      let both = and_parts (same_event (event_of r.key) e) (list_all (λ row. same_event (event_of row.key) e) rows) are in
      others_kept rows both.1 (put_raw (raw_row r) raws)
      ∙ put_out comes_before among (raw_row r) _ (not_among r both.0)
      ∙ kept_out among (λ held. not (same_raw held (raw_row r))) (not_same r both.0) raws

-- an owner's rows of the other event
pub named_kept : (e other : EventId) (front : List ℕ) → same_event e other ≡ false → (rows : List Row) → list_all (λ row. same_event (event_of row.key) e) rows ≡ true → (raws : List RawRow)
    → rows_named other front (put_rows (map raw_row rows) raws) ≡ rows_named other front raws
unfolding rows_named
named_kept e other front apart = others_kept e other apart (λ raw. is_named other front (raw_name raw)) (λ raw h. (and_parts _ _ h).0)

-- ---- batches of rows

-- and so where an empty batch is put for no rows
pub batch_put_so : (rows : List Row) (held : Held) → with_batch (spelled (batch rows [])) held ≡ put_batches (map spelled (row_batches rows)) held
unfolding with_batch put_rows put_admins
batch_put_so [] held = refl
batch_put_so (row ∷ rows) held = refl

-- ---- what stays

-- what an owner has of other events, and the groups, are as they were
pub record OthersStay (w : OrgId) (e : EventId) (old new : Held) : Type 0 where
  pub groups : groups_of new ≡ groups_of old
  pub rows : (other : EventId) → same_event e other ≡ false
      → (seen_in new).rows (Reach.Own w other) ≡ (seen_in old).rows (Reach.Own w other)

pub stay_put : (w : OrgId) (e : EventId) (rows : List Row) (held : Held) → list_all (λ row. same_event (event_of row.key) e) rows ≡ true
    → OthersStay w e held (put_batches (map spelled (row_batches rows)) held)
stay_put w e rows held are = subst (OthersStay w e held) (sym (rows_left rows held)) (record {
  groups = refl;
  rows = λ other apart. ap rows_in (named_kept e other (uid w.0) apart rows are held.rows);
})

pub stay_none : (w : OrgId) (e : EventId) (held : Held) → OthersStay w e held held
stay_none w e held = record { groups = refl; rows = λ other apart. refl }

pub stay_then : (w : OrgId) (e : EventId) (a b c : Held) → OthersStay w e a b → OthersStay w e b c → OthersStay w e a c
stay_then w e a b c h k = record { groups = k.groups ∙ h.groups; rows = λ other apart. k.rows other apart ∙ h.rows other apart }
