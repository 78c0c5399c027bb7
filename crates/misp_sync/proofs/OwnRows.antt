-- What is taken for a holder is told by its own rows of the event, and by all rows of the event, as by all rows.
use Rattle.std.proofs.Common.{◌≡◌, ◌&&◌, Bool, true, List, ◌++◌, Contains, filter, map, nat_eq, Ok, refl, ap, ◌∙◌}
use Rattle.std.specs.List.{starts_with}
use Rattle.misp_lists.proofs.Lists.{any_cut}
use Rattle.misp_lists.proofs.Elements.{all_has}
use Rattle.misp_outside.specs.Held.{Held, rows_named}
use Rattle.misp_elem.specs.Prelude.{key}
use Rattle.misp_model.proofs.Prelude.{AreRows, EventId, Group, Inst, IsTable, Key, OrgId, Row, and_from, and_parts, event_of}
use Rattle.misp_model.proofs.Prelude.{is_row_of, list_all, name_bytes, row_of_name, same_event, same_event-refl}
use Rattle.misp_model.proofs.Prelude.{same_org, same_org-sound, uid}
use Rattle.misp_model.proofs.Spelled.{begins_with_itself}
use Rattle.misp_history.specs.Acts.{World}
use Rattle.misp_history.specs.History.{tables}
use Rattle.misp_history.specs.Merging.{arrives, is_taken}
use Rattle.misp_history.proofs.Packing.{event_of_own}
use Rattle.misp_store.specs.Raw.{raw_row, rows_in}
use Rattle.misp_store.specs.declared.reach.Reach.{Reach}
use Rattle.misp_store.proofs.HeldRows.{rows_again}
use Rattle.misp_core.specs.Prelude.{Keeps, seen_in}
use Rattle.misp_core.proofs.Alike.{named_rows_kept, rows_of_name, table_within}
use Rattle.misp_sync.specs.History.{seen_of}
use Rattle.misp_core.proofs.AlikeTaken.{taken_where}
use Rattle.misp_sync.proofs.Events.{Tells, all_ours}

-- a row of the owner of a key of the event is of the event
pub event_so : (w : OrgId) (e : EventId) (k : Key) (r : Row) → event_of k ≡ e → is_row_of w k r ≡ true → same_event (event_of r.key) e ≡ true
event_so w e k r of h = ap (λ j. same_event (event_of j) e) (row_of_name w k r h).1 ∙ ap (λ f. same_event f e) of ∙ same_event-refl e

-- and is among those that are so named
pub named_so : (w : OrgId) (e : EventId) (k : Key) (r : Row) → event_of k ≡ e → is_row_of w k r ≡ true → (same_event (event_of r.key) e && starts_with nat_eq (name_bytes r) (uid w.0)) ≡ true
unfolding name_bytes
named_so w e k r of h =
    and_from _ _ (event_so w e k r of h)
    (ap (λ o. starts_with nat_eq (uid o.0 ++ key r.key) (uid w.0)) (row_of_name w k r h).0 ∙ begins_with_itself (uid w.0) (key r.key))

-- what is read of what a keeper holds
pub own_read : (w : OrgId) (e : EventId) (rows : List Row) (held : Held) → held.rows ≡ map raw_row rows → AreRows rows
    → (seen_in held).rows (Reach.Own w e) ≡ Ok (filter (λ r. same_event (event_of r.key) e && starts_with nat_eq (name_bytes r) (uid w.0)) rows)
own_read w e rows held holds are = ap (λ raws. rows_in (rows_named e (uid w.0) raws)) holds ∙ ap rows_in (rows_of_name w e rows) ∙ rows_again _ (named_rows_kept w e rows are)

module _ (i : Inst) (w : OrgId) (groups : List Group) (rows coming : List Row) (table : IsTable coming) (owned : list_all (arrives w) coming ≡ true) where
  -- of the rows a part that has all rows of the owner of keys of the event
  module _ (e : EventId) (in_part : Row → Bool) (has : (k : Key) (r : Row) → event_of k ≡ e → is_row_of w k r ≡ true → in_part r ≡ true) where
    abbrev own : List Row
    own = filter in_part rows

    pub taken_here : (x : Row) → Contains coming x → event_of x.key ≡ e → is_taken i own groups coming x ≡ is_taken i rows groups coming x
    taken_here x m of =
        let ours = all_ours i w groups rows coming table owned in
        taken_where i w groups own rows coming e (λ k. event_of k ≡ e) (λ k of test. any_cut _ _ (λ r h. has k r of (and_parts _ _ h).0) rows) (event_of_own e) ours
        x (same_org-sound x.owner w (all_has (λ row. same_org row.owner w) coming x ours m)) of of

  -- what a keeper holds tells it
  pub rows_tell : (held : Held) → held.rows ≡ map raw_row rows → AreRows rows → (e : EventId) → Tells i w groups rows coming table owned (seen_in held) e
  rows_tell held holds are e = record {
    seen = table_within (Reach.Own w e) rows;
    read = own_read w e rows held holds are;
    same = taken_here e _ (named_so w e);
  }

-- what is held and what the history shows tell alike
module _ (here : Inst) (v : World) (w : OrgId) (groups : List Group) (coming : List Row) (table : IsTable coming) (owned : list_all (arrives w) coming ≡ true) where
  pub held_tells : (held : Held) → Keeps here v held → (e : EventId) → Tells here w groups (tables v.log here) coming table owned (seen_in held) e
  held_tells held keeps = rows_tell here w groups (tables v.log here) coming table owned held keeps.rows keeps.are_rows

  pub history_tells : (e : EventId) → Tells here w groups (tables v.log here) coming table owned (seen_of v here) e
  history_tells e = record { seen = tables v.log here; read = refl; same = λ x m of. refl }
