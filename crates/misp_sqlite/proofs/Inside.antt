-- Steps within a transaction.
use Rattle.std.proofs.Common.{◌≡◌, ◌∙◌, ℕ, ℤ, pos, List, [], ◌∷◌, drop, refl, sym, ap, subst, inl, inr, arith, Result, Ok, Err, OnOk}
use Rattle.std.proofs.Common.{◌<◌, ◌≤◌, ◌+◌, ◌^◌, suc, add-one, ap₂, drop-cons, get_or, length, w64, to_z, of_z}
use Rattle.std.specs.Int.{w128, to_be_bytes}
use Rattle.std.proofs.lemmas.Int.{to_z-of_z}
use Rattle.std.proofs.lemmas.List.{drop_all}
use Rattle.sqlite_value.specs.Order.{Row}
use Rattle.sqlite_trees.specs.Tree.{Trees}
use Rattle.sqlite.specs.State.{State, HasCleanDisk, ExecutesInside, IsUnchanged, IsRolledBack, KeepsCommit, Survives}
use Rattle.sqlite.specs.declared.error.Error.{Error}
use Rattle.sqlite.proofs.StateLemmas.{survives_then}
use Rattle.misp_outside.specs.Held.{Held, put_rows, put_admins, with_batch}
use Rattle.misp_outside.specs.declared.row.RawBatch.{RawBatch}
use Rattle.misp_outside.specs.declared.row.RawRow.{RawRow}
use Rattle.misp_outside.specs.declared.row.AdminRow.{AdminRow}
use Rattle.misp_sqlite.specs.Putting.{HasPut, admin_of, raw_of, with_row, with_rows, with_admin_row, with_admin_rows}
use Rattle.misp_sqlite.specs.Standing.{HoldsInside, IsInside, Steps, kept_of}
use Rattle.misp_sqlite.specs.Stored.{event_bytes}
use Rattle.misp_sqlite.specs.Texts.{put_text}
use Rattle.misp_sqlite.proofs.Told.{admin_alike, admin_put, raw_alike, raw_put}
use Rattle.misp_sqlite.proofs.Puttings.{has_put}
use Rattle.misp_sqlite.proofs.Upserts.{params_of}

unchanged_keeps : (old new : State) → IsUnchanged old new → KeepsCommit old new
unchanged_keeps old new u = record { was_open = λ _. u.0.was_open; committed = λ _. u.0.committed_is }

back_keeps : (old new : State) → IsRolledBack old new → KeepsCommit old new
back_keeps old new r = record { was_open = r.was_open; committed = λ is_open. (r.undone is_open).1 }

-- whatever the statement answers, nothing is committed
pub keeps : (sql : List ℕ) (params : Row) (old new : State) (r : Result ℕ Error) → ExecutesInside 0 sql params old new r → KeepsCommit old new
keeps sql params old new (Ok count) h = record { was_open = λ _. h.1.was_open; committed = λ _. h.1.committed_is }
keeps sql params old new (Err e) (inl h) = elim h.1 [ inl same ↦ unchanged_keeps old new same | inr back ↦ back_keeps old new back ]
keeps sql params old new (Err e) (inr h) = unchanged_keeps old new h.2

pub inside_put : (old new : State) (event name body : List ℕ) (kind : ℤ) (count : ℕ) → count ≡ 1 → IsInside old → ExecutesInside 0 put_text (params_of event kind name body) old new (Ok count)
    → IsInside new × HasPut event kind name body (old.now.trees 0) (new.now.trees 0)
inside_put old new event name body kind count one inside h =
    let put = has_put old new event name body kind inside.table (inside.sound h.1.was_open) (subst (λ n. ExecutesInside 0 put_text (params_of event kind name body) old new (Ok n)) one h).0 in
    (record { inside = h.1.mode; table = put.0; sound = λ _. put.1 }, put.2)

pub survives_same : (s : State) (P : Trees → Type 0) → Survives s s P
survives_same s P = record { clean = omega arith; shield = λ h. h; counts = omega arith; limit = refl; closes = λ _ h. inl h; crash = λ _ db h. inl h }

pub steps_none : (s : State) → Steps s s
steps_none s = record { kept = λ _ _. record { was_open = λ h. h; committed = λ _. refl }; survives = survives_same s (λ _. ⊥) }

-- two steps, where the transaction is still open after the first
pub steps_then : (a b c : State) → (HasCleanDisk b → IsInside a → IsInside b) → Steps a b → Steps b c → Steps a c
steps_then a b c on one two = record {
  kept = λ clean inside.
      let earlier : HasCleanDisk b = omega (arith, two.survives.clean) in
      let first = one.kept earlier inside in
      let second = two.kept clean (on earlier inside) in
      record { was_open = λ h. first.was_open (second.was_open h); committed = λ h. second.committed h ∙ first.committed (second.was_open h) };
  survives = survives_then a b c (λ _. ⊥) (λ _. ⊥) (λ _. ⊥) (λ _ _ none. none) (λ _ _ none. none) one.survives two.survives;
}

pub rows_first : (row : RawRow) (more : List RawRow) (held : Held) → with_rows (row ∷ more) held ≡ with_rows more (with_row row held)
unfolding put_rows
rows_first row more held = refl

pub rows_none : (held : Held) → with_rows [] held ≡ held
unfolding put_rows
rows_none held = refl

pub admins_first : (row : AdminRow) (more : List AdminRow) (held : Held) → with_admin_rows (row ∷ more) held ≡ with_admin_rows more (with_admin_row row held)
unfolding put_admins
admins_first row more held = refl

pub admins_none : (held : Held) → with_admin_rows [] held ≡ held
unfolding put_admins
admins_none held = refl

-- a kind as a number of 64 bits
pub kind_written : (k : ℕ) → k < 256 → to_z w64 (of_z w64 (pos k)) ≡ pos k
kind_written k low = to_z-of_z w64 (pos k) (omega arith)

module _ {T E : Type 0} where
  pub raw_done : (r : Result T E) (old new : State) (n : ℕ) (event name body : List ℕ) → n < 2 ^ 128 → event ≡ to_be_bytes w128 n
      → OnOk r (IsInside new × HasPut event (pos 0) name body (old.now.trees 0) (new.now.trees 0)) → OnOk r (HoldsInside (with_row (raw_of n name body)) old new)
  unfolding event_bytes
  raw_done (Ok t) old new n event name body fits written h =
      let put = subst (λ e. HasPut e (pos 0) name body (old.now.trees 0) (new.now.trees 0)) written h.1 in
      record { inside = h.0; held = raw_put n fits name body (old.now.trees 0) (new.now.trees 0) put; apart = raw_alike n fits name body (old.now.trees 0) (new.now.trees 0) put }
  raw_done (Err e) old new n event name body fits written h = tt

  pub admin_done : (r : Result T E) (old new : State) (k : ℕ) (event name body : List ℕ) → k < 256 → event ≡ []
      → OnOk r (IsInside new × HasPut event (pos k) name body (old.now.trees 0) (new.now.trees 0)) → OnOk r (HoldsInside (with_admin_row (admin_of k name body)) old new)
  admin_done (Ok t) old new k event name body low none h =
      let put = subst (λ e. HasPut e (pos k) name body (old.now.trees 0) (new.now.trees 0)) none h.1 in
      record { inside = h.0; held = admin_put k low name body (old.now.trees 0) (new.now.trees 0) put; apart = admin_alike k low name body (old.now.trees 0) (new.now.trees 0) put }
  admin_done (Err e) old new k event name body low none h = tt

dropped : {X : Type 0} (xs : List X) (i : ℕ) (x : X) → i < length xs → x ≡ get_or xs i x → drop i xs ≡ x ∷ drop (i + 1) xs
dropped xs i x low is = rw add-one (drop-cons xs i x low ∙ ap (λ y. y ∷ drop (suc i) xs) (sym is))

-- one more row is put
pub rows_step : (rows : List RawRow) (i : ℕ) (row : RawRow) (name body : List ℕ) (first before now : Held) → i < length rows → row ≡ get_or rows i row → name ≡ row.name → body ≡ row.bytes
    → with_rows (drop i rows) before ≡ first → now ≡ with_row (raw_of row.event.0.0 name body) before → with_rows (drop (i + 1) rows) now ≡ first
rows_step rows i row name body first before now low is same_name same_body so_far put =
    ap (with_rows (drop (i + 1) rows)) (put ∙ ap₂ (λ a b. with_row (raw_of row.event.0.0 a b) before) same_name same_body)
    ∙ sym (rows_first row (drop (i + 1) rows) before) ∙ ap (λ all. with_rows all before) (sym (dropped rows i row low is)) ∙ so_far

pub admins_step : (rows : List AdminRow) (i : ℕ) (row : AdminRow) (name body : List ℕ) (first before now : Held) → i < length rows → row ≡ get_or rows i row → name ≡ row.name → body ≡ row.bytes
    → with_admin_rows (drop i rows) before ≡ first → now ≡ with_admin_row (admin_of row.kind name body) before → with_admin_rows (drop (i + 1) rows) now ≡ first
admins_step rows i row name body first before now low is same_name same_body so_far put =
    ap (with_admin_rows (drop (i + 1) rows)) (put ∙ ap₂ (λ a b. with_admin_row (admin_of row.kind a b) before) same_name same_body)
    ∙ sym (admins_first row (drop (i + 1) rows) before) ∙ ap (λ all. with_admin_rows all before) (sym (dropped rows i row low is)) ∙ so_far

pub rows_done : (rows : List RawRow) (i : ℕ) (first now : Held) → length rows ≤ i → with_rows (drop i rows) now ≡ with_rows rows first → now ≡ with_rows rows first
rows_done rows i first now past so_far = sym (ap (λ all. with_rows all now) (drop_all i rows past) ∙ rows_none now) ∙ so_far

pub admins_done : (rows : List AdminRow) (i : ℕ) (first now : Held) → length rows ≤ i → with_admin_rows (drop i rows) now ≡ with_admin_rows rows first → now ≡ with_admin_rows rows first
admins_done rows i first now past so_far = sym (ap (λ all. with_admin_rows all now) (drop_all i rows past) ∙ admins_none now) ∙ so_far

-- rows of events, and then those of the administration
pub batch_done : {T E : Type 0} (r : Result T E) (old mid new : State) (batch : RawBatch) (rows : List RawRow) (admin : List AdminRow) → rows ≡ batch.rows → admin ≡ batch.admin
    → HoldsInside (with_rows rows) old mid → OnOk r (HoldsInside (with_admin_rows admin) mid new) → OnOk r (HoldsInside (with_batch batch) old new)
unfolding with_batch
batch_done (Ok t) old mid new batch rows admin same_rows same_admin one two = record {
  inside = two.inside;
  held = two.held ∙ ap (with_admin_rows admin) one.held ∙ ap₂ (λ a b. with_admin_rows a (with_rows b (kept_of old))) same_admin same_rows;
  apart = two.apart ∙ one.apart;
}
batch_done (Err e) old mid new batch rows admin same_rows same_admin one two = tt
