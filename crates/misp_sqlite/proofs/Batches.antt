-- A batch in one transaction.
use Rattle.std.proofs.Common.{◌≡◌, ◌∙◌, ◌&&◌, ap₂, true, false, refl, sym, ap, subst, inl, inr, IsTrue, Result, Ok, Err, OnErr}
use Rattle.sqlite_trees.specs.declared.store.Store.{Ghosts}
use Rattle.sqlite_trees.specs.Tree.{Trees}
use Rattle.sqlite.specs.Effect.{Database}
use Rattle.sqlite.specs.Held.{Held, state}
use Rattle.sqlite.specs.State.{State, HasCleanDisk, IsRolledBack, KeepsCommit, Shows, Survives}
use Rattle.sqlite.specs.Steps.{FailsToCommit}
use Rattle.sqlite.specs.declared.error.Error.{Error}
use Rattle.sqlite.proofs.Callers.{survives_begin}
use Rattle.sqlite.proofs.StateLemmas.{survives_then}
use Rattle.misp_lists.specs.Order.{ascend}
use Rattle.misp_outside.specs.Held.{Held as Rows, comes_before, with_batch}
use Rattle.misp_outside.specs.declared.row.RawBatch.{RawBatch}
use Rattle.misp_sqlite.specs.Standing.{HasBatch, HoldsInside, IsInside, IsReady, LeavesWhole, ShowsSame, is_reporting, kept_of}
use Rattle.misp_sqlite.specs.Stored.{held_in}

pub on_err : {T E : Type 0} {P : Type 0} (r : Result T E) → P → OnErr r P
on_err (Ok t) p = tt
on_err (Err e) p = p

-- what a crash leaves of an open connection is what it has committed
abbrev pub IsSettled : State → Type 0
IsSettled s = (trees : Trees) → IsTrue s.is_open → s.may_leave trees → trees ≡ s.committed.trees

module _ {S : Type 0} (g : Ghosts S) (h : Held S) where
  abbrev pub begun : State
  begun = state g (record h { in_transaction = true })

  pub inside_begun : IsReady (state g h) → IsInside begun
  inside_begun ready = record { inside = refl; table = ready.table; sound = ready.sound }

  -- what was put since the transaction began
  pub batch_put : (now : Held S) (last : State) (batch : RawBatch) → now ≡ record h { in_transaction = true } → IsReady (state g h)
      → (IsInside (state g now) → HoldsInside (with_batch batch) (state g now) last) → HoldsInside (with_batch batch) begun last
  batch_put now last batch same ready put = (subst (λ n. IsInside (state g n) → HoldsInside (with_batch batch) (state g n) last) same put) (inside_begun ready)

  pub begun_keeps : (now : Held S) (last : State) → now ≡ record h { in_transaction = true } → IsReady (state g h) → (IsInside (state g now) → KeepsCommit (state g now) last) → KeepsCommit begun last
  begun_keeps now last same ready kept = (subst (λ n. IsInside (state g n) → KeepsCommit (state g n) last) same kept) (inside_begun ready)

  pub begun_survives : (now : Held S) (last : State) → now ≡ record h { in_transaction = true } → Survives (state g now) last (λ _. ⊥) → Survives begun last (λ _. ⊥)
  begun_survives now last same s = subst (λ n. Survives (state g n) last (λ _. ⊥)) same s

  -- what the transaction leaves behind, where it is given up
  pub undone : (last new : State) → IsReady (state g h) → KeepsCommit begun last → IsRolledBack last new → ShowsSame (state g h) new
  undone last new ready kept back is_open =
      let still = back.was_open is_open in
      let first = kept.was_open still in
      (first, (back.undone is_open).0 ∙ kept.committed still ∙ sym (ready.settled first))

  pub survives_batch : (last new : State) (Q P : Trees → Type 0) → (HasCleanDisk new → (db : Trees) → Q db → P db)
      → Survives begun last (λ _. ⊥) → Survives last new Q → Survives (state g h) new P
  survives_batch last new Q P f one two =
      survives_begin g h new P (survives_then begun last new (λ _. ⊥) Q P (λ _ _ none. absurd none) f one two)

-- once the batch is committed, rows are reported exactly where they were before
pub batch_reported : (first last new : State) (put : Rows → Rows) → HoldsInside put first last → KeepsCommit first last → Shows last new last.now last.now false → is_reporting new ≡ is_reporting first
batch_reported first last new put inside kept shown =
    ap₂ (λ a b. a && b) (shown.is_open ∙ sym (kept.was_open shown.was_open)) (ap (λ (d : Database). ascend comes_before (held_in (d.trees 0)).rows) shown.now_is ∙ inside.apart)

pub batch_committed : (old last new : State) (batch : RawBatch) → IsInside last → kept_of last ≡ with_batch batch (kept_of old) → Shows last new last.now last.now false → IsSettled new → HasBatch batch old new
batch_committed old last new batch inside held shown settled = record {
  held = ap (λ (d : Database). held_in (d.trees 0)) shown.now_is ∙ held;
  table = ap (λ (d : Database). d.schema) shown.now_is ∙ inside.table;
  outside = shown.mode;
  settled = shown.now_is ∙ sym shown.committed_is;
  left = λ trees may. settled trees shown.is_open may;
}

pub not_committed : (last new : State) (e : Error) → IsInside last → FailsToCommit last new e → IsRolledBack last new
not_committed last new e inside (inl fails) = fails.3
not_committed last new e inside (inr h) = absurd (let bad = sym inside.inside ∙ h.1 in cc)

-- what a crash may leave at any time
pub leaves_whole : (old new : State) (batch : RawBatch) → IsTrue old.is_open → IsSettled old → HasCleanDisk new
    → Survives old new (λ trees. held_in (trees 0) ≡ with_batch batch (kept_of old)) → LeavesWhole batch old new
leaves_whole old new batch is_open settled clean survives trees may = elim (survives.crash clean trees may) [
  | inl was ↦ inl (settled trees is_open was)
  | inr whole ↦ inr whole
]
