-- What a connection with the table stands as.
use Rattle.std.specs.Prelude.{◌≡◌, ◌⊎◌, ◌&&◌, Bool, false, if◌then◌else◌, [], IsTrue, OnOk, Option, None, Some, Result}
use Rattle.sqlite.specs.Effect.{IsDatabase}
use Rattle.sqlite.specs.State.{State, HasCleanDisk, KeepsCommit, Survives}
use Rattle.sqlite_trees.specs.Tree.{Trees}
use Rattle.misp_lists.specs.Order.{ascend}
use Rattle.misp_outside.specs.declared.row.RawBatch.{RawBatch}
use Rattle.misp_outside.specs.Held.{Held, comes_before, nothing_held, with_batch}
use Rattle.misp_sqlite.specs.Kept.{kept_schema, no_schema}
use Rattle.misp_sqlite.specs.Stored.{held_in}

-- it has the table and nothing else, and while it is open all is committed
pub record IsReady (s : State) : Type 0 where
  pub outside : s.in_transaction ≡ false
  pub table : s.now.schema ≡ kept_schema
  pub settled : IsTrue s.is_open → s.now ≡ s.committed
  pub sound : IsTrue s.is_open → IsDatabase s.now

-- it is in a transaction, and has the table and nothing else
pub record IsInside (s : State) : Type 0 where
  pub inside : IsTrue s.in_transaction
  pub table : s.now.schema ≡ kept_schema
  pub sound : IsTrue s.is_open → IsDatabase s.now

-- a step within a transaction: nothing is committed
pub record Steps (old new : State) : Type 0 where
  pub kept : HasCleanDisk new → IsInside old → KeepsCommit old new
  pub survives : Survives old new (λ _. ⊥)

-- what its table holds
abbrev pub kept_of : State → Held
kept_of s = held_in (s.now.trees 0)

-- no two of the rows of events that its table holds have one name: they ascend strictly
abbrev pub is_apart : State → Bool
is_apart s = ascend comes_before (kept_of s).rows

-- it is open, and no two of these rows have one name
abbrev pub is_reporting : State → Bool
is_reporting s = s.is_open && is_apart s

-- what a keeper over it reports to hold
abbrev pub held_of : State → Option Held
held_of s = if is_reporting s then Some (kept_of s) else None

-- It still is in a transaction, and this is what its table holds now. No two of these rows have one
-- name exactly where no two had.
pub record HoldsInside (put : Held → Held) (old new : State) : Type 0 where
  pub inside : IsInside new
  pub held : kept_of new ≡ put (kept_of old)
  pub apart : is_apart new ≡ is_apart old

-- where the store is clean and it was in a transaction, Ok says that it still is, and what its table holds now
abbrev pub PutsInside : {T E : Type 0} → State → State → (Held → Held) → Result T E → Type 0
PutsInside old new put result =
    HasCleanDisk new → IsInside old → OnOk result (HoldsInside put old new)

-- where it is still open, it shows what it showed
abbrev pub ShowsSame : State → State → Type 0
ShowsSame old new = IsTrue new.is_open → IsTrue old.is_open × (new.now ≡ old.now)

-- all rows of the batch were put in, and are what is committed and what a crash leaves
pub record HasBatch (batch : RawBatch) (old new : State) : Type 0 where
  pub held : kept_of new ≡ with_batch batch (kept_of old)
  pub table : new.now.schema ≡ kept_schema
  pub outside : new.in_transaction ≡ false
  pub settled : new.now ≡ new.committed
  pub left : (trees : Trees) → new.may_leave trees → trees ≡ new.committed.trees

-- what a crash may leave has the rows that were committed, or those that were held with the whole batch
abbrev pub LeavesWhole : RawBatch → State → State → Type 0
LeavesWhole batch old new =
    (trees : Trees) → new.may_leave trees → (trees ≡ old.committed.trees) ⊎ (held_in (trees 0) ≡ with_batch batch (kept_of old))

-- the table was made
abbrev pub IsMade : State → State → Type 0
IsMade old new = (new.now.schema ≡ kept_schema) × (new.now.trees 0 ≡ [])

-- It has the table. Where it had it, nothing was changed, and where it had nothing, it has no rows; any other schema is refused.
pub record Finds (old new : State) : Type 0 where
  pub table : new.now.schema ≡ kept_schema
  pub was : (old.now.schema ≡ kept_schema) ⊎ (old.now.schema ≡ no_schema)
  pub kept : old.now.schema ≡ kept_schema → new.now ≡ old.now
  pub none : old.now.schema ≡ no_schema → kept_of new ≡ nothing_held

-- Where it had the table, the same is reported as before. Where it had nothing, it is reported to
-- hold nothing, while it is open.
pub record Begins (old new : State) : Type 0 where
  pub kept : old.now.schema ≡ kept_schema → held_of new ≡ held_of old
  pub none : old.now.schema ≡ no_schema → IsTrue new.is_open → held_of new ≡ Some nothing_held
