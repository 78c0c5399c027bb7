-- What a planner answers.
use Rattle.std.specs.Prelude.{◌≡◌, ◌⊎◌, List, [], ◌∷◌, Result, Ok, Err, Option, None, Some}
use Rattle.misp_effects.specs.Batches.{batch}
use Rattle.misp_effects.specs.Effect.{effect}
use Rattle.misp_store.specs.Prelude.{AreRows, Batch, Effect, Refusal, Row, RuleName, Stop}
use Rattle.misp_core.specs.Standing.{Standing}
use Rattle.misp_core.specs.Effects.{refused, refused_by, stop_by, stop_in}
use Rattle.misp_core.specs.declared.planning.Plan.{Plan}
use Rattle.misp_core.specs.declared.planning.Batch.{Batch as Planned}
use Rattle.misp_core.specs.declared.planning.NoPlan.{NoPlan}
use Rattle.misp_core.specs.declared.reply.Reply.{Reply}

-- a batch as the definitions see it
abbrev pub batch_of : Planned → Batch
batch_of b = batch b.rows b.groups

-- no batch, or one
abbrev pub batches_of : Option Planned → List Batch
batches_of None = []
batches_of (Some b) = batch_of b ∷ []

-- it answers so, and puts this
abbrev pub effect_of : Plan → Effect Reply
effect_of p = effect (Reply.Ok p.answer) (batches_of p.batch)

-- the rows that are put
abbrev pub rows_put : Option Planned → List Row
rows_put None = []
rows_put (Some b) = b.rows

-- the plan has this effect, and what it puts of rows are rows
pub record IsPlan (p : Plan) (e : Effect Reply) : Type 0 where
  pub is : e ≡ effect_of p
  pub are_rows : AreRows (rows_put p.batch)

-- the effect is this refusal, by a rule that tells no stop
pub record Refuses (refusal : Refusal) (e : Effect Reply) : Type 0 where
  pub is : e ≡ refused refusal
  pub no_stop : stop_by refusal.name ≡ None

-- the plan of this effect, or its refusal; a keeper's fault and running out of memory say nothing
abbrev pub IsPlanned : Result Plan NoPlan → Effect Reply → Type 0
IsPlanned (Ok p) e = IsPlan p e
IsPlanned (Err (NoPlan.Refused refusal)) e = Refuses refusal e
IsPlanned (Err _) e = Unit {0}

-- the same where no keeper is asked
abbrev pub Plans : Result Plan NoPlan → Effect Reply → Type 0
Plans (Err NoPlan.KeeperFault) e = ⊥
Plans planned e = IsPlanned planned e

-- what is replied where nothing is planned
abbrev pub unplanned : NoPlan → Reply
unplanned (NoPlan.Refused refusal) = Reply.Refused refusal
unplanned NoPlan.KeeperFault = refused_by RuleName.KeeperFault
unplanned NoPlan.NoMemory = refused_by RuleName.NoMemory

-- the stop that is told where nothing is planned
abbrev pub stop_planned : {A : Type 0} → Result A NoPlan → Option Stop
stop_planned (Ok p) = None
stop_planned (Err why) = stop_in (unplanned why)

-- nothing is planned but this refusal, unless memory ran out; and the instance stands as it stood
pub record IsBarred {A : Type 0} (refusal : Refusal) (old new : Standing)
    (planned : Result A NoPlan) : Type 0 where
  pub just : (planned ≡ Err (NoPlan.Refused refusal)) ⊎ (planned ≡ Err NoPlan.NoMemory)
  pub still : new ≡ old
