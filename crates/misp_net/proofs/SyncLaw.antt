-- The laws of pulls and pushes, as misp_sync has them.
use Rattle.std.proofs.Common.{◌≡◌, ℕ, false}
use Rattle.misp_ids.specs.declared.label.Direction.{Direction}
use Rattle.misp_effects.specs.Effect.{under}
use Rattle.misp_history.specs.Acts.{Net}
use Rattle.misp_history.specs.Outcomes.{step_partly}
use Rattle.misp_core.specs.Prelude.{AreReadable, Held, Host, Inst, Keeps, Outcome, World, left, same_inst, seen_in, spelled, tables}
use Rattle.misp_sync.specs.Directions.{route_on, synced_on, taker, telling_on}
use Rattle.misp_sync.specs.History.{applied, seen_of, sync_act}

-- Where the keepers of two instances hold their tables and groups, a synchronisation of the one with the other comes to what the history says, and leaves what
-- it is to leave.
pub record IsSyncLaw (direction : Direction) : Type 0 where
  pub told : (w : World) (here peer : Host) (link : Inst) (own there : Held) → Keeps here.name w own → Keeps peer.name w there
      → synced_on direction here link peer (seen_in own) (seen_in there) ≡ synced_on direction here link peer (seen_of w here.name) (seen_of w peer.name)
  pub left : (net : Net) (n now : ℕ) (w : World) (here peer : Host) (link : Inst) (own there : Held) (outcome : Outcome)
      → Keeps here.name w own → Keeps peer.name w there
      → net direction here.name link w.groups w.made ≡ route_on direction here link peer (w.groups here.name)
      → AreReadable (under (telling_on direction) outcome (synced_on direction here link peer (seen_in own) (seen_in there))).batches
      → Keeps (taker direction here peer).name (step_partly net n w (sync_act direction here.name now link) (applied outcome))
      (left spelled (under (telling_on direction) outcome (synced_on direction here link peer (seen_in own) (seen_in there))) (taker direction own there))
  pub elsewhere : (net : Net) (n now : ℕ) (w : World) (here peer : Host) (link j : Inst) (outcome : Outcome)
      → net direction here.name link w.groups w.made ≡ route_on direction here link peer (w.groups here.name)
      → same_inst (taker direction here peer).name j ≡ false
      → tables (step_partly net n w (sync_act direction here.name now link) (applied outcome)).log j ≡ tables w.log j
  pub groups : (net : Net) (n now : ℕ) (w : World) (here peer : Host) (link j : Inst) (outcome : Outcome)
      → net direction here.name link w.groups w.made ≡ route_on direction here link peer (w.groups here.name)
      → same_inst (taker direction here peer).name j ≡ false
      → (step_partly net n w (sync_act direction here.name now link) (applied outcome)).groups j ≡ w.groups j

-- in both directions
abbrev pub AreSyncLaws : Type 0
AreSyncLaws = (direction : Direction) → IsSyncLaw direction

pub both_laws : IsSyncLaw Direction.Pull → IsSyncLaw Direction.Push → AreSyncLaws
both_laws pulls pushes Direction.Pull = pulls
both_laws pulls pushes Direction.Push = pushes
