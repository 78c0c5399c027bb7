-- An instance, served over the first keeper.
use Rattle.std.specs.Prelude.{◌≡◌, ◌≢◌, ℕ, List, [], ◌∷◌, All, Option, Some, Result, Ok, Err}
use Rattle.misp_outside.specs.Wires.{Connection}
use Rattle.misp_effects.specs.KeeperStates.{AreKept}
use Rattle.misp_store.specs.Sharing.{WereSound}
use Rattle.misp_core.specs.Prelude.{Host, KeeperState, Standing, host_of}
use Rattle.misp_net.specs.Opening.{AreKeptOrOpened, AreOpened, opened_states}
use Rattle.misp_net.specs.Running.{state_of}
use Rattle.misp_app.specs.Serving.{IsTold, Served}
use Rattle.misp_app.specs.declared.serving.ServeFault.{ServeFault}
use Rattle.misp_app.specs.declared.serving.ServeFault.TheVariants as faults
use Rattle.misp_app.specs.declared.status.Status.{Status}
use Rattle.misp_app.specs.declared.status.Status.TheVariants.{Done, WriteFault, DoorFault, OutOfMemory}

-- how a run ends where serving ends so
abbrev pub serving_status : {U : Type 0} → Result U ServeFault → Status
serving_status (Ok done) = Done
serving_status (Err faults.DoorFault) = DoorFault
serving_status (Err faults.WriteFault) = WriteFault
serving_status (Err faults.OutOfMemory) = OutOfMemory

-- clock and door tell this, and so does each connection that is to come
pub record IsReady (time word : ℕ) (back coming : List Connection) (now next : Option ℕ)
    (given left : Option (List Connection)) : Type 0 where
  pub time_is : now ≡ Some time
  pub word_is : next ≡ Some word
  pub back_is : given ≡ Some back
  pub coming_is : left ≡ Some coming
  pub told : All IsTold coming

-- connections were served, or none where memory ran out before
abbrev pub HasLinesServed : Status → Type 0
HasLinesServed Done = Unit {0}
HasLinesServed WriteFault = Unit {0}
HasLinesServed DoorFault = Unit {0}
HasLinesServed OutOfMemory = Unit {0}
HasLinesServed status = ⊥

-- it is this host, with what its keeper holds of what was made there
abbrev pub OpensAs : Host → Standing → Type 0
OpensAs host start =
    AreOpened (host ∷ []) (state_of start ∷ []) (state_of start ∷ []) (host_of start ∷ [])

-- An instance of this host was opened over the keeper, and served so many connections of those that
-- were to come, or as many as door, sink and memory allowed. Then its keeper was put back. It is
-- opened only where every row that the keeper holds decodes, where it reports.
pub record HasServed (host : Host) (time count word : ℕ) (back coming : List Connection)
    (old new : List KeeperState) (next : Option ℕ) (given left : Option (List Connection))
    (before behind : Option (List ℕ)) (status : Status) : Type 0 where
  pub start : Standing
  pub end : Standing
  pub how : Result (Unit {0}) ServeFault
  pub host_is : OpensAs host start
  pub begun : AreKeptOrOpened old (state_of start ∷ [])
  pub opened : status ≢ OutOfMemory → AreKept (opened_states old) (state_of start ∷ [])
  pub closed : new ≡ state_of end ∷ []
  pub sound : status ≢ OutOfMemory → WereSound old (state_of start ∷ [])
  pub how_is : serving_status how ≡ status
  pub served : Served time count (record { instance = start; word = word; back = back }) coming
      end next given left before behind how
