-- What is promised of the run of a script.
use Rattle.std.specs.Prelude.{◌≡◌, ℕ, suc, List, [], ◌∷◌, length, map, take, Option, Some, None, Bool, if◌then◌else◌}
use Rattle.misp_ids.specs.Same.{Inst}
use Rattle.misp_outside.specs.Causes.{RoseBy}
use Rattle.misp_model.specs.Closed.{cut_rows}
use Rattle.misp_effects.specs.Effect.{stop_of}
use Rattle.misp_effects.specs.KeeperStates.{AllReport, Tables}
use Rattle.misp_erasure.specs.Kept.{start, erased}
use Rattle.misp_core.specs.Prelude.{AllByRecursion, Host, IsRefused, KeeperState, OrgId, Outcome, Tell, Went, World, step}
use Rattle.misp_protocol.specs.declared.cause.Cause.{Cause}
use Rattle.misp_sync.specs.declared.reply.SyncReply.{SyncReply}
use Rattle.misp_net.specs.declared.line.Output.{Output}
use Rattle.misp_net.specs.declared.line.Output.TheVariants.{Bad, Nothing, Replied, Synced, Unanswered}
use Rattle.misp_net.specs.Acts.{Act, AreAmong, AreDone, Done, HasMemory, acts_of, outputs_of}
use Rattle.misp_net.specs.Carrying.{Carried, carry_faults}
use Rattle.misp_net.specs.Lines.{Line}
use Rattle.misp_net.specs.Links.{links_of}
use Rattle.misp_net.specs.Meaning.{meaning, stop_in, AreAsFormed}
use Rattle.misp_net.specs.Passing.{Passes, Trail}
use Rattle.misp_net.specs.Run.{output_of, tables_after, Ran}
use Rattle.misp_net.specs.Hosts.{hosts_in}
use Rattle.misp_net.specs.Walk.{hosts_after, hosts_left}
use Rattle.misp_net.specs.History.{act_in, acts_in, told_output, told_outputs, world_left, AreDistinct, IsHistory, empty_tables, is_of}
use Rattle.misp_net.specs.Text.{text_from}
use Rattle.misp_erasure.specs.Kept as erasure
use Rattle.misp_history.specs.Acts as model
use Rattle.misp_history.specs.History as versions

-- ---- privacy

-- nothing stopped any of the acts, and no session ended for want of memory
abbrev pub ShowNoStop : List Done → Type 0
ShowNoStop dones =
    AllByRecursion (λ output. stop_in output ≡ None) (outputs_of dones)
    × AllByRecursion HasMemory dones

-- before the others, where it is so
abbrev pub only : {A : Type 0} → Bool → A → List A → List A
only is x xs = if is then x ∷ xs else xs

-- what the organisation is replied by acts that put this out, in order
abbrev pub replies_to : OrgId → List Host → List Act → List Output → List Output
replies_to o hosts [] outputs = []
replies_to o hosts (act ∷ acts) [] = []
replies_to o hosts (act ∷ acts) (output ∷ outputs) =
    only (is_of o hosts act) output (replies_to o (hosts_after hosts act output) acts outputs)

-- what it is replied where nothing stops the acts, over the history of these acts
abbrev pub replies_over :
    OrgId → ℕ → List Host → World → List Act → List model.Act → List Output
replies_over o n described w [] history = []
replies_over o n described w (act ∷ acts) [] = []
replies_over o n described w (act ∷ acts) (a ∷ history) =
    let hosts : List Host = hosts_in described w in
    only (is_of o hosts act) (told_output Went hosts w act)
    (replies_over o (suc n) described (step (links_of described) n w a) acts history)

-- the places of its own acts, and by what those are refused that are refused by their form or by
-- the administration of the instance
abbrev pub own_forms : OrgId → ℕ → List Host → World → List Act → List (Option (Option Output))
own_forms o n described w [] = []
own_forms o n described w (act ∷ acts) =
    let hosts : List Host = hosts_in described w in
    (if is_of o hosts act then Some (meaning hosts act).refusal else None)
    ∷ own_forms o (suc n) described
    (step (links_of described) n w (act_in hosts act)) acts

-- the state after these acts of the history
abbrev pub world_of : List Host → List model.Act → World
world_of hosts history = model.run (links_of hosts) 0 start history

-- Of acts that put this out: elements that the organisation was never granted change none of its
-- replies.
pub record IsPrivateFor (o : OrgId) (hosts : List Host) (acts : List Act) (outputs : List Output)
    : Type 0 where
  -- without them it is replied the same,
  pub kept : replies_to o hosts acts outputs
      ≡ replies_over o 0 hosts start acts
      (erased o (links_of hosts) (acts_in 0 hosts start acts))
  -- and so it is in any other script that comes to the same without them, where its own acts have
  -- the same places, and those that are refused by their form or by the administration of the
  -- instance are refused by the same;
  pub alike : (others : List Act)
      → own_forms o 0 hosts start others ≡ own_forms o 0 hosts start acts
      → erased o (links_of hosts) (acts_in 0 hosts start others)
      ≡ erased o (links_of hosts) (acts_in 0 hosts start acts)
      → replies_over o 0 hosts start others (acts_in 0 hosts start others)
      ≡ replies_to o hosts acts outputs
  -- at each moment just they are missing from the tables of each instance,
  pub tables : (count : ℕ) (at : Inst)
      → versions.tables (world_of hosts
      (take count (erased o (links_of hosts) (acts_in 0 hosts start acts)))).log at
      ≡ cut_rows (erasure.kept o (links_of hosts) 0 start (acts_in 0 hosts start acts))
      (versions.tables (world_of hosts (take count (acts_in 0 hosts start acts))).log at)
  -- and its groups are the same,
  pub groups : (count : ℕ) (at : Inst)
      → (world_of hosts
      (take count (erased o (links_of hosts) (acts_in 0 hosts start acts)))).groups at
      ≡ (world_of hosts (take count (acts_in 0 hosts start acts))).groups at
  -- and so is its administration.
  pub administration : (count : ℕ)
      → hosts_in hosts (world_of hosts
      (take count (erased o (links_of hosts) (acts_in 0 hosts start acts))))
      ≡ hosts_in hosts (world_of hosts (take count (acts_in 0 hosts start acts)))

-- ---- a run

-- The lines ran, each over one of the instances, and wrote this text: these are the acts of all
-- that is promised. These are the instances before the first of them.
pub record HasRun (hosts : List Host) (lines : List Line) (old new : List KeeperState)
    (before after : Carried) (text : List ℕ) : Type 0 where
  pub dones : List Done
  pub done : AreDone lines dones
  pub text_is : text ≡ text_from 1 dones
  pub ran : Ran hosts (acts_of dones) old new (outputs_of dones)
  pub formed : AreAsFormed hosts (acts_of dones) (outputs_of dones)
  pub among : AreAmong (length hosts) (acts_of dones)
  -- what carries failed at least as often as the outputs tell it
  pub carried : RoseBy (carry_faults (outputs_of dones)) before.faults after.faults
  -- and what it answered is what passes for these lines
  pub passed : Passes hosts dones old new before.passed after.passed

-- The acts of these lines are those of a history, under outcomes that their outputs tell: all of an
-- act was done, or what of it was done before it was stopped.
pub record IsHistoryOf (hosts : List Host) (dones : List Done) (new : List KeeperState)
    : Type 0 where
  pub outcomes : List Outcome
  pub each : length outcomes ≡ length (acts_of dones)
  pub agree : map stop_of outcomes ≡ map stop_in (outputs_of dones)
  -- each output is the stated function of its act and of what the history shows at its instance
  pub replied : outputs_of dones ≡ told_outputs 0 hosts start (acts_of dones) outcomes
  -- each keeper holds the newest versions and the groups of its instance, what was made there, and
  -- nothing else
  pub tables : Tables
  pub tables_are : Tell new tables
  pub newest : IsHistory hosts (length (acts_of dones))
      (world_left 0 hosts start (acts_of dones) outcomes) tables
  -- and what is set up in the end is what the history says
  pub administration : hosts_left hosts (acts_of dones) (outputs_of dones)
      ≡ hosts_in hosts (world_left 0 hosts start (acts_of dones) outcomes)
  -- where nothing stopped, elements that an organisation was never granted change none of its
  -- replies
  pub private : ShowNoStop dones → (o : OrgId)
      → IsPrivateFor o hosts (acts_of dones) (outputs_of dones)

-- a link bars a synchronisation so: it is not there, is off, or leads to no other instance
abbrev pub IsBar : Cause → Type 0
IsBar Cause.NoLink = Unit {0}
IsBar Cause.LinkOff = Unit {0}
IsBar Cause.NoPeer = Unit {0}
IsBar cause = ⊥

-- a line that is none, asks nothing, or has no reply; a refusal; or a synchronisation that its link
-- bars. Before another refusal of a synchronisation something may have been taken.
abbrev pub IsIdle : Output → Type 0
IsIdle (Bad place) = Unit {0}
IsIdle Nothing = Unit {0}
IsIdle (Unanswered end) = Unit {0}
IsIdle (Replied reply) = IsRefused reply
IsIdle (Synced (SyncReply.Done count)) = ⊥
IsIdle (Synced (SyncReply.Stopped count cause)) = IsBar cause

-- THE headline: what is promised of the run of a script, of which this is the text.
pub record IsNetRun (hosts : List Host) (lines : List Line) (old new : List KeeperState)
    (before after : Carried) (text : List ℕ) : Type 0 where
  pub run : HasRun hosts lines old new before after text
  -- what is refused changes nothing that is held, and nothing that is set up, at whatever moment
  pub refused : (moment : List Host) (outcome : Outcome) (act : Act) (tables : Tables)
      → IsIdle (output_of outcome moment act tables)
      → tables_after outcome moment act tables ≡ tables
  pub unchanged : (moment : List Host) (act : Act) (output : Output)
      → IsIdle output → hosts_after moment act output ≡ moment
  -- and over keepers that held nothing, and still report what they hold, all is that of the history
  pub history : AreDistinct hosts → Tell old (empty_tables hosts) → AllReport new
      → IsHistoryOf hosts run.dones new

-- The run was cut short: some first lines did this, and the keepers and what passed are as they
-- left them. None of their outputs is written.
pub record IsCut (hosts : List Host) (lines : List Line) (old new : List KeeperState)
    (before after : Option Trail) : Type 0 where
  pub count : ℕ
  pub dones : List Done
  pub done : AreDone (take count lines) dones
  pub ran : Ran hosts (acts_of dones) old new (outputs_of dones)
  pub passed : Passes hosts dones old new before after
