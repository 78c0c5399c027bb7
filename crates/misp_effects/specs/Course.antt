-- What is known of the course of commands over keepers, some of which may not report what they
-- hold.
use Rattle.std.specs.Prelude.{◌≡◌, ℕ, List, map, length, Option}
use Rattle.misp_effects.specs.Prelude.{Held, KeeperState, Meaning, RoseBy, Spelling, Stop, Tables}
use Rattle.misp_effects.specs.Batches.{AreReadable}
use Rattle.misp_effects.specs.Effect.{Outcome, stop_of}
use Rattle.misp_effects.specs.KeeperStates.{WhereTold, count_at}
use Rattle.misp_effects.specs.Run.{effect_in, output_of, tables_after, outputs_of, tables_left, AreFit, fault_at, faults_at}

-- ---- one command

-- over these tables it put this out and left this, under some outcome, which the output tells; and
-- each batch that it put is readable
pub record IsDone (S A : Type 0) (seen_in : Held → S) (spelled : Spelling)
    (stop_in : A → Option Stop) (m : Meaning S A)
    (output : A) (tables after : Tables) : Type 0 where
  pub outcome : Outcome
  pub agree : stop_of outcome ≡ stop_in output
  pub output_is : output ≡ output_of seen_in outcome m tables
  pub tables_are : after ≡ tables_after seen_in spelled outcome m tables
  pub fits : AreReadable (effect_in seen_in outcome m tables).batches

-- It took the keepers from old to new, and put this out. It names the fault of a keeper only where
-- this keeper's count rose; and where all keepers report what they hold, it was done over that.
pub record IsAct (S A : Type 0) (seen_in : Held → S) (spelled : Spelling)
    (stop_in : A → Option Stop) (m : Meaning S A)
    (old new : List KeeperState) (output : A) : Type 0 where
  pub places : length new ≡ length old
  pub causes : (place : ℕ)
      → RoseBy (fault_at stop_in place m output) (count_at place old) (count_at place new)
  pub done : WhereTold old new (IsDone S A seen_in spelled stop_in m output)

-- ---- all commands, one after another

-- over these tables they put this out and left this, each under some outcome
pub record AreDone (S A : Type 0) (seen_in : Held → S) (spelled : Spelling)
    (stop_in : A → Option Stop) (ms : List (Meaning S A))
    (outputs : List A) (tables after : Tables) : Type 0 where
  pub outcomes : List Outcome
  pub each : length outcomes ≡ length ms
  pub agree : map stop_of outcomes ≡ map stop_in outputs
  pub outputs_are : outputs ≡ outputs_of seen_in spelled ms outcomes tables
  pub tables_are : after ≡ tables_left seen_in spelled ms outcomes tables
  pub fits : AreFit seen_in spelled ms outcomes tables

-- They took the keepers from old to new, and put this out, one output for each. They name the fault
-- of a keeper no more often than this keeper's count rose.
pub record HasRun (S A : Type 0) (seen_in : Held → S) (spelled : Spelling)
    (stop_in : A → Option Stop) (ms : List (Meaning S A))
    (old new : List KeeperState) (outputs : List A) : Type 0 where
  pub each : length outputs ≡ length ms
  pub places : length new ≡ length old
  pub causes : (place : ℕ)
      → RoseBy (faults_at stop_in place ms outputs) (count_at place old) (count_at place new)
  pub done : WhereTold old new (AreDone S A seen_in spelled stop_in ms outputs)
