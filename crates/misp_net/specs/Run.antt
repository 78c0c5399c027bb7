-- The run of a script, given what stopped each of its acts: what is put out, and what is held in
-- the end. The words of misp_effects, of the meanings of the acts.
use Rattle.std.specs.Prelude.{List, length}
use Rattle.misp_effects.specs.KeeperStates.{Tables}
use Rattle.misp_core.specs.Prelude.{Host, KeeperState, Outcome, Seen, seen_in, spelled}
use Rattle.misp_net.specs.declared.line.Output.{Output}
use Rattle.misp_net.specs.Acts.{Act, AreAmong, Done, acts_done, outputs_done}
use Rattle.misp_net.specs.Meaning.{meaning, meanings_of, stop_in, AreAsFormed}
use Rattle.misp_effects.specs.Run as runs
use Rattle.misp_effects.specs.Course as courses

-- what an act puts out
abbrev pub output_of : Outcome → List Host → Act → Tables → Output
output_of outcome hosts act tables =
    runs.output_of seen_in outcome (meaning hosts act).means tables

-- what it leaves
abbrev pub tables_after : Outcome → List Host → Act → Tables → Tables
tables_after outcome hosts act tables =
    runs.tables_after seen_in spelled outcome (meaning hosts act).means tables

-- The acts took the keepers from old to new, and put this out, one output for each. They name the
-- fault of a keeper no more often than this keeper's count rose; and where all keepers tell what
-- they hold, output and holdings are those of the acts, each under an outcome that its output
-- tells.
abbrev pub Ran : List Host → List Act → List KeeperState → List KeeperState → List Output → Type 0
Ran hosts acts old new outputs =
    courses.HasRun Seen Output seen_in spelled stop_in (meanings_of hosts acts outputs) old new outputs

-- It was done so, each act over one of the instances. Over every keeper an act whose form says what
-- it puts out puts that out.
pub record IsDone (hosts : List Host) (d : Done) (old new : List KeeperState) : Type 0 where
  pub ran : Ran hosts (acts_done d) old new (outputs_done d)
  pub formed : AreAsFormed hosts (acts_done d) (outputs_done d)
  pub among : AreAmong (length hosts) (acts_done d)
