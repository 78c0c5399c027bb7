-- The lines of a script.
use Rattle.std.specs.Prelude.{ℕ, List, Ok, map}
use Rattle.misp_script.specs.Directory.{Roster}
use Rattle.misp_script.specs.Fields.{Reading}
use Rattle.misp_script.specs.Step.{SyncData, StepData, step_of}
use Rattle.misp_script.specs.Lines as script
use Rattle.misp_script.specs.Step as commands

-- a line of a script: a step, or the place of its first faulty field
abbrev pub Line : Type 0
Line = Reading StepData

-- the lines of a script, among these instances
abbrev pub lines_of : List Roster → List ℕ → List Line
lines_of rosters text = map (step_of rosters) (script.lines_of text)

-- the line of a synchronisation, at this time and with this word
abbrev pub sync_line : ℕ → ℕ → SyncData → Line
sync_line time word line =
    Ok (record { time = time; word = word; command = commands.Sync line })
