-- The script of a source, run over the keepers of its instances.
use Rattle.std.specs.Prelude.{ℕ, List, length, take, Option}
use Rattle.std.specs.Io.KnownBytes.{Appends}
use Rattle.misp_http.specs.Streams.{AppendsSome}
use Rattle.misp_generated.specs.Summary.{summary_text}
use Rattle.misp_script.specs.Directory.{directory_of}
use Rattle.misp_store.specs.Sharing.{WereSound}
use Rattle.misp_net.specs.Carrying.{Carried}
use Rattle.misp_net.specs.Opening.{AreOpened, IsCutShort, opened_states}
use Rattle.misp_net.specs.Prelude.{AreDistinct, Description, Host, KeeperState, described_hosts, lines_of}
use Rattle.misp_net.specs.Promise.{IsNetRun}
use Rattle.misp_app.specs.declared.running.Shown.{Shown}
use Rattle.misp_app.specs.declared.status.Status.{Status}
use Rattle.misp_app.specs.declared.status.Status.TheVariants.{Done, WriteFault, OutOfMemory}
use Rattle.misp_script.specs.Lines as script

-- the summary of the lines of a text
abbrev pub summary_of : ℕ → List ℕ → List ℕ
summary_of count text = summary_text count (script.lines_of text)

-- what is shown of the lines of a text
abbrev pub shown_text : Shown → List ℕ → List ℕ
shown_text Shown.Lines text = text
shown_text (Shown.Summary count) text = summary_of count text

-- The script of a network was run over the keepers of its instances, and its lines were written so.
pub record HasRun (net : Description) (script : List ℕ) (old new : List KeeperState)
    (before after : Carried) (Writes : List ℕ → Type 0) : Type 0 where
  pub lines : List ℕ
  pub distinct : AreDistinct (described_hosts net)
  -- every row that the keepers held decodes
  pub sound : WereSound (take (length net.instances) old) (take (length net.instances) new)
  -- the instances as they opened
  pub hosts : List Host
  pub opened : AreOpened (described_hosts net) (opened_states (take (length net.instances) old))
      (take (length net.instances) new) hosts
  pub ran : IsNetRun hosts (lines_of (directory_of net) script)
      (opened_states (take (length net.instances) old)) (take (length net.instances) new)
      before after lines
  pub written : Writes lines

-- By how it ended: it was run, and what tells of its lines is written, or some of it where the sink
-- failed; or memory ran out, some first lines were run or none, and nothing is written.
abbrev pub EndsTold : (List ℕ → List ℕ) → Status → Description → List ℕ → List KeeperState
    → List KeeperState → Carried → Carried → Option (List ℕ) → Option (List ℕ) → Type 0
EndsTold tells Done net script old new before after written behind =
    HasRun net script old new before after (λ lines. Appends written behind (tells lines))
EndsTold tells WriteFault net script old new before after written behind =
    HasRun net script old new before after (λ lines. AppendsSome written behind (tells lines))
EndsTold tells OutOfMemory net script old new before after written behind =
    IsCutShort (described_hosts net) (lines_of (directory_of net) script)
    (take (length net.instances) old) (take (length net.instances) new)
    before.passed after.passed
EndsTold tells status net script old new before after written behind = Unit {0}

-- where the lines are written
abbrev pub EndsRun : Status → Description → List ℕ → List KeeperState → List KeeperState
    → Carried → Carried → Option (List ℕ) → Option (List ℕ) → Type 0
EndsRun = EndsTold (λ lines. lines)

-- where their summary is, of a generated network with so many events
abbrev pub EndsGenerated : ℕ → Status → Description → List ℕ → List KeeperState
    → List KeeperState → Carried → Carried → Option (List ℕ) → Option (List ℕ) → Type 0
EndsGenerated count = EndsTold (summary_of count)
