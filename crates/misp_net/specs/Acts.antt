-- What the lines of a script do, one act after another.
use Rattle.std.specs.Prelude.{◌≡◌, ◌<◌, ℕ, suc, Bool, true, false, List, [], ◌∷◌, ◌++◌, map, Option, Some, None, Result, Ok, Err}
use Rattle.std.specs.List.{AllByRecursion}
use Rattle.misp_script.specs.Step.{CommandData, GroupData, SyncData}
use Rattle.misp_http.specs.Reading.{IsConclusive, IsRead}
use Rattle.misp_http.specs.Texts.{request_text}
use Rattle.misp_http.specs.declared.request.Read.{Read}
use Rattle.misp_http.specs.declared.request.ReadEnd.{ReadEnd}
use Rattle.misp_http.specs.declared.request.ReadEnd.TheVariants as reading
use Rattle.misp_api.specs.Session.{end_of}
use Rattle.misp_api.specs.Turn.{closes, next_word}
use Rattle.misp_api.specs.declared.TheConstants.{MAX_REQUESTS}
use Rattle.misp_api.specs.declared.sessions.End.{End}
use Rattle.misp_api.specs.declared.sessions.End.TheVariants as ends
use Rattle.misp_core.specs.declared.reply.Reply.{Reply}
use Rattle.misp_net.specs.Lines.{Line}
use Rattle.misp_net.specs.declared.line.Output.{Output}
use Rattle.misp_net.specs.declared.line.Output.TheVariants.{Bad, Nothing, Replied, Unanswered}
use Rattle.misp_script.specs.Step as commands

-- ---- acts

-- what is done: nothing, which puts this out; a request that was read at an instance, or bytes that
-- were none; the administration of a group; or a synchronisation
pub data Deed : Type 0 where
  Idle : Output → Deed
  Asks : ℕ → Read → Deed
  Administers : GroupData → Deed
  Syncs : SyncData → Deed

-- an act: its moment, its word and its deed
pub record Act : Type 0 where
  pub time : ℕ
  pub word : ℕ
  pub deed : Deed

abbrev pub act : ℕ → ℕ → Deed → Act
act time word deed = record { time = time; word = word; deed = deed }

-- the instance that is asked is one of so many
abbrev pub IsPlaced : ℕ → Deed → Type 0
IsPlaced count (Idle output) = Unit {0}
IsPlaced count (Asks at read) = at < count
IsPlaced count (Administers group) = group.at < count
IsPlaced count (Syncs line) = line.at < count

-- the same of each of these acts
abbrev pub AreAmong : ℕ → List Act → Type 0
AreAmong count acts = AllByRecursion (λ (a : Act). IsPlaced count a.deed) acts

-- ---- the requests of a connection

-- after so many requests a session ends so at these bytes
abbrev pub EndsHere : ℕ → List ℕ → End → Type 0
EndsHere n bytes ends.Ended = (n < MAX_REQUESTS) × (bytes ≡ [])
EndsHere n bytes ends.Cut =
    (n < MAX_REQUESTS) × ((left : Option (List ℕ)) × IsRead bytes (Err reading.Cut) left)
EndsHere n bytes ends.Quota = n ≡ MAX_REQUESTS
EndsHere n bytes ends.NoMemory = Unit {0}
EndsHere n bytes end = ⊥

-- what follows a request: nothing where it closes, or else what is behind it
abbrev pub GoesOn : Bool → Type 0 → (List ℕ → Type 0) → Option (List ℕ) → Type 0
GoesOn true last next left = last
GoesOn false last next None = ⊥
GoesOn false last next (Some bytes) = next bytes

-- The bytes are these requests, after so many, and their session ends so. Where memory runs out,
-- more of them may follow.
abbrev pub AreRead : ℕ → List ℕ → List Read → End → Type 0
AreRead n bytes [] end = EndsHere n bytes end
AreRead n bytes (read ∷ reads) end =
    (n < MAX_REQUESTS) × ((left : Option (List ℕ)) × IsRead bytes (Ok read) left
    × GoesOn (closes read) ((reads ≡ []) × (end ≡ ends.Closed))
    (λ rest. AreRead (suc n) rest reads end) left)

-- the acts of requests at an instance, each of the next word
abbrev pub asks_from : ℕ → ℕ → ℕ → List Read → List Act
asks_from time word at [] = []
asks_from time word at (read ∷ reads) =
    act time word (Asks at read) ∷ asks_from time (next_word read word) at reads

-- ---- lines

-- what came of a line: one act with its output; or a session at an instance, with its requests,
-- their replies and its end
pub data Done : Type 0 where
  One : Act → Output → Done
  Session : (time word at : ℕ) → List Read → List Reply → End → Done

abbrev pub acts_done : Done → List Act
acts_done (One a output) = a ∷ []
acts_done (Session time word at reads replies end) = asks_from time word at reads

abbrev pub outputs_done : Done → List Output
outputs_done (One a output) = output ∷ []
outputs_done (Session time word at reads replies end) = map Replied replies

-- of lines, one after another
abbrev pub acts_of : List Done → List Act
acts_of [] = []
acts_of (d ∷ dones) = acts_done d ++ acts_of dones

abbrev pub outputs_of : List Done → List Output
outputs_of [] = []
outputs_of (d ∷ dones) = outputs_done d ++ outputs_of dones

-- what the bytes of a request ask at an instance; where they end too soon, its session does
abbrev pub request_deed : ℕ → Result Read ReadEnd → Deed
request_deed at (Ok read) = Asks at read
request_deed at (Err end) = Idle (Unanswered (end_of end))

-- the one act of a line does this
abbrev pub DoesOne : ℕ → ℕ → Deed → Done → Type 0
DoesOne time word deed d = (output : Output) × (d ≡ One (act time word deed) output)

-- what a command does
abbrev pub DoesCommand : ℕ → ℕ → CommandData → Done → Type 0
DoesCommand time word commands.Nothing d = DoesOne time word (Idle Nothing) d
DoesCommand time word (commands.Request r) d =
    (read : Result Read ReadEnd) × (left : Option (List ℕ)) × IsConclusive read
    × IsRead (request_text r.method r.target r.key r.body false) read left
    × DoesOne time word (request_deed r.at read) d
DoesCommand time word (commands.Raw r) d =
    (reads : List Read) × (replies : List Reply) × (end : End) × AreRead 0 r.bytes reads end
    × (d ≡ Session time word r.at reads replies end)
DoesCommand time word (commands.Group group) d = DoesOne time word (Administers group) d
DoesCommand time word (commands.Sync line) d = DoesOne time word (Syncs line) d

-- what a line does
abbrev pub Does : Line → Done → Type 0
Does (Ok step) d = DoesCommand step.time step.word step.command d
Does (Err bad) d = DoesOne 0 0 (Idle (Bad bad.place)) d

-- the same of lines, one after another
abbrev pub AreDone : List Line → List Done → Type 0
AreDone [] [] = Unit {0}
AreDone (line ∷ lines) (d ∷ dones) = Does line d × AreDone lines dones
AreDone lines dones = ⊥

-- no session of them ended for want of memory
abbrev pub HasMemory : Done → Type 0
HasMemory (Session time word at reads replies ends.NoMemory) = ⊥
HasMemory d = Unit {0}
