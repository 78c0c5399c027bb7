-- The instances of a run, as its code has them, and one act or line that runs over them.
use Rattle.std.specs.Prelude.{◌≡◌, ◌≢◌, ◌⊎◌, ℕ, ◌∷◌, ◌++◌, false, List, [], map, Option, Some, Result, Ok, Err}
use Rattle.hex.specs.Hex.{encode_lower}
use Rattle.misp_outside.specs.KeeperState.{state}
use Rattle.misp_outside.specs.Causes.{HasCause, RoseBy}
use Rattle.misp_outside.specs.Reporting.{StaysHeld, WhereReported}
use Rattle.misp_script.specs.Step.{GroupData, SyncData, RawData, RequestData}
use Rattle.misp_http.specs.Reading.{IsConclusive, IsRead}
use Rattle.misp_http.specs.Texts.{request_text}
use Rattle.misp_http.specs.declared.request.Read.{Read}
use Rattle.misp_http.specs.declared.request.ReadEnd.{ReadEnd}
use Rattle.misp_store.specs.declared.fault.LoadFault.{LoadFault}
use Rattle.misp_core.specs.Prelude.{Host, KeeperState, Seen, Standing, host_of, seen_in, spelled}
use Rattle.misp_core.specs.Effects.{by_keeper}
use Rattle.misp_core.specs.declared.reply.Reply.{Reply}
use Rattle.misp_api.specs.Sending.{IsAnswered}
use Rattle.misp_api.specs.Administering.{group_form}
use Rattle.misp_api.specs.Refusing.{TurnsAway}
use Rattle.misp_api.specs.Session.{Session, end_name, end_of}
use Rattle.misp_api.specs.declared.sessions.End.{End}
use Rattle.misp_api.specs.declared.sessions.SessionEnd.{SessionEnd}
use Rattle.misp_effects.specs.Effect.{Does as DoesCall}
use Rattle.misp_effects.specs.KeeperStates.{AreKept}
use Rattle.misp_effects.specs.declared.stop.Side.TheVariants.{Here, There}
use Rattle.misp_effects.specs.declared.stop.Stop.TheVariants as stops
use Rattle.misp_dialogue.specs.Parties.{GrowsBy}
use Rattle.misp_sync.specs.Directions.{giver, synced_on, taker, telling_on}
use Rattle.misp_sync.specs.declared.reply.SyncReply.{SyncReply}
use Rattle.misp_net.specs.Acts.{Act, Does, Done, outputs_done}
use Rattle.misp_net.specs.Carrying.{Carried, carry_faults}
use Rattle.misp_net.specs.Hosts.{host_at}
use Rattle.misp_net.specs.Lines.{Line}
use Rattle.misp_net.specs.Links.{place_of_peer}
use Rattle.misp_net.specs.Meaning.{meaning, stop_in}
use Rattle.misp_net.specs.Passing.{IsPassedFor, Trail}
use Rattle.misp_net.specs.Run.{IsDone}
use Rattle.misp_net.specs.Text.{done_text}
use Rattle.misp_net.specs.Walk.{hosts_done}
use Rattle.misp_net.specs.declared.line.Output.{Output}
use Rattle.misp_net.specs.declared.line.Output.TheVariants.{Replied, Unanswered}
use Rattle.misp_net.specs.declared.places.NetFault.{NetFault}
use Rattle.misp_core.specs.Effects as replies
use Rattle.misp_api.specs.Administering as groups
use Rattle.misp_effects.specs.Course as courses
use Rattle.misp_sync.specs.Pulled as pulls

abbrev pub hosts_of : List Standing → List Host
hosts_of instances = map host_of instances

abbrev pub state_of : Standing → KeeperState
state_of i = state i.held i.faults

abbrev pub states_of : List Standing → List KeeperState
states_of instances = map state_of instances

-- An act took the keepers from old to new, and put this out.
abbrev pub IsAct : List Host → Act → List KeeperState → List KeeperState → Output → Type 0
IsAct hosts act old new output =
    courses.IsAct Seen Output seen_in spelled stop_in (meaning hosts act).means old new output

-- ---- requests

-- what was read was answered so, or there was nothing to answer
abbrev pub IsAsked : ℕ → ℕ → Result Read ReadEnd → Standing → Standing → Output → Type 0
IsAsked now word (Ok read) old new output =
    (reply : Reply) × (output ≡ Replied reply) × IsAnswered now word read old new reply
IsAsked now word (Err end) old new output = (output ≡ Unanswered (end_of end)) × (new ≡ old)

-- a request of a line was read from its bytes, and came to this
abbrev pub IsRequested : ℕ → ℕ → RequestData → Standing → Standing → Output → Type 0
IsRequested now word r old new output =
    (read : Result Read ReadEnd) × (left : Option (List ℕ)) × IsConclusive read
    × IsRead (request_text r.method r.target r.key r.body false) read left
    × IsAsked now word read old new output

-- the group of a line was administered so
abbrev pub IsAdministered : ℕ → GroupData → Standing → Standing → Output → Type 0
IsAdministered now line old new output =
    (reply : Reply) × (output ≡ Replied reply)
    × WhereReported old.held new.held
    (λ held left. groups.IsDone now line.org line.add (group_form line.body) held reply left)
    × TurnsAway (group_form line.body) old new reply
    × HasCause old.faults new.faults (replies.stop_in reply ≡ by_keeper)

-- ---- sessions

-- the session of a line went so, over ends that never fail, and this was written of it
abbrev pub HasSession : ℕ → ℕ → RawData → Standing → Standing → (List ℕ → Type 0) → Type 0
HasSession now word r old new Wrote =
    (end : SessionEnd) × (left : Option (List ℕ)) × (next : Option ℕ) × (written : List ℕ)
    × Session now (record { bytes = r.bytes; instance = old; word = word; written = [] })
    end left new next (Some written)
    × (end.end ≢ End.ReadFault) × (end.end ≢ End.WriteFault)
    × Wrote (end_name end.end ++ 32 ∷ encode_lower written)

-- ---- synchronisations

-- What a synchronisation did between two keepers: with the one that takes what it comes to, as far
-- as nothing stopped it; and what the other holds stays. The fault of each is told only where this
-- keeper failed.
pub record IsSynced (hosts : List Host) (line : SyncData) (reply : SyncReply)
    (own here peer there : KeeperState) : Type 0 where
  pub did : WhereReported own.held here.held (λ o now. WhereReported peer.held there.held
      (λ p left. DoesCall SyncReply spelled pulls.stop_in (telling_on line.direction)
      (synced_on line.direction (host_at line.at hosts) line.link
      (host_at (place_of_peer hosts line.at line.link) hosts) (seen_in o) (seen_in p))
      (taker line.direction o p) reply (taker line.direction now left)))
  pub kept :
      StaysHeld (giver line.direction own peer).held (giver line.direction here there).held
  pub cause : HasCause own.faults here.faults (pulls.stop_in reply ≡ Some (stops.Keeper Here))
  pub peer_cause : HasCause peer.faults there.faults
      (pulls.stop_in reply ≡ Some (stops.Keeper There))

-- ---- lines

-- A line was run over the instances, which are these then, and wrote this behind what was there. The
-- count of the faults of what carries rose by at least as many as its outputs tell, and what is
-- stated passed.
abbrev pub RanLine : List Host → List Host → Line → List KeeperState → List KeeperState
    → List ℕ → List ℕ → Carried → Carried → Type 0
RanLine hosts then line old new before after carry left =
    (d : Done) × Does line d × IsDone hosts d old new × (then ≡ hosts_done hosts d)
    × (after ≡ before ++ done_text d)
    × RoseBy (carry_faults (outputs_done d)) carry.faults left.faults
    × GrowsBy carry.passed left.passed (IsPassedFor hosts old new d)

-- memory ran out: it did nothing, or all that it does, and is not written
abbrev pub CutLine : List Host → Line → List KeeperState → List KeeperState
    → Option Trail → Option Trail → Type 0
CutLine hosts line old new before after =
    (AreKept old new × (after ≡ before))
    ⊎ ((d : Done) × Does line d × IsDone hosts d old new
    × GrowsBy before after (IsPassedFor hosts old new d))

-- why the instances do not open, by why one of them does not
abbrev pub fault_of : LoadFault → NetFault
fault_of LoadFault.KeeperFault = NetFault.KeeperFault
fault_of (LoadFault.BadRow name) = NetFault.BadRow
fault_of LoadFault.NoMemory = NetFault.NoMemory
