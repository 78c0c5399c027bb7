-- A synchronisation of an instance over one of its links, and the line that tells it.
use Rattle.std.specs.Prelude.{◌≡◌, ◌⊎◌, ◌&&◌, ℕ, not, bytes_eq, find, List, [], ◌∷◌, Option, Some, None, option_map, IfSome}
use Rattle.misp_ids.specs.declared.label.Direction.{Direction}
use Rattle.misp_orgs.specs.Admin.{link_of}
use Rattle.misp_orgs.specs.declared.link.Link.{Link}
use Rattle.misp_outside.specs.Causes.{HasCause}
use Rattle.misp_outside.specs.Reporting.{StaysHeld}
use Rattle.misp_outside.specs.Wires.{Asked}
use Rattle.misp_effects.specs.KeeperStates.{AreKept}
use Rattle.misp_effects.specs.declared.stop.Side.TheVariants.{Here}
use Rattle.misp_effects.specs.declared.stop.Stop.TheVariants as stops
use Rattle.misp_script.specs.declared.description.Entry.{Entry}
use Rattle.misp_store.specs.Sharing.{WereSound}
use Rattle.misp_core.specs.Prelude.{Host, KeeperState, Standing}
use Rattle.misp_dialogue.specs.Parties.{GrowsBy}
use Rattle.misp_protocol.specs.Counts.{no_count}
use Rattle.misp_protocol.specs.declared.cause.Cause.{Cause}
use Rattle.misp_sync.specs.Causes.{bar_of}
use Rattle.misp_sync.specs.Dialled.{trail_to}
use Rattle.misp_sync.specs.Pulled.{stop_in}
use Rattle.misp_sync.specs.Synchronised.{IsTrailOver}
use Rattle.misp_sync.specs.declared.reply.SyncReply.{SyncReply}
use Rattle.misp_net.specs.Opening.{opened_states}
use Rattle.misp_net.specs.Running.{state_of}
use Rattle.misp_net.specs.SyncText.{synced_line}
use Rattle.misp_words.specs.Words.{SyncData}
use Rattle.misp_app.specs.Hosting.{OpensAs}
use Rattle.misp_app.specs.Status.{Wrote}
use Rattle.misp_app.specs.declared.status.Status.{Status}
use Rattle.misp_app.specs.declared.status.Status.TheVariants.{Done, Stopped, WriteFault, OutOfMemory}

-- ---- where the peer is asked

-- the instance of this name, other than the one that asks
abbrev pub entry_beside : List ℕ → List Entry → List ℕ → Option Entry
entry_beside here entries name =
    find (λ (e : Entry). bytes_eq e.name name && not (bytes_eq e.name here)) entries

-- its address
abbrev pub address_beside : List ℕ → List Entry → List ℕ → Option (List ℕ)
address_beside here entries name =
    option_map (λ (e : Entry). e.address) (entry_beside here entries name)

-- the address of the peer of a link, where it is one of the other instances
abbrev pub peer_address : List ℕ → List Entry → Option Link → Option (List ℕ)
peer_address here entries None = None
peer_address here entries (Some link) = address_beside here entries link.peer

-- ---- what is asked

-- what a dial tells: its asks so far, where it tells them, and how often it has failed
pub record Dialled : Type 0 where
  pub asks : Option (List Asked)
  pub faults : ℕ

abbrev pub dialled : Option (List Asked) → ℕ → Dialled
dialled asks faults = record { asks = asks; faults = faults }

-- nothing is asked, for this cause
pub record IsUnasked (cause : Cause) (start end : Standing) (before after : Dialled)
    (reply : SyncReply) : Type 0 where
  pub just : reply ≡ SyncReply.Stopped no_count cause
  pub still : end ≡ start
  pub none : after ≡ before

-- An instance was synchronised over a link with a peer that is asked at an address, if there is one,
-- and this was told of it.
pub record SyncsOver (words : SyncData) (address : Option (List ℕ)) (start end : Standing)
    (before after : Dialled) (reply : SyncReply) : Type 0 where
  -- a link that is not there or is off is refused just so, and nothing is asked
  pub barred : IfSome (bar_of (link_of start.admin.links words.link)) (λ why.
      IsUnasked why start end before after reply)
  -- and so is one that leads to none of the other instances
  pub alone : bar_of (link_of start.admin.links words.link) ≡ None → address ≡ None
      → IsUnasked Cause.NoPeer start end before after reply
  -- What was asked and answered are the stated requests and their replies, from the first on, and
  -- all of them where it is done. All of them went to the address, whatever was asked before. What
  -- is held then, and counted, is what these replies bring.
  pub course : IfSome address (λ at. GrowsBy (trail_to at before.asks) (trail_to at after.asks)
      (IsTrailOver words.direction (link_of start.admin.links words.link) start end.held None None
      reply))
  -- what is held where a push begins stays
  pub kept : words.direction ≡ Direction.Push → StaysHeld start.held end.held
  -- rule 26 only where the count of the keeper rose
  pub cause : HasCause start.faults end.faults (stop_in reply ≡ Some (stops.Keeper Here))
  -- rule 25 only where that of the dial did
  pub link : HasCause before.faults after.faults (stop_in reply ≡ Some stops.Carry)
  pub name : end.name ≡ start.name
  pub admin : end.admin ≡ start.admin

-- An instance of this host among these was opened over the keeper, and synchronised. Then its keeper
-- was put back. It is opened only where every row that the keeper holds decodes, where it reports.
pub record Synchronised (host : Host) (words : SyncData) (entries : List Entry)
    (old new : List KeeperState) (before after : Dialled) (reply : SyncReply) : Type 0 where
  pub start : Standing
  pub end : Standing
  pub host_is : OpensAs host start
  pub opened : AreKept (opened_states old) (state_of start ∷ [])
  pub closed : new ≡ state_of end ∷ []
  pub sound : WereSound old (state_of start ∷ [])
  pub syncs : SyncsOver words
      (peer_address start.name entries (link_of start.admin.links words.link))
      start end before after reply

-- ---- how it ends

-- how a run ends whose line says this
abbrev pub reply_status : SyncReply → Status
reply_status (SyncReply.Done count) = Done
reply_status (SyncReply.Stopped count cause) = Stopped

-- the reply decides it, but where the line was not written whole
abbrev pub EndsBy : SyncReply → Status → Type 0
EndsBy reply WriteFault = Unit {0}
EndsBy reply status = status ≡ reply_status reply

-- the line was written, or some of it
abbrev pub HasSyncLine : Status → Type 0
HasSyncLine Done = Unit {0}
HasSyncLine Stopped = Unit {0}
HasSyncLine WriteFault = Unit {0}
HasSyncLine status = ⊥

-- it was synchronised, and the line of what it was told was written
pub record HasSynced (host : Host) (words : SyncData) (entries : List Entry)
    (old new : List KeeperState) (before after : Dialled) (written behind : Option (List ℕ))
    (status : Status) : Type 0 where
  pub reply : SyncReply
  pub synced : Synchronised host words entries old new before after reply
  pub ends : EndsBy reply status
  pub wrote : Wrote status written behind (synced_line 1 reply)

-- where memory ran out: it was synchronised, or nothing was done
abbrev pub IsCutSync : Host → SyncData → List Entry → List KeeperState → List KeeperState
    → Dialled → Dialled → Type 0
IsCutSync host words entries old new before after =
    (AreKept old new × (after ≡ before))
    ⊎ ((reply : SyncReply) × Synchronised host words entries old new before after reply)

-- by how it ended
abbrev pub EndsSync : Status → Host → SyncData → List Entry → List KeeperState → List KeeperState
    → Dialled → Dialled → Option (List ℕ) → Option (List ℕ) → Type 0
EndsSync Done host words entries old new before after written behind =
    HasSynced host words entries old new before after written behind Done
EndsSync Stopped host words entries old new before after written behind =
    HasSynced host words entries old new before after written behind Stopped
EndsSync WriteFault host words entries old new before after written behind =
    HasSynced host words entries old new before after written behind WriteFault
EndsSync OutOfMemory host words entries old new before after written behind =
    IsCutSync host words entries old new before after
EndsSync status host words entries old new before after written behind = Unit {0}
