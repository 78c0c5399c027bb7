-- What a wire to a peer is asked, and what the peer does then.
use Rattle.std.specs.Prelude.{◌≡◌, ◌⊎◌, ◌≤◌, ℕ, true, List, [], ◌∷◌, Option, None, Some, option_and_then, IfSome}
use Rattle.misp_ids.specs.Uid.{IsUid}
use Rattle.misp_orgs.specs.Admin.{who_of}
use Rattle.misp_outside.specs.Causes.{HasCause}
use Rattle.misp_outside.specs.Reporting.{WhereReported}
use Rattle.misp_store.specs.Sharing.{HasSoundAdmin}
use Rattle.misp_core.specs.Effects.{by_keeper}
use Rattle.misp_core.specs.Prelude.{Caller, Did, Held, Host, Standing, host_of, seen_in, stop_in}
use Rattle.misp_core.specs.Sound.{IsSound, IsWorded}
use Rattle.misp_core.specs.Text.{http_text}
use Rattle.misp_core.specs.declared.reply.Reply.{Reply}
use Rattle.misp_client.specs.Calling.{called}
use Rattle.misp_client.specs.declared.call.Call.{Call}

-- ---- the peer

-- what holds of a peer before and after, where there is one; there is one then just where there was
abbrev pub Meet : Option Standing → Option Standing → (Standing → Standing → Type 0) → Type 0
Meet None None P = Unit {0}
Meet None (Some new) P = ⊥
Meet (Some old) None P = ⊥
Meet (Some old) (Some new) P = P old new

-- an instance has the name and the administration that it had
pub record IsSameHost (old new : Standing) : Type 0 where
  pub name : new.name ≡ old.name
  pub admin : new.admin ≡ old.admin

-- each key that is known there is of an organisation
abbrev pub HasOwners : Host → Type 0
HasOwners host =
    (key : List ℕ) (caller : Caller) → who_of host.admin key ≡ Some caller → IsUid caller.org.0

-- A peer that was asked is the same, and its count of faults does not fall. One that reports
-- nothing reports nothing then.
pub record IsSamePeer (old new : Standing) : Type 0 where
  pub host : IsSameHost old new
  pub later : old.faults ≤ new.faults
  pub silent : old.held ≡ None → new.held ≡ None

-- ---- what it does

-- It replied so to a call of this key, at some moment, and these are the bytes. Where it reports
-- what it holds, the reply and what it holds then are the stated function of that, and the rows of its
-- administration ascended, each a group or an item.
pub record IsAnswered (key : List ℕ) (call : Call) (old new : Standing) (bytes : List ℕ)
    : Type 0 where
  pub now : ℕ
  pub reply : Reply
  pub bytes_are : bytes ≡ http_text reply true
  pub replied : WhereReported old.held new.held
      (λ held left. Did (called (host_of old) now key call (seen_in held)) held reply left)
  pub groups : IfSome old.held HasSoundAdmin
  pub owners : HasOwners (host_of old)
  pub sound : IsSound reply
  pub worded : IsWorded reply
  pub cause : HasCause old.faults new.faults (stop_in reply ≡ by_keeper)

-- no reply came: the call was not done, or it was and its reply is lost
abbrev pub MayBeDone : List ℕ → Call → Standing → Standing → Type 0
MayBeDone key call old new =
    WhereReported old.held new.held (λ held left. (left ≡ held)
    ⊎ ((now : ℕ) × (reply : Reply)
    × Did (called (host_of old) now key call (seen_in held)) held reply left))

-- ---- what went over it

-- a request that has no reply, or nothing
abbrev pub IsUnanswered : List ℕ → List (List ℕ) → Type 0
IsUnanswered request trail = (trail ≡ []) ⊎ (trail ≡ request ∷ [])

-- ---- what is reported of it

-- the peer, where it is of this process; the bytes that went over the wire, where it reports them;
-- and how often it has failed
pub record WireState : Type 0 where
  pub peer : Option Standing
  pub trail : Option (List (List ℕ))
  pub faults : ℕ

abbrev pub wire_state : Option Standing → Option (List (List ℕ)) → ℕ → WireState
wire_state peer trail faults = record { peer = peer; trail = trail; faults = faults }

-- what the peer holds, where that is reported
abbrev pub held_of : Option Standing → Option Held
held_of peer = option_and_then (λ (s : Standing). s.held) peer

-- who the peer is, where it is of this process
abbrev pub peer_of : Option Standing → Option Host
peer_of None = None
peer_of (Some peer) = Some (host_of peer)
