-- What a synchronisation between two instances of one process leaves of them.
use Rattle.std.specs.Prelude.{◌≡◌, ℕ, List, Some, IfSome, slice_index_or, slice_set}
use Rattle.misp_ids.specs.Same.{Inst}
use Rattle.misp_ids.specs.declared.label.Direction.{Direction}
use Rattle.misp_orgs.specs.Admin.{link_of}
use Rattle.misp_core.specs.Prelude.{Standing}
use Rattle.misp_protocol.specs.Counts.{no_count}
use Rattle.misp_sync.specs.Causes.{bar_of}
use Rattle.misp_sync.specs.Synchronised.{HasSynchronised}
use Rattle.misp_sync.specs.Wire.{WireState, wire_state}
use Rattle.misp_sync.specs.declared.reply.SyncReply.{SyncReply}
use Rattle.misp_net.specs.Carrying.{Carried}

-- the wire to an instance, over what carries
abbrev pub wire_to : Standing → Carried → WireState
wire_to peer carry = wire_state (Some peer) carry.passed carry.faults

-- nothing was asked: the link refuses it just so, and both are as they were
pub record IsHeldOff (own peer mine theirs : Standing) (reply told : SyncReply) : Type 0 where
  pub just : reply ≡ told
  pub own_is : mine ≡ own
  pub peer_is : theirs ≡ peer

-- The one synchronised with the other over a link: they were own and peer, and are mine and theirs.
-- What carries was before, and is after.
pub record HasSynced (direction : Direction) (link : Inst) (before after : Carried)
    (own peer mine theirs : Standing) (reply : SyncReply) : Type 0 where
  pub synchronised :
      HasSynchronised direction link own mine (wire_to peer before) (wire_to theirs after) reply
  pub barred : IfSome (bar_of (link_of own.admin.links link))
      (λ why. IsHeldOff own peer mine theirs reply (SyncReply.Stopped no_count why))

-- The same of one that is no more in the list, and of one at a place there.
pub record HasSyncedWith (direction : Direction) (link : Inst) (before after : Carried) (place : ℕ)
    (own mine : Standing) (old new : List Standing) (reply : SyncReply) : Type 0 where
  pub theirs : Standing
  pub went : (d : Standing)
      → HasSynced direction link before after own (slice_index_or old place d) mine theirs reply
  pub left : new ≡ slice_set old place theirs

-- the same of two in a list: each is in its place, and the others are as they were
pub record HaveSynced (direction : Direction) (link : Inst) (before after : Carried) (own peer : ℕ)
    (old new : List Standing) (reply : SyncReply) : Type 0 where
  pub mine : Standing
  pub theirs : Standing
  pub went : (d : Standing) → HasSynced direction link before after (slice_index_or old own d)
      (slice_index_or old peer d) mine theirs reply
  pub left : new ≡ slice_set (slice_set old own mine) peer theirs
