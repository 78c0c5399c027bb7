-- What is left of an instance and of a wire that were synchronised.
use Rattle.std.specs.Prelude.{◌≡◌, ℕ, Bool, true, false, List, [], Option, None, Some, option_map}
use Rattle.misp_ids.specs.declared.label.Direction.{Direction}
use Rattle.misp_orgs.specs.Admin.{link_of}
use Rattle.misp_orgs.specs.declared.link.Link.{Link}
use Rattle.misp_outside.specs.Causes.{HasCause}
use Rattle.misp_effects.specs.Effect.{Does}
use Rattle.misp_effects.specs.declared.stop.Side.TheVariants.{Here, There}
use Rattle.misp_effects.specs.declared.stop.Stop.TheVariants as stops
use Rattle.misp_core.specs.Prelude.{Held, Host, Inst, Standing, host_of, seen_in, spelled}
use Rattle.misp_dialogue.specs.Conversed.{after}
use Rattle.misp_outside.specs.Reporting.{StaysHeld, WhereReported}
use Rattle.misp_dialogue.specs.Parties.{GrowsBy}
use Rattle.misp_dialogue.specs.Shares.{EndsBy, Goes, Keeps, Share, failure, share}
use Rattle.misp_dialogue.specs.declared.ending.Ending.{Ending}
use Rattle.misp_protocol.specs.Counts.{no_tally}
use Rattle.misp_protocol.specs.Text.{synchronising}
use Rattle.misp_protocol.specs.declared.cause.Cause.{Cause}
use Rattle.misp_protocol.specs.declared.count.Tally.{Tally}
use Rattle.misp_protocol.specs.declared.request.Answer.{Answer}
use Rattle.misp_sync.specs.Directions.{own_side, peer_side, synced_on, taker, telling_on}
use Rattle.misp_sync.specs.OwnAnswers.{own_conduct, own_state}
use Rattle.misp_sync.specs.Pulled.{stop_in}
use Rattle.misp_sync.specs.Wire.{IsSameHost, Meet, WireState, peer_of}
use Rattle.misp_sync.specs.WireAnswers.{party_state, wire_conduct}
use Rattle.misp_sync.specs.declared.reply.SyncReply.{SyncReply}

-- ---- its dialogue

-- how the dialogue ended, as what is told
abbrev pub reply_of_ending : Ending Tally Cause → SyncReply
reply_of_ending (Ending.Done n) = SyncReply.Done n.count
reply_of_ending (Ending.Stopped n cause) = SyncReply.Stopped n.count cause

-- who the peer is, and what it holds, where that is reported
abbrev pub told_of : Option Standing → Option (Host × Held)
told_of None = None
told_of (Some peer) = option_map (λ held. (host_of peer, held)) peer.held

abbrev pub host_in : Option (Host × Held) → Option Host
host_in peer = option_map (λ p. p.0) peer

-- The dialogue of a synchronisation over a link was held by these answers, and then it ended, by a
-- refusal of a party where there was one. The own instance and the wire were each asked their
-- share, and are the same that they were.
pub record HasConversed (direction : Direction) (link : Link) (own mine : Standing)
    (before left : WireState) (ending : Ending Tally Cause) : Type 0 where
  pub answers : List Answer
  pub last : Option Cause
  pub own_share : Share (own_conduct (host_of own, link))
      (share (own_side direction) (synchronising direction no_tally) answers)
      (failure (own_side direction) (after (synchronising direction no_tally) answers) last)
      (own_state own) (own_state mine)
  pub peer_share : Share (wire_conduct (peer_of before.peer) link.key)
      (share (peer_side direction) (synchronising direction no_tally) answers)
      (failure (peer_side direction) (after (synchronising direction no_tally) answers) last)
      (party_state before) (party_state left)
  pub ends : EndsBy Cause.NoMemory (after (synchronising direction no_tally) answers) last ending
  pub same : host_of mine ≡ host_of own
  pub same_peer : peer_of left.peer ≡ peer_of before.peer

-- The dialogue of a synchronisation over a link went on by these answers, and then it ended, by a
-- refusal of a party where there was one. What each party holds then is what its stated answers
-- leave, where it reports that; the bytes of its requests went to the peer, each with those of
-- which its answer is read; and what is told is how it ended.
pub record IsCourse (direction : Direction) (link : Link) (here : Standing) (new : Option Held)
    (peer left : Option (Host × Held)) (reply : SyncReply) (trail : List (List ℕ)) : Type 0 where
  pub answers : List Answer
  pub last : Option Cause
  pub ending : Ending Tally Cause
  pub own : WhereReported here.held new (Keeps (own_conduct (host_of here, link))
      (share (own_side direction) (synchronising direction no_tally) answers)
      (failure (own_side direction) (after (synchronising direction no_tally) answers) last))
  pub there : WhereReported peer left (λ p now. Keeps (wire_conduct (Some p.0) link.key)
      (share (peer_side direction) (synchronising direction no_tally) answers)
      (failure (peer_side direction) (after (synchronising direction no_tally) answers) last)
      p.1 now.1)
  pub went : Goes (wire_conduct (host_in peer) link.key)
      (share (peer_side direction) (synchronising direction no_tally) answers)
      (failure (peer_side direction) (after (synchronising direction no_tally) answers) last) trail
  pub ends : EndsBy Cause.NoMemory (after (synchronising direction no_tally) answers) last ending
  pub reply_is : reply ≡ reply_of_ending ending

-- nothing where it is off
abbrev pub IfOn : Bool → (List (List ℕ) → Type 0) → List (List ℕ) → Type 0
IfOn true P trail = P trail
IfOn false P trail = trail ≡ []

-- over a link that is there and on
abbrev pub IsTrailOver : Direction → Option Link → Standing → Option Held
    → (peer left : Option (Host × Held)) → SyncReply → List (List ℕ) → Type 0
IsTrailOver direction None here new peer left reply trail = trail ≡ []
IsTrailOver direction (Some link) here new peer left reply trail =
    IfOn link.on (IsCourse direction link here new peer left reply) trail

-- ---- the whole

-- what the one holds that gives stays
abbrev pub Stays : Direction → Standing → Standing → Option Standing → Option Standing → Type 0
Stays Direction.Pull own mine peer theirs =
    Meet peer theirs (λ old new. StaysHeld old.held new.held)
Stays Direction.Push own mine peer theirs = StaysHeld own.held mine.held

-- An instance was synchronised over a link with the peer of a wire: it was own, and is mine, and
-- the wire was before, and is left.
pub record HasSynchronised (direction : Direction) (link : Inst) (own mine : Standing)
    (before left : WireState) (reply : SyncReply) : Type 0 where
  -- where both report what they hold, the reply and what the one holds that takes are the stated
  -- function of that, as far as nothing stopped it
  pub did : WhereReported own.held mine.held (λ held now. Meet before.peer left.peer
      (λ peer theirs. WhereReported peer.held theirs.held (λ there after.
      Does SyncReply spelled stop_in (telling_on direction)
      (synced_on direction (host_of own) link (host_of peer) (seen_in held) (seen_in there))
      (taker direction held there) reply (taker direction now after))))
  -- what was asked and answered are the stated requests and their replies, from the first on, and
  -- all of them where it is done; what is held then, and counted, is what these replies bring
  pub course : GrowsBy before.trail left.trail (IsTrailOver direction
      (link_of own.admin.links link) own mine.held (told_of before.peer) (told_of left.peer)
      reply)
  pub kept : Stays direction own mine before.peer left.peer
  -- a fault is told only where it was
  pub cause : HasCause own.faults mine.faults (stop_in reply ≡ Some (stops.Keeper Here))
  pub wire : HasCause before.faults left.faults (stop_in reply ≡ Some stops.Carry)
  pub peer : Meet before.peer left.peer (λ old new. IsSameHost old new
      × HasCause old.faults new.faults (stop_in reply ≡ Some (stops.Keeper There)))
  pub same : IsSameHost own mine
