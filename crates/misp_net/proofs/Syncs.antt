-- What a synchronisation is among all keepers.
use Rattle.std.proofs.Common.{◌≡◌, ◌≢◌, ℕ, ◌<◌, true, false, eqb, List, [], length, get_or, map, set, slice_set, Option, Some, None, refl, sym, ◌∙◌, ap, subst, inl, inr, arith, unwrap_or}
use Rattle.std.proofs.lemmas.Bool.{cases_Bool}
use Rattle.std.proofs.lemmas.Bool.Decides.{eqb_tells}
use Rattle.std.proofs.lemmas.List.{set-get_or}
use Rattle.misp_ids.specs.declared.label.Direction.{Direction}
use Rattle.misp_orgs.specs.declared.link.Link.{Link}
use Rattle.misp_outside.specs.Causes.{HasCause}
use Rattle.misp_outside.specs.KeeperState.{state}
use Rattle.misp_outside.specs.Reporting.{StaysHeld, WhereReported}
use Rattle.misp_outside.proofs.Reporting.{reported_so}
use Rattle.misp_effects.specs.declared.stop.Side.TheVariants.{Here, There}
use Rattle.misp_effects.specs.Batches.{Spelling}
use Rattle.misp_effects.specs.Course.{IsAct}
use Rattle.misp_effects.specs.Effect.{Does, Telling, shown}
use Rattle.misp_effects.specs.KeeperStates.{Lends}
use Rattle.misp_effects.proofs.Acting.{here_act, there_act}
use Rattle.misp_effects.proofs.Showing.{does_shown}
use Rattle.misp_effects.proofs.Told.{told_same}
use Rattle.misp_core.specs.Prelude.{AreReadable, Held, put_batches}
use Rattle.misp_protocol.specs.Counts.{no_count}
use Rattle.misp_protocol.specs.declared.cause.Cause.{Cause}
use Rattle.misp_sync.specs.Causes.{bar_of}
use Rattle.misp_sync.specs.Directions.{giver, synced_on, taker, telling_on}
use Rattle.misp_sync.specs.declared.reply.SyncReply.{SyncReply}
use Rattle.misp_sync.specs.declared.reply.SyncReply.TheVariants as replies
use Rattle.misp_net.specs.Prelude.{Effect, Host, KeeperState, Output, Seen, Stop, SyncData, Synced, Went, held_at, host_at, nothing_held, seen_in, spelled, stop_in}
use Rattle.misp_net.specs.Acts.{Syncs, act}
use Rattle.misp_net.specs.Links.{link_at, place_of_peer, synced_at, unsynced}
use Rattle.misp_net.specs.Meaning.{sync_telling}
use Rattle.misp_net.proofs.Directions.{bar_comes, telling_shown}
use Rattle.misp_effects.specs.Effect as effects
use Rattle.misp_net.specs.Running as lines
use Rattle.misp_sync.specs.Pulled as pulls

-- ---- two instances, of which one takes

module _ {S A : Type 0} (seen_in : Held → S) (spelled : Spelling) (stop_in : A → Option Stop) (telling : Telling A)
    (at peer : ℕ) (comes : S → S → Effect A) (old : List KeeperState) (here there none : KeeperState) (output : A)
    (lt : at < length old) (peer_lt : peer < length old) (apart : at ≢ peer)
    (cause : HasCause (get_or old at none).faults here.faults (stop_in output ≡ Some (Stop.Keeper Here)))
    (peer_cause : HasCause (get_or old peer none).faults there.faults (stop_in output ≡ Some (Stop.Keeper There))) where
  -- what the one did that takes, where what the other holds stays, is an act among all
  two_act : (direction : Direction)
      → WhereReported (get_or old at none).held here.held (λ own mine. WhereReported (get_or old peer none).held there.held (λ from left.
      Does A spelled stop_in telling (comes (seen_in own) (seen_in from)) (taker direction own from) output (taker direction mine left)))
      → StaysHeld (giver direction (get_or old at none) (get_or old peer none)).held (giver direction here there).held
      → IsAct S A seen_in spelled stop_in (record { at = at; peer = peer; into = taker direction at peer; comes = comes; telling = telling }) old (set (set old at here) peer there) output
  two_act Direction.Pull did stays = here_act seen_in spelled stop_in telling at peer comes old here there none output lt peer_lt apart cause peer_cause did stays
  two_act Direction.Push did stays = there_act seen_in spelled stop_in telling at peer comes old here there none output lt peer_lt apart cause peer_cause did stays

-- ---- synchronisations among all keepers

-- with another peer it is that with this
pub synced_there : (hosts : List Host) (line : SyncData) (own there : Seen) → eqb (place_of_peer hosts line.at line.link) line.at ≡ false
    → synced_at hosts line own there ≡ synced_on line.direction (host_at line.at hosts) line.link (host_at (place_of_peer hosts line.at line.link) hosts) own there
synced_there hosts line own there other = rw other refl

-- and without one it is refused
pub synced_alone : (hosts : List Host) (line : SyncData) (own there : Seen) → eqb (place_of_peer hosts line.at line.link) line.at ≡ true
    → synced_at hosts line own there ≡ unsynced (link_at hosts line.at line.link)
synced_alone hosts line own there same = rw same refl

module _ (hosts : List Host) (time word : ℕ) (line : SyncData) (old : List KeeperState) (here there none : KeeperState) (reply : SyncReply)
    (lt : line.at < length old) (peer_lt : place_of_peer hosts line.at line.link < length old) (other : eqb (place_of_peer hosts line.at line.link) line.at ≡ false) where
  abbrev peer : ℕ
  peer = place_of_peer hosts line.at line.link

  -- what was held here and is, and what was held there and is
  abbrev SyncedSo : Held → Held → Held → Held → Type 0
  SyncedSo own mine from left = Does SyncReply spelled pulls.stop_in (telling_on line.direction)
      (synced_on line.direction (host_at line.at hosts) line.link (host_at peer hosts) (seen_in own) (seen_in from)) (taker line.direction own from) reply (taker line.direction mine left)

  -- the same as it is put out
  abbrev PutOutSo : Held → Held → Held → Held → Type 0
  PutOutSo own mine from left = Does Output spelled stop_in (sync_telling line.direction) (shown Synced (synced_at hosts line (seen_in own) (seen_in from)))
      (taker line.direction own from) (Synced reply) (taker line.direction mine left)

  apart : line.at ≢ peer
  apart same = elim (eqb_tells peer line.at) [
    | inl is ↦ let no_ : true ≡ false = sym is.0 ∙ other in cc
    | inr is ↦ is.1 (sym same)
  ]

  put_out : (own mine from left : Held) → SyncedSo own mine from left → PutOutSo own mine from left
  put_out own mine from left did =
      subst (λ (e : Effect SyncReply). Does Output spelled stop_in (sync_telling line.direction) (shown Synced e) (taker line.direction own from) (Synced reply) (taker line.direction mine left))
      (sym (synced_there hosts line (seen_in own) (seen_in from) other))
      (does_shown spelled Synced pulls.stop_in stop_in (telling_on line.direction) (sync_telling line.direction) (λ a. refl) (telling_shown line.direction)
      (synced_on line.direction (host_at line.at hosts) line.link (host_at peer hosts) (seen_in own) (seen_in from)) (taker line.direction own from) reply (taker line.direction mine left) did)

  -- What it did between two instances is an act among all: with the one that takes what it comes to, and what the other holds stays.
  pub two_synced : WhereReported (get_or old line.at none).held here.held (λ own mine. WhereReported (get_or old peer none).held there.held (λ from left. SyncedSo own mine from left))
      → StaysHeld (giver line.direction (get_or old line.at none) (get_or old peer none)).held (giver line.direction here there).held
      → HasCause (get_or old line.at none).faults here.faults (pulls.stop_in reply ≡ Some (Stop.Keeper Here))
      → HasCause (get_or old peer none).faults there.faults (pulls.stop_in reply ≡ Some (Stop.Keeper There))
      → lines.IsAct hosts (act time word (Syncs line)) old (set (set old line.at here) peer there) (Synced reply)
  two_synced did stays cause peer_cause =
      two_act seen_in spelled stop_in (sync_telling line.direction) line.at peer (λ own from. shown Synced (synced_at hosts line own from)) old here there none (Synced reply)
      lt peer_lt apart cause peer_cause line.direction
      (reported_so (get_or old line.at none).held here.held
      (λ own mine. WhereReported (get_or old peer none).held there.held (SyncedSo own mine)) (λ own mine. WhereReported (get_or old peer none).held there.held (PutOutSo own mine))
      (λ own mine. reported_so (get_or old peer none).held there.held (SyncedSo own mine) (PutOutSo own mine) (put_out own mine)) did)
      stays

-- the same of two keepers that were lent
pub lent_synced : (hosts : List Host) (time word : ℕ) (line : SyncData) (old new : List KeeperState) (reply : SyncReply) → line.at < length old → place_of_peer hosts line.at line.link < length old
    → eqb (place_of_peer hosts line.at line.link) line.at ≡ false
    → Lends line.at (place_of_peer hosts line.at line.link) old new (lines.IsSynced hosts line reply)
    → lines.IsAct hosts (act time word (Syncs line)) old new (Synced reply)
lent_synced hosts time word line old new reply lt peer_lt other lends =
    let is = lends.met in
    subst (λ news. lines.IsAct hosts (act time word (Syncs line)) old news (Synced reply)) (sym lends.new_is)
    (two_synced hosts time word line old lends.here lends.there (state None 0) reply lt peer_lt other is.did is.kept is.cause is.peer_cause)

-- ---- those that are barred

-- what a link bars is put out, and no batch
barred_there : (hosts : List Host) (line : SyncData) (own there : Seen) (why : Cause) → bar_of (link_at hosts line.at line.link) ≡ Some why
    → synced_at hosts line own there ≡ effects.effect (replies.Stopped no_count why) []
barred_there hosts line own there why bar = elim (cases_Bool (eqb (place_of_peer hosts line.at line.link) line.at)) [
  | inl alone ↦ synced_alone hosts line own there alone ∙ ap (λ b. effects.effect (replies.Stopped no_count (unwrap_or b Cause.NoPeer)) []) bar
  | inr other ↦
      synced_there hosts line own there other
      ∙ bar_comes line.direction (host_at line.at hosts) line.link (host_at (place_of_peer hosts line.at line.link) hosts) own there (link_at hosts line.at line.link) why refl bar
]

-- such a refusal tells no stop
bar_told : (link : Option Link) (why : Cause) → bar_of link ≡ Some why → pulls.stop_in (replies.Stopped no_count why) ≡ None
bar_told None why bar = let same : Cause.NoLink ≡ why = cc in subst (λ r. pulls.stop_in (replies.Stopped no_count r) ≡ None) same refl
bar_told (Some link) why bar = elim (cases_Bool link.on) [
  | inl on ↦ absurd (let no_ : None ≡ Some why = rw on at bar in cc)
  | inr off ↦
      let off_bar : Some Cause.LinkOff ≡ Some why = rw off at bar in
      let same : Cause.LinkOff ≡ why = cc in subst (λ r. pulls.stop_in (replies.Stopped no_count r) ≡ None) same refl
]

module _ (hosts : List Host) (time word : ℕ) (line : SyncData) (old : List KeeperState) where
  -- what puts nothing, whatever is held, leaves all keepers as they were
  nothing_synced : (reply : SyncReply) → pulls.stop_in reply ≡ None
      → ((own there : Seen) → synced_at hosts line own there ≡ effects.effect reply [])
      → lines.IsAct hosts (act time word (Syncs line)) old old (Synced reply)
  nothing_synced reply none is = record {
    places = refl;
    causes = λ place. rw none (omega arith);
    done = told_same old _ (λ tables.
        let into : ℕ = taker line.direction line.at (place_of_peer hosts line.at line.link) in
        let whole = is (seen_in (held_at line.at tables)) (seen_in (held_at (place_of_peer hosts line.at line.link) tables)) in
        record {
          outcome = Went;
          agree = sym none;
          output_is = ap (λ (e : Effect SyncReply). Synced e.reply) (sym whole);
          tables_are =
              sym (set-get_or tables into nothing_held)
              ∙ ap (λ (e : Effect SyncReply). slice_set tables into (put_batches (map spelled e.batches) (held_at into tables))) (sym whole);
          fits = subst (λ (e : Effect SyncReply). AreReadable e.batches) (sym whole) tt;
        });
  }

  -- a link that is not there, or is off
  pub barred_act : (why : Cause) → bar_of (link_at hosts line.at line.link) ≡ Some why
      → lines.IsAct hosts (act time word (Syncs line)) old old (Synced (replies.Stopped no_count why))
  barred_act why bar =
      nothing_synced (replies.Stopped no_count why) (bar_told (link_at hosts line.at line.link) why bar)
      (λ own there. barred_there hosts line own there why bar)

  -- a link whose peer is no other instance
  pub alone_act : eqb (place_of_peer hosts line.at line.link) line.at ≡ true → bar_of (link_at hosts line.at line.link) ≡ None
      → lines.IsAct hosts (act time word (Syncs line)) old old (Synced (replies.Stopped no_count Cause.NoPeer))
  alone_act alone bar =
      nothing_synced (replies.Stopped no_count Cause.NoPeer) refl
      (λ own there. synced_alone hosts line own there alone ∙ ap (λ b. effects.effect (replies.Stopped no_count (unwrap_or b Cause.NoPeer)) []) bar)
