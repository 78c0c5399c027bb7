-- What passed for lines, one after another.
use Rattle.std.proofs.Common.{◌≡◌, ℕ, List, [], ◌∷◌, ◌++◌, Bool, true, false, eqb, length, Option, Some, None, Err, inl, inr, refl, sym, ◌∙◌, ap, subst}
use Rattle.std.proofs.lemmas.Bool.{cases_Bool}
use Rattle.misp_ids.specs.declared.label.Direction.{Direction}
use Rattle.misp_orgs.specs.declared.link.Link.{Link}
use Rattle.misp_script.specs.Directory.{Roster, place_of, roster_names}
use Rattle.misp_outside.specs.Reporting.{StaysHeld, WhereReported}
use Rattle.misp_outside.proofs.Reporting.{reported_later}
use Rattle.misp_effects.specs.KeeperStates.{state_at}
use Rattle.misp_effects.proofs.Courses.{run_kept}
use Rattle.misp_effects.proofs.KeeperStates.{all_kept, kept_at, kept_then}
use Rattle.misp_core.specs.Prelude.{Held, Standing, host_of}
use Rattle.misp_dialogue.specs.Conversed.{after}
use Rattle.misp_dialogue.specs.Parties.{GrowsBy}
use Rattle.misp_dialogue.specs.Shares.{Keeps, failure, share}
use Rattle.misp_protocol.specs.Counts.{no_tally}
use Rattle.misp_protocol.specs.Text.{synchronising}
use Rattle.misp_protocol.specs.declared.cause.Cause.{Cause}
use Rattle.misp_sync.specs.Causes.{bar_of}
use Rattle.misp_sync.specs.Directions.{own_side}
use Rattle.misp_sync.specs.OwnAnswers.{own_conduct}
use Rattle.misp_sync.specs.Synchronised.{IfOn, IsCourse, IsTrailOver, host_in}
use Rattle.misp_sync.specs.declared.reply.SyncReply.{SyncReply}
use Rattle.misp_sync.proofs.Conversing.{goes_to, reported_as}
use Rattle.misp_net.specs.Acts.{Administers, Asks, Deed, Idle, One, Session, Syncs, acts_done, outputs_done}
use Rattle.misp_net.specs.Asking.{asked_at, asked_over, names_of}
use Rattle.misp_net.specs.Hosts.{host_at}
use Rattle.misp_net.specs.Links.{link_at, peer_place, place_named, place_of_peer}
use Rattle.misp_net.specs.Passing.{IsPassed, IsPassedFor, IsSyncPassed, Passes, Trail, UnlessHere, stands_at, told_at}
use Rattle.misp_net.specs.Prelude.{AreKept, Bad, Done, Host, IsDone, KeeperState, Nothing, Output, SyncData, Replied, Synced, Unanswered, acts_of, outputs_of}
use Rattle.misp_net.specs.Walk.{hosts_done, hosts_left}
use Rattle.misp_net.proofs.Asking.{asked_none, bar_from, place_same}
use Rattle.misp_net.proofs.Courses.{ran_long}
use Rattle.misp_net.proofs.Growing.{grows_as}
use Rattle.misp_net.proofs.Walks.{left_append, length_done}

-- ---- a synchronisation with nobody

unless_none : (here : Bool) (P : Trail → Type 0) → P [] → UnlessHere here P []
unless_none true P holds = refl
unless_none false P holds = holds

unless_as : (here : Bool) (P Q : Trail → Type 0) → ((more : Trail) → P more → Q more) → (trail : Trail) → UnlessHere here P trail → UnlessHere here Q trail
unless_as true P Q follows trail is = is
unless_as false P Q follows trail is = follows trail is

-- a link that is not there, or is off, has no trail
none_over : (direction : Direction) (link : Option Link) (why : Cause) (here : Standing) (new : Option Held) (peer left : Option (Host × Held)) (reply : SyncReply) → bar_of link ≡ Some why
    → IsTrailOver direction link here new peer left reply []
none_over direction None why here new peer left reply bar = refl
none_over direction (Some link) why here new peer left reply bar = elim (cases_Bool link.on) [
  | inl on ↦ absurd (let no_ : None ≡ Some why = rw on at bar in cc)
  | inr off ↦ subst (λ on. IfOn on (IsCourse direction link here new peer left reply) []) (sym off) refl
]

module _ (hosts : List Host) (old new : List KeeperState) (line : SyncData) (reply : SyncReply) where
  -- nothing passes over a link that bars it
  barred_passed : (why : Cause) → bar_of (link_at hosts line.at line.link) ≡ Some why → IsSyncPassed hosts old new line reply []
  barred_passed why bar =
      unless_none (eqb (place_of_peer hosts line.at line.link) line.at) _
      (none_over line.direction (link_at hosts line.at line.link) why (stands_at hosts old line.at) (state_at line.at new).held
      (told_at hosts old (place_of_peer hosts line.at line.link)) (told_at hosts new (place_of_peer hosts line.at line.link)) reply bar)

  -- and nothing where its peer is no other instance
  alone_passed : eqb (place_of_peer hosts line.at line.link) line.at ≡ true → IsSyncPassed hosts old new line reply []
  alone_passed alone = rw alone refl

-- nothing passes for it
pub refused_passed : (rosters : List Roster) (hosts : List Host) (old new : List KeeperState) (line : SyncData) (reply : SyncReply) (why : Cause) → roster_names rosters ≡ names_of hosts
    → (link : Option Link) → link_at hosts line.at line.link ≡ link → asked_over rosters line.at link ≡ Err why → IsSyncPassed hosts old new line reply []
refused_passed rosters hosts old new line reply why same None is asked = barred_passed hosts old new line reply Cause.NoLink (rw is refl)
refused_passed rosters hosts old new line reply why same (Some link) is asked =
    elim (bar_from link.on (asked_at line.at (place_of (roster_names rosters) link.peer)) why asked) [
      | inl open_ ↦
          let alone = asked_none hosts line.at link why (place_named hosts link.peer) refl (ap (asked_at line.at) (sym (place_same rosters hosts link.peer same)) ∙ open_.1) in
          alone_passed hosts old new line reply (ap (λ (l : Option Link). eqb (peer_place hosts line.at l) line.at) is ∙ alone.1)
      | inr off ↦ barred_passed hosts old new line reply Cause.LinkOff (rw (is, off.0) refl)
    ]

-- ---- over keepers of which what they hold stays

-- of the two parties a course says only by what they held, and by the name and the administration of the one here
module _ (direction : Direction) (link : Link) (one two : Standing) (stays : StaysHeld two.held one.held) (host : host_of two ≡ host_of one) (new : Option Held)
    (peer before left : Option (Host × Held)) (same : StaysHeld before peer) (reply : SyncReply) where
  course_held : (trail : Trail) → IsCourse direction link one new peer left reply trail → IsCourse direction link two new before left reply trail
  course_held trail is =
      let Kept : Host → Held → Held → Type 0 = λ h. Keeps (own_conduct (h, link)) (share (own_side direction) (synchronising direction no_tally) is.answers)
      (failure (own_side direction) (after (synchronising direction no_tally) is.answers) is.last) in
      record {
        answers = is.answers;
        last = is.last;
        ending = is.ending;
        own = subst (λ (h : Host). WhereReported two.held new (Kept h)) (sym host) (reported_later two.held one.held new (Kept (host_of one)) stays is.own);
        there = reported_later before peer left _ same is.there;
        went = goes_to (host_in peer) (host_in before) link.key _ _ trail is.went;
        ends = is.ends;
        reply_is = is.reply_is;
      }

  if_on : (on : Bool) (trail : Trail) → IfOn on (IsCourse direction link one new peer left reply) trail → IfOn on (IsCourse direction link two new before left reply) trail
  if_on true trail is = course_held trail is
  if_on false trail is = is

trail_held : (direction : Direction) (link : Option Link) (one two : Standing) → StaysHeld two.held one.held → host_of two ≡ host_of one → (new : Option Held)
    (peer before left : Option (Host × Held)) → StaysHeld before peer → (reply : SyncReply) (trail : Trail)
    → IsTrailOver direction link one new peer left reply trail → IsTrailOver direction link two new before left reply trail
trail_held direction None one two stays host new peer before left same reply trail is = is
trail_held direction (Some link) one two stays host new peer before left same reply trail is =
    if_on direction link one two stays host new peer before left same reply link.on trail is

module _ (hosts : List Host) (old mid : List KeeperState) (kept : AreKept old mid) (new : List KeeperState) where
  -- who is told of stays, with what is held
  told_stays : (place : ℕ) → StaysHeld (told_at hosts old place) (told_at hosts mid place)
  told_stays place =
      let with_host : Held → Host × Held = λ held. (host_at place hosts, held) in
      reported_as with_host with_host (state_at place old).held (state_at place mid).held (λ a b. b ≡ a) (λ a b. b ≡ a) (λ a b same. ap with_host same) (kept_at place old mid kept)

  sync_kept : (line : SyncData) (reply : SyncReply) (trail : Trail) → IsSyncPassed hosts mid new line reply trail → IsSyncPassed hosts old new line reply trail
  sync_kept line reply trail is =
      let peer : ℕ = place_of_peer hosts line.at line.link in
      let link : Option Link = link_at hosts line.at line.link in
      let here : Option Held = (state_at line.at new).held in
      let left : Option (Host × Held) = told_at hosts new peer in
      unless_as (eqb peer line.at) (IsTrailOver line.direction link (stands_at hosts mid line.at) here (told_at hosts mid peer) left reply)
      (IsTrailOver line.direction link (stands_at hosts old line.at) here (told_at hosts old peer) left reply)
      (trail_held line.direction link (stands_at hosts mid line.at) (stands_at hosts old line.at) (kept_at line.at old mid kept) refl here
      (told_at hosts mid peer) (told_at hosts old peer) left (told_stays peer) reply)
      trail is

  deed_kept : (deed : Deed) (output : Output) (trail : Trail) → IsPassed hosts mid new deed output trail → IsPassed hosts old new deed output trail
  deed_kept (Idle put) output trail is = is
  deed_kept (Asks at read) output trail is = is
  deed_kept (Administers group) output trail is = is
  deed_kept (Syncs line) (Bad place) trail is = is
  deed_kept (Syncs line) Nothing trail is = is
  deed_kept (Syncs line) (Replied reply) trail is = is
  deed_kept (Syncs line) (Unanswered end) trail is = is
  deed_kept (Syncs line) (Synced reply) trail is = sync_kept line reply trail is

  passed_kept : (d : Done) (trail : Trail) → IsPassedFor hosts mid new d trail → IsPassedFor hosts old new d trail
  passed_kept (One act output) trail is = deed_kept act.deed output trail is
  passed_kept (Session time word at reads replies end) trail is = is

  done_kept : (d : Done) → IsDone hosts d mid new → IsDone hosts d old new
  done_kept d is = record { ran = run_kept kept is.ran (all_kept new); formed = is.formed; among = is.among }

pub passes_kept : (hosts : List Host) (old mid : List KeeperState) → AreKept old mid → (dones : List Done) (new : List KeeperState) (first last : Option Trail)
    → Passes hosts dones mid new first last → Passes hosts dones old new first last
passes_kept hosts old mid kept [] new first last (stay, same) = (kept_then old mid new kept stay, same)
passes_kept hosts old mid kept (d ∷ dones) new first last (left, between, is, grows, rest) = (
  left,
  between,
  done_kept hosts old mid kept left d is,
  grows_as first between (IsPassedFor hosts mid left d) (IsPassedFor hosts old left d) (passed_kept hosts old mid kept left d) grows,
  rest,
)

-- ---- the instances after lines

-- after these lines, one after another
abbrev pub hosts_over : List Host → List Done → List Host
hosts_over hosts [] = hosts
hosts_over hosts (d ∷ dones) = hosts_over (hosts_done hosts d) dones

pub over_push : (hosts : List Host) (dones : List Done) (d : Done) → hosts_over hosts (dones ++ d ∷ []) ≡ hosts_done (hosts_over hosts dones) d
over_push hosts [] d = refl
over_push hosts (e ∷ dones) d = over_push (hosts_done hosts e) dones d

pub over_long : (hosts : List Host) (dones : List Done) → length (hosts_over hosts dones) ≡ length hosts
over_long hosts [] = refl
over_long hosts (d ∷ dones) = over_long (hosts_done hosts d) dones ∙ length_done hosts d

-- they are those after all of their acts
pub over_left : (hosts : List Host) (dones : List Done) (old new : List KeeperState) (first last : Option Trail) → Passes hosts dones old new first last
    → hosts_over hosts dones ≡ hosts_left hosts (acts_of dones) (outputs_of dones)
over_left hosts [] old new first last passes = refl
over_left hosts (d ∷ dones) old new first last (left, between, is, grows, rest) =
    over_left (hosts_done hosts d) dones left new between last rest
    ∙ sym (left_append hosts (acts_done d) (acts_of dones) (outputs_done d) (outputs_of dones) (ran_long hosts (acts_done d) (outputs_done d) old left is.ran))

-- ---- one line more

-- after these it passes for one more
pub passes_more : (hosts : List Host) (dones : List Done) (d : Done) (old mid new : List KeeperState) (first next last : Option Trail) → Passes hosts dones old mid first next
    → IsDone (hosts_over hosts dones) d mid new → GrowsBy next last (IsPassedFor (hosts_over hosts dones) mid new d) → Passes hosts (dones ++ d ∷ []) old new first last
passes_more hosts [] d old mid new first next last (kept, same) is grows =
    passes_kept hosts old mid kept (d ∷ []) new first last (new, last, is, subst (λ told. GrowsBy told last (IsPassedFor hosts mid new d)) same grows, (all_kept new, refl))
passes_more hosts (e ∷ dones) d old mid new first next last (left, between, was, grew, rest) is grows =
    (left, between, was, grew, passes_more (hosts_done hosts e) dones d left mid new between next last rest is grows)

-- what follows does nothing
pub passes_still : (hosts : List Host) (dones : List Done) (old mid new : List KeeperState) (first next last : Option Trail) → Passes hosts dones old mid first next → AreKept mid new → last ≡ next
    → Passes hosts dones old new first last
passes_still hosts [] old mid new first next last (stay, was) kept same = (kept_then old mid new stay kept, same ∙ was)
passes_still hosts (d ∷ dones) old mid new first next last (left, between, is, grows, rest) kept same =
    (left, between, is, grows, passes_still (hosts_done hosts d) dones left mid new between next last rest kept same)
