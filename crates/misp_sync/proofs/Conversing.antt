-- What went on in a synchronisation, by what its dialogue came to.
use Rattle.std.proofs.Common.{◌≡◌, ℕ, List, [], ◌∷◌, Bool, true, false, Option, None, Some, Ok, Err, refl, sym, ap, subst, option_map, if◌then◌else◌}
use Rattle.misp_ids.specs.declared.label.Direction.{Direction}
use Rattle.misp_orgs.specs.declared.link.Link.{Link}
use Rattle.misp_core.specs.Prelude.{Held, Host, Standing, host_of}
use Rattle.misp_dialogue.specs.Conversed.{after}
use Rattle.misp_outside.specs.Reporting.{StaysHeld, WhereReported}
use Rattle.misp_dialogue.specs.Parties.{GrowsBy}
use Rattle.misp_dialogue.specs.Shares.{Exchange, Failure, Goes, Keeps, failure, share}
use Rattle.misp_dialogue.specs.declared.ending.Ending.{Ending}
use Rattle.misp_dialogue.specs.declared.side.Side.{Side}
use Rattle.misp_protocol.proofs.Asking.{asks_each_side}
use Rattle.misp_protocol.specs.Asked.{IsAskedOf}
use Rattle.misp_protocol.specs.Counts.{no_tally}
use Rattle.misp_protocol.specs.Text.{synchronising}
use Rattle.misp_protocol.specs.declared.cause.Cause.{Cause}
use Rattle.misp_protocol.specs.declared.count.Tally.{Tally}
use Rattle.misp_protocol.specs.declared.request.Answer.{Answer}
use Rattle.misp_protocol.specs.declared.request.Request.{Request}
use Rattle.misp_sync.specs.Causes.{usable_link}
use Rattle.misp_sync.specs.Directions.{peer_side}
use Rattle.misp_sync.specs.OwnAnswers.{own_conduct}
use Rattle.misp_sync.specs.Synchronised.{HasConversed, IfOn, IsCourse, IsTrailOver, Stays, host_in, reply_of_ending, told_of}
use Rattle.misp_sync.specs.Wire.{Meet, WireState, held_of, peer_of}
use Rattle.misp_sync.specs.WireAnswers.{wire_conduct}
use Rattle.misp_sync.proofs.Growing.{grows_so}
use Rattle.misp_sync.proofs.Peers.{by_peers}
use Rattle.misp_outside.proofs.Reporting.{reported_so}
use Rattle.misp_sync.proofs.Giver.{all_still, asks_after, failure_asks, own_still, peer_still, share_asks}

-- ---- what stays

module _ (link : Link) (own mine : Standing) (before left : WireState) (ending : Ending Tally Cause) where
  pub kept_by : (d : Direction) → HasConversed d link own mine before left ending → Stays d own mine before.peer left.peer
  kept_by Direction.Pull h =
      let d = synchronising Direction.Pull no_tally in
      let asks = asks_each_side Direction.Pull no_tally in
      let all = share_asks (IsAskedOf Direction.Pull) Side.Source d h.answers asks in
      let last = failure_asks (IsAskedOf Direction.Pull) Side.Source (after d h.answers) h.last (asks_after (IsAskedOf Direction.Pull) d h.answers asks) in
      by_peers (λ old new. StaysHeld (held_of old) (held_of new) → Meet old new (λ a b. StaysHeld a.held b.held)) before.peer left.peer h.same_peer (λ is. is) (λ a b same is. is)
      (reported_so (held_of before.peer) (held_of left.peer) _ _
      (λ a b is. all_still (wire_conduct (peer_of before.peer) link.key) (IsAskedOf Direction.Pull Side.Source) (peer_still (peer_of before.peer) link.key) _ _ a b all last is) h.peer_share.held)
  kept_by Direction.Push h =
      let d = synchronising Direction.Push no_tally in
      let asks = asks_each_side Direction.Push no_tally in
      let all = share_asks (IsAskedOf Direction.Push) Side.Source d h.answers asks in
      let last = failure_asks (IsAskedOf Direction.Push) Side.Source (after d h.answers) h.last (asks_after (IsAskedOf Direction.Push) d h.answers asks) in
      reported_so own.held mine.held _ _
      (λ a b is. all_still (own_conduct (host_of own, link)) (IsAskedOf Direction.Push Side.Source) (own_still (host_of own) link) _ _ a b all last is) h.own_share.held

-- ---- links

-- a usable link is there and on
pub usable_on : (found : Option Link) (link : Link) → usable_link found ≡ Ok link → (found ≡ Some link) × (link.on ≡ true)
usable_on None link is = absurd cc
usable_on (Some it) link is = one it.on refl is
  where
    one : (b : Bool) → it.on ≡ b → (if b then Ok it else Err Cause.LinkOff) ≡ Ok link → (Some it ≡ Some link) × (link.on ≡ true)
    one true on same = let is : it ≡ link = cc in (ap (λ l. Some l) is, subst (λ (l : Link). l.on ≡ true) is on)
    one false on same = absurd cc

-- ---- what went

-- what goes over a wire does not depend on who the peer is
pub goes_to : (a b : Option Host) (key : List ℕ) (xs : List (Exchange Request Answer)) (last : Option (Failure Request Cause)) (trail : List (List ℕ))
    → Goes (wire_conduct a key) xs last trail → Goes (wire_conduct b key) xs last trail
goes_to a b key [] None trail is = is
goes_to a b key [] (Some f) trail is = is
goes_to a b key (x ∷ xs) last trail is = (is.0, is.1, is.2, is.3, goes_to a b key xs last is.1 is.4)

-- what is reported of both, seen so
pub reported_as : {A B : Type 0} (f g : A → B) (old new : Option A) (P : A → A → Type 0) (Q : B → B → Type 0) → ((a b : A) → P a b → Q (f a) (g b))
    → WhereReported old new P → WhereReported (option_map f old) (option_map g new) Q
reported_as f g None None P Q so is = tt
reported_as f g None (Some b) P Q so is = absurd is
reported_as f g (Some a) None P Q so is = tt
reported_as f g (Some a) (Some b) P Q so is = so a b is

there_kept : (peer now : Option Standing) (R : Option Host → Held → Held → Type 0) → peer_of now ≡ peer_of peer → WhereReported (held_of peer) (held_of now) (R (peer_of peer))
    → WhereReported {A = Host × Held} (told_of peer) (told_of now) (λ p q. R (Some p.0) p.1 q.1)
there_kept peer now R same =
    by_peers (λ old new. WhereReported (held_of old) (held_of new) (R (peer_of old)) → WhereReported {A = Host × Held} (told_of old) (told_of new) (λ p q. R (Some p.0) p.1 q.1)) peer now same (λ is. is)
    (λ a b host is. reported_as (λ held. (host_of a, held)) (λ held. (host_of b, held)) a.held b.held (R (Some (host_of a))) _ (λ x y so. so) is)

module _ (d : Direction) (link : Link) (own mine : Standing) (before left : WireState) (ending : Ending Tally Cause) (h : HasConversed d link own mine before left ending) where
  abbrev Went : List (List ℕ) → Type 0
  Went = IsCourse d link own mine.held (told_of before.peer) (told_of left.peer) (reply_of_ending ending)

  went_so : (trail : List (List ℕ)) → Goes (wire_conduct (peer_of before.peer) link.key) (share (peer_side d) (synchronising d no_tally) h.answers)
      (failure (peer_side d) (after (synchronising d no_tally) h.answers) h.last) trail
      → Went trail
  went_so trail goes = record {
    answers = h.answers;
    last = h.last;
    ending = ending;
    own = h.own_share.held;
    there = there_kept before.peer left.peer
        (λ host. Keeps (wire_conduct host link.key) (share (peer_side d) (synchronising d no_tally) h.answers) (failure (peer_side d) (after (synchronising d no_tally) h.answers) h.last))
        h.same_peer h.peer_share.held;
    went = goes_to (peer_of before.peer) (host_in (told_of before.peer)) link.key _ _ trail goes;
    ends = h.ends;
    reply_is = refl;
  }

  pub course_over : (found : Option Link) → usable_link found ≡ Ok link
      → GrowsBy before.trail left.trail (IsTrailOver d found own mine.held (told_of before.peer) (told_of left.peer) (reply_of_ending ending))
  course_over found usable =
      let is = usable_on found link usable in
      grows_so before.trail left.trail _ _
      (λ trail goes. subst (λ found. IsTrailOver d found own mine.held (told_of before.peer) (told_of left.peer) (reply_of_ending ending) trail) (sym is.0)
      (subst (λ on. IfOn on Went trail) (sym is.1) (went_so trail goes))) h.peer_share.trail
