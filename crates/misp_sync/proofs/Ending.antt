-- What a synchronisation is told of faults, where it ended by the cause of one party.
use Rattle.std.proofs.Common.{◌≡◌, ℕ, ◌==◌, ◌&&◌, Bool, true, false, eqb-true, List, Option, None, Some, refl, sym, ap, subst, inl, inr, ◌∙◌, ◌⊎◌, if◌then◌else◌}
use Rattle.misp_ids.specs.declared.label.Direction.{Direction}
use Rattle.misp_orgs.specs.declared.link.Link.{Link}
use Rattle.misp_lists.proofs.Lists.{some_same}
use Rattle.misp_lists.proofs.Prelude.{and_parts}
use Rattle.misp_outside.specs.Causes.{HasCause}
use Rattle.misp_effects.specs.declared.stop.Side.TheVariants.{Here, There}
use Rattle.misp_effects.specs.declared.stop.Stop.{Stop}
use Rattle.misp_core.specs.Prelude.{Host, Standing, host_of}
use Rattle.misp_dialogue.specs.Conversed.{after}
use Rattle.misp_dialogue.specs.Dialogue.{Over, Ask}
use Rattle.misp_dialogue.specs.Shares.{ByReplies, EndsOnlyBy, IsFailedBy, IsStoppedBy, failure}
use Rattle.misp_dialogue.specs.declared.ending.Ending.{Ending}
use Rattle.misp_dialogue.proofs.Faults.{by_sink, by_source}
use Rattle.misp_protocol.proofs.Asking.{ends_garbled}
use Rattle.misp_protocol.specs.Asked.{IsGarbled}
use Rattle.misp_protocol.specs.Counts.{no_tally}
use Rattle.misp_protocol.specs.Text.{Text, synchronising}
use Rattle.misp_protocol.specs.declared.cause.Body.{Body}
use Rattle.misp_protocol.specs.declared.cause.Cause.{Cause}
use Rattle.misp_protocol.specs.declared.count.Tally.{Tally}
use Rattle.misp_sync.specs.Causes.{peer_stop, stop_by, stop_cause}
use Rattle.misp_sync.specs.Directions.{own_side, peer_side}
use Rattle.misp_sync.specs.OwnAnswers.{IsOwnStop, own_conduct, own_state}
use Rattle.misp_sync.specs.Pulled.{stop_in}
use Rattle.misp_sync.specs.Synchronised.{HasConversed, reply_of_ending}
use Rattle.misp_sync.specs.Wire.{IsSameHost, Meet, WireState, peer_of}
use Rattle.misp_sync.specs.WireAnswers.{IsWireCause, faults_of, party_state, wire_conduct}
use Rattle.misp_sync.proofs.Peers.{by_peers}

-- ---- the dialogue, by its source and its sink

module _ (link : Link) (own mine : Standing) (before left : WireState) (ending : Ending Tally Cause) where
  pub of_pull : HasConversed Direction.Pull link own mine before left ending
      → ByReplies Cause.NoMemory (wire_conduct (peer_of before.peer) link.key) (own_conduct (host_of own, link)) (synchronising Direction.Pull no_tally)
      (party_state before, own_state own) (party_state left, own_state mine) ending
  of_pull h = record { replies = h.answers; last = h.last; source = h.peer_share; sink = h.own_share; ends = h.ends }

  pub of_push : HasConversed Direction.Push link own mine before left ending
      → ByReplies Cause.NoMemory (own_conduct (host_of own, link)) (wire_conduct (peer_of before.peer) link.key) (synchronising Direction.Push no_tally)
      (own_state own, party_state before) (own_state mine, party_state left) ending
  of_push h = record { replies = h.answers; last = h.last; source = h.own_share; sink = h.peer_share; ends = h.ends }

-- and so it was held, in the one order or in the other
module _ (d : Direction) (link : Link) (own mine : Standing) (before left : WireState) (ending : Ending Tally Cause) (text : Text) (text_is : text ≡ synchronising d no_tally)
    (same : host_of mine ≡ host_of own) (same_peer : peer_of left.peer ≡ peer_of before.peer) where
  pub by_pull : d ≡ Direction.Pull
      → ByReplies Cause.NoMemory (wire_conduct (peer_of before.peer) link.key) (own_conduct (host_of own, link)) text (party_state before, own_state own) (party_state left, own_state mine) ending
      → HasConversed d link own mine before left ending
  by_pull is by =
      let text_so : text ≡ synchronising Direction.Pull no_tally = text_is ∙ ap (λ d. synchronising d no_tally) is in
      let h = subst
      (λ t. ByReplies Cause.NoMemory (wire_conduct (peer_of before.peer) link.key) (own_conduct (host_of own, link)) t (party_state before, own_state own) (party_state left, own_state mine) ending) text_so by in
      subst (λ d. HasConversed d link own mine before left ending) (sym is) (record {
        answers = h.replies;
        last = h.last;
        own_share = h.sink;
        peer_share = h.source;
        ends = h.ends;
        same = same;
        same_peer = same_peer;
      })

  pub by_push : d ≡ Direction.Push
      → ByReplies Cause.NoMemory (own_conduct (host_of own, link)) (wire_conduct (peer_of before.peer) link.key) text (own_state own, party_state before) (own_state mine, party_state left) ending
      → HasConversed d link own mine before left ending
  by_push is by =
      let text_so : text ≡ synchronising Direction.Push no_tally = text_is ∙ ap (λ d. synchronising d no_tally) is in
      let h = subst
      (λ t. ByReplies Cause.NoMemory (own_conduct (host_of own, link)) (wire_conduct (peer_of before.peer) link.key) t (own_state own, party_state before) (own_state mine, party_state left) ending) text_so by in
      subst (λ d. HasConversed d link own mine before left ending) (sym is) (record {
        answers = h.replies;
        last = h.last;
        own_share = h.source;
        peer_share = h.sink;
        ends = h.ends;
        same = same;
        same_peer = same_peer;
      })

-- ---- which cause tells a stop

refused_so : (status rule n m : ℕ) → (status == n && rule == m) ≡ true → Cause.Refused status rule ≡ Cause.Refused n m
refused_so status rule n m both =
    let h = and_parts (status == n) (rule == m) both in
    λ i. Cause.Refused (eqb-true status n h.0 i) (eqb-true rule m h.1 i)

refused_is : (status rule : ℕ) (stop : Stop) → peer_stop status rule ≡ Some stop → Cause.Refused status rule ≡ stop_cause stop
refused_is status rule stop = one (status == 503 && rule == 26) (status == 507 && rule == 27) refl refl
  where
    one : (a b : Bool) → (status == 503 && rule == 26) ≡ a → (status == 507 && rule == 27) ≡ b
        → (if a then Some (Stop.Keeper There) else if b then Some (Stop.Memory There) else None) ≡ Some stop → Cause.Refused status rule ≡ stop_cause stop
    one true b keeper memory is = refused_so status rule 503 26 keeper ∙ ap stop_cause (some_same (Stop.Keeper There) stop is)
    one false true keeper memory is = refused_so status rule 507 27 memory ∙ ap stop_cause (some_same (Stop.Memory There) stop is)
    one false false keeper memory is = absurd cc

cause_of : (cause : Cause) (stop : Stop) → stop_by cause ≡ Some stop → cause ≡ stop_cause stop
cause_of Cause.NoLink stop is = absurd cc
cause_of Cause.LinkOff stop is = absurd cc
cause_of Cause.NoPeer stop is = absurd cc
cause_of (Cause.Refused status rule) stop is = refused_is status rule stop is
cause_of (Cause.Garbled kind) stop is = absurd cc
cause_of Cause.Link stop is = ap stop_cause (some_same Stop.Carry stop is)
cause_of Cause.Keeper stop is = ap stop_cause (some_same (Stop.Keeper Here) stop is)
cause_of Cause.NoMemory stop is = ap stop_cause (some_same (Stop.Memory Here) stop is)
cause_of (Cause.BadRow name) stop is = absurd cc

told_by : (stop : Stop) (ending : Ending Tally Cause) → stop_in (reply_of_ending ending) ≡ Some stop → IsStoppedBy (λ c. c ≡ stop_cause stop) ending
told_by stop (Ending.Done n) is = absurd cc
told_by stop (Ending.Stopped n c) is = cause_of c stop is

-- ---- whose cause it is

only_by : (P Q : Cause → Type 0) → ((c : Cause) → P c → Q c) → (d : Text) → EndsOnlyBy P d → EndsOnlyBy Q d
only_by P Q f (Over n None) is = tt
only_by P Q f (Over n (Some cause)) is = f cause is
only_by P Q f (Ask n side q more) is = λ answer. only_by P Q f (more answer) (is answer)

-- a cause by which no text ends itself, and which does not say that memory ran out
pub record IsOfParty (cause : Cause) : Type 0 where
  pub ungarbled : IsGarbled cause → ⊥
  pub memory : Cause.NoMemory ≡ cause → ⊥

only : (cause : Cause) → IsOfParty cause → (d : Direction) → EndsOnlyBy (λ c. c ≡ cause → ⊥) (synchronising d no_tally)
only cause own d = only_by IsGarbled (λ c. c ≡ cause → ⊥) (λ c garbled is. own.ungarbled (subst IsGarbled is garbled)) (synchronising d no_tally) (ends_garbled d no_tally)

module _ (cause : Cause) (of_party : IsOfParty cause) (link : Link) (own mine : Standing) (before left : WireState) (ending : Ending Tally Cause) where
  -- no cause of the wire
  pub own_failed : (IsWireCause cause → ⊥) → (d : Direction) (h : HasConversed d link own mine before left ending) → IsStoppedBy (λ c. c ≡ cause) ending
      → IsFailedBy (λ c. c ≡ cause) (failure (own_side d) (after (synchronising d no_tally) h.answers) h.last)
  unfolding of_pull of_push
  own_failed apart Direction.Pull h told =
      by_sink Cause.NoMemory (wire_conduct (peer_of before.peer) link.key) (own_conduct (host_of own, link)) (λ c. c ≡ cause) of_party.memory (synchronising Direction.Pull no_tally)
      (only cause of_party Direction.Pull) (party_state before, own_state own) (party_state left, own_state mine) ending (of_pull link own mine before left ending h)
      (λ c may is. apart (subst IsWireCause is may)) told
  own_failed apart Direction.Push h told =
      by_source Cause.NoMemory (own_conduct (host_of own, link)) (wire_conduct (peer_of before.peer) link.key) (λ c. c ≡ cause) of_party.memory (synchronising Direction.Push no_tally)
      (only cause of_party Direction.Push) (own_state own, party_state before) (own_state mine, party_state left) ending (of_push link own mine before left ending h)
      (λ c may is. apart (subst IsWireCause is may)) told

  abbrev IsOwnCause : Cause → Type 0
  IsOwnCause c = IsOwnStop c ⊎ (c ≡ Cause.Garbled Body.Body) ⊎ ((name : List ℕ) × (c ≡ Cause.BadRow name))

  -- no cause of the own instance
  pub peer_failed : (IsOwnCause cause → ⊥) → (d : Direction) (h : HasConversed d link own mine before left ending) → IsStoppedBy (λ c. c ≡ cause) ending
      → IsFailedBy (λ c. c ≡ cause) (failure (peer_side d) (after (synchronising d no_tally) h.answers) h.last)
  unfolding of_pull of_push
  peer_failed apart Direction.Pull h told =
      by_source Cause.NoMemory (wire_conduct (peer_of before.peer) link.key) (own_conduct (host_of own, link)) (λ c. c ≡ cause) of_party.memory (synchronising Direction.Pull no_tally)
      (only cause of_party Direction.Pull) (party_state before, own_state own) (party_state left, own_state mine) ending (of_pull link own mine before left ending h)
      (λ c may is. apart (subst IsOwnCause is may)) told
  peer_failed apart Direction.Push h told =
      by_sink Cause.NoMemory (own_conduct (host_of own, link)) (wire_conduct (peer_of before.peer) link.key) (λ c. c ≡ cause) of_party.memory (synchronising Direction.Push no_tally)
      (only cause of_party Direction.Push) (own_state own, party_state before) (own_state mine, party_state left) ending (of_push link own mine before left ending h)
      (λ c may is. apart (subst IsOwnCause is may)) told

-- ---- faults

has_cause : (old now : ℕ) (F G : Type 0) → (G → F) → HasCause old now F → HasCause old now G
has_cause old now F G f c = record { later = c.later; rose = λ g. c.rose (f g) }

own_keeper : IsOfParty Cause.Keeper
own_keeper = record { ungarbled = λ is. is; memory = λ is. subst IsWireCause is tt }

of_link : IsOfParty Cause.Link
of_link = record { ungarbled = λ is. is; memory = λ is. absurd cc }

of_peer : IsOfParty (Cause.Refused 503 26)
of_peer = record { ungarbled = λ is. is; memory = λ is. absurd cc }

pub same_host : (old new : Standing) → host_of new ≡ host_of old → IsSameHost old new
same_host old new is = record { name = ap (λ (h : Host). h.name) is; admin = ap (λ (h : Host). h.admin) is }

-- of a peer that is the same, where it is of this process
met : (old new : Option Standing) (told : Type 0) (Fails : Option Host → Type 0) → ((host : Host) → told → Fails (Some host)) → peer_of new ≡ peer_of old
    → HasCause (faults_of old) (faults_of new) (Fails (peer_of old)) → Meet old new (λ a b. IsSameHost a b × HasCause a.faults b.faults told)
met old new told Fails f same =
    by_peers (λ old new. HasCause (faults_of old) (faults_of new) (Fails (peer_of old)) → Meet old new (λ a b. IsSameHost a b × HasCause a.faults b.faults told)) old new same (λ c. tt)
    (λ a b host c. (same_host a b host, has_cause a.faults b.faults (Fails (Some (host_of a))) told (f (host_of a)) c))

module _ (d : Direction) (link : Link) (own mine : Standing) (before left : WireState) (ending : Ending Tally Cause) (h : HasConversed d link own mine before left ending) where
  abbrev Told : Stop → Type 0
  Told stop = stop_in (reply_of_ending ending) ≡ Some stop

  pub cause_told : HasCause own.faults mine.faults (Told (Stop.Keeper Here))
  cause_told =
      has_cause own.faults mine.faults _ (Told (Stop.Keeper Here))
      (λ told. own_failed Cause.Keeper own_keeper link own mine before left ending (λ is. is) d h (told_by (Stop.Keeper Here) ending told)) h.own_share.cause

  pub link_told : HasCause before.faults left.faults (Told Stop.Carry)
  link_told =
      has_cause before.faults left.faults _ (Told Stop.Carry)
      (λ told. peer_failed Cause.Link of_link link own mine before left ending no_link d h (told_by Stop.Carry ending told)) h.peer_share.cause
    where
      no_link : IsOwnStop Cause.Link ⊎ (Cause.Link ≡ Cause.Garbled Body.Body) ⊎ ((name : List ℕ) × (Cause.Link ≡ Cause.BadRow name)) → ⊥
      no_link (inl (inl is)) = absurd cc
      no_link (inl (inr is)) = absurd cc
      no_link (inr (inl is)) = absurd cc
      no_link (inr (inr (name, is))) = absurd cc

  pub peer_told : Meet before.peer left.peer (λ old new. IsSameHost old new × HasCause old.faults new.faults (Told (Stop.Keeper There)))
  peer_told =
      met before.peer left.peer (Told (Stop.Keeper There))
      (λ host. IsFailedBy (wire_conduct host link.key).IsPeerFault (failure (peer_side d) (after (synchronising d no_tally) h.answers) h.last))
      (λ host told. peer_failed (Cause.Refused 503 26) of_peer link own mine before left ending no_peer d h (told_by (Stop.Keeper There) ending told))
      h.same_peer h.peer_share.peer
    where
      no_peer : IsOwnStop (Cause.Refused 503 26) ⊎ (Cause.Refused 503 26 ≡ Cause.Garbled Body.Body) ⊎ ((name : List ℕ) × (Cause.Refused 503 26 ≡ Cause.BadRow name)) → ⊥
      no_peer (inl (inl is)) = absurd cc
      no_peer (inl (inr is)) = absurd cc
      no_peer (inr (inl is)) = absurd cc
      no_peer (inr (inr (name, is))) = absurd cc
