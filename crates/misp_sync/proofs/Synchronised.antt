-- An instance and a wire that were synchronised, by the dialogue that was held.
use Rattle.std.proofs.Common.{◌≡◌, ◌⊎◌, ◌∙◌, ℕ, Bool, true, false, List, [], Option, None, Some, Ok, Err, refl, sym, ap, subst, inl, inr, arith, if◌then◌else◌}
use Rattle.misp_ids.specs.Uid.{IsUid}
use Rattle.misp_ids.specs.declared.label.Direction.{Direction}
use Rattle.misp_orgs.specs.Admin.{link_of, who_of}
use Rattle.misp_orgs.specs.declared.link.Link.{Link}
use Rattle.misp_outside.specs.Causes.{HasCause}
use Rattle.misp_outside.specs.Reporting.{WhereReported}
use Rattle.misp_effects.specs.Effect.{Does, Effect, Went}
use Rattle.misp_effects.specs.declared.stop.Side.TheVariants.{Here, There}
use Rattle.misp_effects.specs.declared.stop.Stop.{Stop}
use Rattle.misp_core.specs.Prelude.{Held, Host, Inst, Seen, Standing, host_of, seen_in, spelled}
use Rattle.misp_dialogue.specs.Parties.{GrowsBy, PartyState}
use Rattle.misp_dialogue.specs.Course.{MayLose, MayStop}
use Rattle.misp_dialogue.specs.Shares.{ByReplies}
use Rattle.misp_dialogue.specs.Taking.{EndsAfter}
use Rattle.misp_dialogue.specs.declared.ending.Ending.{Ending}
use Rattle.misp_dialogue.specs.declared.side.Side.{Side}
use Rattle.misp_dialogue.proofs.Courses.{by_states}
use Rattle.misp_dialogue.proofs.Taking.{took_first}
use Rattle.misp_protocol.specs.Counts.{no_count, no_tally, tally}
use Rattle.misp_protocol.specs.Text.{synchronising}
use Rattle.misp_protocol.specs.declared.cause.Cause.{Cause}
use Rattle.misp_protocol.specs.declared.count.Tally.{Tally}
use Rattle.misp_sync.specs.Causes.{stop_by, usable_link}
use Rattle.misp_sync.specs.Directions.{synced_on, taker, telling_on}
use Rattle.misp_sync.specs.OwnAnswers.{IsOwnStop, batching, own_conduct, own_state}
use Rattle.misp_sync.specs.Pulled.{ends, pulled, pulled_by, pulled_over, stop_in, synced}
use Rattle.misp_sync.specs.Pushed.{pushed, pushed_over, pushed_through}
use Rattle.misp_sync.specs.Synchronised.{HasConversed, HasSynchronised, IsTrailOver, Stays, reply_of_ending, told_of}
use Rattle.misp_sync.specs.Wire.{Meet, WireState, peer_of, wire_state}
use Rattle.misp_sync.specs.WireAnswers.{IsCutShort, IsPeerStop, party_state, wire_conduct}
use Rattle.misp_sync.specs.declared.reply.SyncReply.{SyncReply}
use Rattle.misp_sync.proofs.Conversing.{course_over, kept_by}
use Rattle.misp_sync.proofs.Doing.{Done, TellsLoss, TellsStop, does}
use Rattle.misp_sync.proofs.Ending.{cause_told, link_told, of_pull, of_push, peer_told, same_host}
use Rattle.misp_sync.proofs.EndsWithout.{pulled_tells, pushed_tells}
use Rattle.misp_sync.proofs.PullTakes.{pull_takes}
use Rattle.misp_sync.proofs.Growing.{grows_none}
use Rattle.misp_sync.proofs.Peers.{by_peers, meets_itself}
use Rattle.misp_sync.proofs.PushTakes.{push_takes}
use Rattle.misp_outside.proofs.Reporting.{reported_before, reported_if, reported_same, stays_same}

-- ---- stops of the parties

own_stop : (cause : Cause) → IsOwnStop cause → TellsStop cause
own_stop cause (inl is) = record { stop = Stop.Keeper Here; told = is }
own_stop cause (inr is) = record { stop = Stop.Memory Here; told = is }

cut_stop : (cause : Cause) → IsCutShort cause → TellsStop cause
cut_stop cause (inl is) = record { stop = Stop.Carry; told = is }
cut_stop cause (inr is) = record { stop = Stop.Memory Here; told = is }

wire_stop : (cause : Cause) → IsCutShort cause ⊎ IsPeerStop cause → TellsStop cause
wire_stop cause (inl is) = cut_stop cause is
wire_stop cause (inr (inl is)) = record { stop = Stop.Keeper There; told = is }
wire_stop cause (inr (inr is)) = record { stop = Stop.Memory There; told = is }

cut_loss : (cause : Cause) → IsCutShort cause → TellsLoss Direction.Push cause
cut_loss cause (inl is) = record { stop = Stop.Carry; told = is; less = λ n. refl }
cut_loss cause (inr is) = record { stop = Stop.Memory Here; told = is; less = λ n. refl }

module _ (host : Option Host) (key : List ℕ) (s : Host × Link) (cause : Cause) where
  pull_stop : ((cause ≡ Cause.NoMemory) ⊎ MayStop (wire_conduct host key) (own_conduct s) Side.Source cause ⊎ MayStop (wire_conduct host key) (own_conduct s) Side.Sink cause
      ⊎ MayLose (wire_conduct host key) (own_conduct s) Side.Source cause) → TellsStop cause
  pull_stop (inl is) = own_stop cause (inr is)
  pull_stop (inr (inl is)) = wire_stop cause is
  pull_stop (inr (inr (inl is))) = own_stop cause is
  pull_stop (inr (inr (inr is))) = cut_stop cause is

  push_stop : ((cause ≡ Cause.NoMemory) ⊎ MayStop (own_conduct s) (wire_conduct host key) Side.Source cause ⊎ MayStop (own_conduct s) (wire_conduct host key) Side.Sink cause
      ⊎ MayLose (own_conduct s) (wire_conduct host key) Side.Source cause) → TellsStop cause
  push_stop (inl is) = own_stop cause (inr is)
  push_stop (inr (inl is)) = own_stop cause is
  push_stop (inr (inr (inl is))) = wire_stop cause is
  push_stop (inr (inr (inr is))) = absurd is

-- ---- where both report what they hold

module _ (here peer : Host) (link : Link) (own there : Held) (ending : Ending Tally Cause) where
  pull_does : IsUid link.holder.0 → (old new : PartyState Held × PartyState Held)
      → ByReplies Cause.NoMemory (wire_conduct (Some peer) link.key) (own_conduct (here, link)) (synchronising Direction.Pull no_tally) old new ending
      → old.0.held ≡ Some there → old.1.held ≡ Some own → (there1 own1 : Held) → new.0.held ≡ Some there1 → new.1.held ≡ Some own1
      → Done Direction.Pull (pulled_by here.name link.holder peer (who_of peer.admin link.key) (seen_in own) (seen_in there)) own own1 (reply_of_ending ending)
  pull_does owner old new by there_is own_is there1 own1 there1_is own1_is =
      let e = pulled_by here.name link.holder peer (who_of peer.admin link.key) (seen_in own) (seen_in there) in
      let ka = wire_conduct (Some peer) link.key in
      let kb = own_conduct (here, link) in
      let d = synchronising Direction.Pull no_tally in
      let states = by_states Cause.NoMemory ka kb d old new ending there there1 own own1 by there_is own_is there1_is own1_is in
      let first = took_first ka kb batching Cause.NoMemory there own no_tally e.batches e.reply new ending d (pull_takes here peer link own there owner) states in
      does Direction.Pull e own own1 ka kb (pulled_tells here.name link.holder peer (who_of peer.admin link.key) (seen_in own) (seen_in there))
      (pull_stop (Some peer) link.key (here, link)) (λ cause is. absurd is) first.first first.later first.all_is first.fits ending
      (subst (λ held. EndsAfter Cause.NoMemory ka kb batching own no_tally first.first first.later e.reply held ending) own1_is first.ends)

  push_does : (old new : PartyState Held × PartyState Held)
      → ByReplies Cause.NoMemory (own_conduct (here, link)) (wire_conduct (Some peer) link.key) (synchronising Direction.Push no_tally) old new ending
      → old.0.held ≡ Some own → old.1.held ≡ Some there → (own1 there1 : Held) → new.0.held ≡ Some own1 → new.1.held ≡ Some there1
      → Done Direction.Push (pushed_through here.name link peer (seen_in own) (seen_in there)) there there1 (reply_of_ending ending)
  push_does old new by own_is there_is own1 there1 own1_is there1_is =
      let e = pushed_through here.name link peer (seen_in own) (seen_in there) in
      let ka = own_conduct (here, link) in
      let kb = wire_conduct (Some peer) link.key in
      let d = synchronising Direction.Push no_tally in
      let states = by_states Cause.NoMemory ka kb d old new ending own own1 there there1 by own_is there_is own1_is there1_is in
      let first = took_first ka kb batching Cause.NoMemory own there no_tally e.batches e.reply new ending d (push_takes here peer link own there) states in
      does Direction.Push e there there1 ka kb (pushed_tells here.name link peer (seen_in own) (seen_in there))
      (push_stop (Some peer) link.key (here, link)) cut_loss first.first first.later first.all_is first.fits ending
      (subst (λ held. EndsAfter Cause.NoMemory ka kb batching there no_tally first.first first.later e.reply held ending) there1_is first.ends)

-- ---- over a link

-- what comes to one for a link that is used, and to another for a cause that bars, comes to these
module _ {A : Type 0} (over : Option Link → A) (used : Link → A) (barred : Cause → A) (none : over None ≡ barred Cause.NoLink)
    (some : (it : Link) → over (Some it) ≡ (if it.on then used it else barred Cause.LinkOff)) where
  over_used : (found : Option Link) (link : Link) → usable_link found ≡ Ok link → over found ≡ used link
  over_used None link is = absurd cc
  over_used (Some it) link is = some it ∙ one it.on is
    where
      one : (b : Bool) → (if b then Ok it else Err Cause.LinkOff) ≡ Ok link → (if b then used it else barred Cause.LinkOff) ≡ used link
      one true same = let is : it ≡ link = cc in ap used is
      one false same = absurd cc

  over_barred : (found : Option Link) (why : Cause) → usable_link found ≡ Err why → over found ≡ barred why
  over_barred None why is = let same : Cause.NoLink ≡ why = cc in none ∙ ap barred same
  over_barred (Some it) why is = some it ∙ one it.on is
    where
      one : (b : Bool) → (if b then Ok it else Err Cause.LinkOff) ≡ Err why → (if b then used it else barred Cause.LinkOff) ≡ barred why
      one true same = absurd cc
      one false same = let at : Cause.LinkOff ≡ why = cc in ap barred at

module _ (here : Inst) (peer : Host) (own there : Seen) where
  abbrev pulls : Link → Effect (Option Cause)
  pulls link = pulled_by here link.holder peer (who_of peer.admin link.key) own there

  pulled_on : (found : Option Link) (link : Link) → usable_link found ≡ Ok link → pulled_over here found peer own there ≡ pulls link
  pulled_on = over_used (λ found. pulled_over here found peer own there) pulls (λ why. ends (Some why)) refl (λ it. refl)

  pushed_on : (found : Option Link) (link : Link) → usable_link found ≡ Ok link → pushed_over here found peer own there ≡ pushed_through here link peer own there
  pushed_on = over_used (λ found. pushed_over here found peer own there) (λ link. pushed_through here link peer own there) (λ why. ends (Some why)) refl (λ it. refl)

  pulled_barred : (found : Option Link) (why : Cause) → usable_link found ≡ Err why → pulled_over here found peer own there ≡ ends (Some why)
  pulled_barred = over_barred (λ found. pulled_over here found peer own there) pulls (λ why. ends (Some why)) refl (λ it. refl)

  pushed_barred : (found : Option Link) (why : Cause) → usable_link found ≡ Err why → pushed_over here found peer own there ≡ ends (Some why)
  pushed_barred = over_barred (λ found. pushed_over here found peer own there) (λ link. pushed_through here link peer own there) (λ why. ends (Some why)) refl (λ it. refl)

-- ---- the whole

-- what holds where both are reported, by what both report
reported_with : (old new : Option Held) (P Q : Held → Held → Type 0) → WhereReported old new P → ((a b : Held) → old ≡ Some a → new ≡ Some b → Q a b) → WhereReported old new Q
reported_with old new P Q is so = reported_if old new Q (λ b now. let it = reported_before old new P b is now in (it.0, it.1, so it.0 b it.1 now))

module _ (name : Inst) (link : Link) (owner : IsUid link.holder.0) (own mine : Standing) (before left : WireState)
    (ending : Ending Tally Cause) (usable : usable_link (link_of own.admin.links name) ≡ Ok link) where
  -- what it did, where both report what they hold
  abbrev DidSo : Direction → (held now : Held) → (peer : Standing) → (there after : Held) → Type 0
  DidSo d held now peer there after =
      Does SyncReply spelled stop_in (telling_on d) (synced_on d (host_of own) name (host_of peer) (seen_in held) (seen_in there)) (taker d held there)
      (reply_of_ending ending) (taker d now after)

  abbrev Did : Direction → Option Standing → Option Standing → Held → Held → Type 0
  Did d peer theirs held now = Meet peer theirs (λ peer theirs. WhereReported peer.held theirs.held (DidSo d held now peer))

  -- the wire, with this peer and with this one
  abbrev met_before : Option Standing → PartyState Held
  met_before peer = party_state (wire_state peer before.trail before.faults)

  abbrev met_left : Option Standing → PartyState Held
  met_left peer = party_state (wire_state peer left.trail left.faults)

  -- the dialogue with this peer
  abbrev Pulls : Option Standing → Option Standing → Type 0
  Pulls peer theirs =
      ByReplies Cause.NoMemory (wire_conduct (peer_of peer) link.key) (own_conduct (host_of own, link)) (synchronising Direction.Pull no_tally)
      (met_before peer, own_state own) (met_left theirs, own_state mine) ending

  abbrev Pushes : Option Standing → Option Standing → Type 0
  Pushes peer theirs =
      ByReplies Cause.NoMemory (own_conduct (host_of own, link)) (wire_conduct (peer_of peer) link.key) (synchronising Direction.Push no_tally)
      (own_state own, met_before peer) (own_state mine, met_left theirs) ending

  module _ (held now : Held) (held_is : own.held ≡ Some held) (now_is : mine.held ≡ Some now) where
    pulled_so : (a b : Standing) → Pulls (Some a) (Some b) → (there after : Held) → a.held ≡ Some there → b.held ≡ Some after → DidSo Direction.Pull held now a there after
    unfolding pulled
    pulled_so a b by there after there_is after_is =
        subst (λ e. Done Direction.Pull e held now (reply_of_ending ending)) (sym (pulled_on own.name (host_of a) (seen_in held) (seen_in there) (link_of own.admin.links name) link usable))
        (pull_does (host_of own) (host_of a) link held there ending owner (met_before (Some a), own_state own) (met_left (Some b), own_state mine) by there_is held_is after now after_is now_is)

    pushed_so : (a b : Standing) → Pushes (Some a) (Some b) → (there after : Held) → a.held ≡ Some there → b.held ≡ Some after → DidSo Direction.Push held now a there after
    unfolding pushed
    pushed_so a b by there after there_is after_is =
        subst (λ e. Done Direction.Push e there after (reply_of_ending ending)) (sym (pushed_on own.name (host_of a) (seen_in held) (seen_in there) (link_of own.admin.links name) link usable))
        (push_does (host_of own) (host_of a) link held there ending (own_state own, met_before (Some a)) (own_state mine, met_left (Some b)) by held_is there_is now after now_is after_is)

  did_so : (d : Direction) → HasConversed d link own mine before left ending → (held now : Held) → own.held ≡ Some held → mine.held ≡ Some now → Did d before.peer left.peer held now
  did_so Direction.Pull h held now held_is now_is =
      by_peers (λ peer theirs. Pulls peer theirs → Did Direction.Pull peer theirs held now) before.peer left.peer h.same_peer (λ by. tt)
      (λ a b same by. reported_with a.held b.held _ _ by.source.held (pulled_so held now held_is now_is a b by)) (of_pull link own mine before left ending h)
  did_so Direction.Push h held now held_is now_is =
      by_peers (λ peer theirs. Pushes peer theirs → Did Direction.Push peer theirs held now) before.peer left.peer h.same_peer (λ by. tt)
      (λ a b same by. reported_with a.held b.held _ _ by.sink.held (pushed_so held now held_is now_is a b by)) (of_push link own mine before left ending h)

  pub synchronised : (d : Direction) → HasConversed d link own mine before left ending → HasSynchronised d name own mine before left (reply_of_ending ending)
  synchronised d h = record {
    did = reported_with own.held mine.held _ (Did d before.peer left.peer) h.own_share.held (did_so d h);
    course = course_over d link own mine before left ending h (link_of own.admin.links name) usable;
    kept = kept_by link own mine before left ending d h;
    cause = cause_told d link own mine before left ending h;
    wire = link_told d link own mine before left ending h;
    peer = peer_told d link own mine before left ending h;
    same = same_host own mine h.same;
  }

-- ---- a link that can not be used

-- the cause is no stop
no_stop : (found : Option Link) (why : Cause) → usable_link found ≡ Err why → None ≡ stop_by why
no_stop = over_barred (λ found. None) (λ link. None) stop_by refl (λ it. either it.on)
  where
    either : (b : Bool) → ◌≡◌ {A = Option Stop} None (if b then None else None)
    either true = refl
    either false = refl

nothing_done : (d : Direction) (why : Cause) (held : Held) → stop_by why ≡ None
    → Does SyncReply spelled stop_in (telling_on d) (synced (ends (Some why))) held (SyncReply.Stopped no_count why) held
unfolding tally
nothing_done d why held none = record { outcome = Went; agree = sym none; reply_is = refl; held_is = refl; fits = tt }

barred_did : (d : Direction) (name : Inst) (own : Standing) (why : Cause) → usable_link (link_of own.admin.links name) ≡ Err why → (held : Held) (peer : Standing) (there : Held)
    → Does SyncReply spelled stop_in (telling_on d) (synced_on d (host_of own) name (host_of peer) (seen_in held) (seen_in there)) (taker d held there) (SyncReply.Stopped no_count why) (taker d held there)
unfolding pulled pushed
barred_did Direction.Pull name own why usable held peer there =
    subst (λ e. Done Direction.Pull e held held (SyncReply.Stopped no_count why)) (sym (pulled_barred own.name (host_of peer) (seen_in held) (seen_in there) (link_of own.admin.links name) why usable))
    (nothing_done Direction.Pull why held (sym (no_stop (link_of own.admin.links name) why usable)))
barred_did Direction.Push name own why usable held peer there =
    subst (λ e. Done Direction.Push e there there (SyncReply.Stopped no_count why)) (sym (pushed_barred own.name (host_of peer) (seen_in held) (seen_in there) (link_of own.admin.links name) why usable))
    (nothing_done Direction.Push why there (sym (no_stop (link_of own.admin.links name) why usable)))

nothing_went : (d : Direction) (found : Option Link) (why : Cause) → usable_link found ≡ Err why → (own : Standing) (peer : Option (Host × Held)) (reply : SyncReply) (trail : Option (List (List ℕ)))
    → GrowsBy trail trail (IsTrailOver d found own own.held peer peer reply)
nothing_went d found why usable own peer reply trail = grows_none trail _ (over found usable)
  where
    over : (found : Option Link) → usable_link found ≡ Err why → IsTrailOver d found own own.held peer peer reply []
    over None is = refl
    over (Some it) is = off it.on refl is
      where
        off : (b : Bool) → it.on ≡ b → (if b then Ok it else Err Cause.LinkOff) ≡ Err why → IsTrailOver d (Some it) own own.held peer peer reply []
        off true on same = absurd cc
        off false on same = rw on refl

still : (d : Direction) (own : Standing) (peer : Option Standing) → Stays d own own peer peer
still Direction.Pull own peer = meets_itself peer _ (λ s. stays_same s.held s.held refl)
still Direction.Push own peer = stays_same own.held own.held refl

no_fault : (n : ℕ) (told : Type 0) → (told → ⊥) → HasCause n n told
no_fault n told never = record { later = omega arith; rose = λ t. absurd (never t) }

module _ (d : Direction) (name : Inst) (own : Standing) (wire : WireState) (why : Cause) (usable : usable_link (link_of own.admin.links name) ≡ Err why) where
  untold : (stop : Stop) → stop_by why ≡ Some stop → ⊥
  untold stop is = let none = no_stop (link_of own.admin.links name) why usable in absurd cc

  pub not_synchronised : HasSynchronised d name own own wire wire (SyncReply.Stopped no_count why)
  not_synchronised = record {
    did = reported_same own.held own.held _ refl (λ held. meets_itself wire.peer _ (λ s. reported_same s.held s.held _ refl (barred_did d name own why usable held s)));
    course = nothing_went d (link_of own.admin.links name) why usable own (told_of wire.peer) (SyncReply.Stopped no_count why) wire.trail;
    kept = still d own wire.peer;
    cause = no_fault own.faults _ (untold (Stop.Keeper Here));
    wire = no_fault wire.faults _ (untold Stop.Carry);
    peer = meets_itself wire.peer _ (λ s. (record { name = refl; admin = refl }, no_fault s.faults _ (untold (Stop.Keeper There))));
    same = record { name = refl; admin = refl };
  }
