-- What a synchronisation of two instances of a list is among the keepers of all.
use Rattle.std.proofs.Common.{◌≡◌, ◌≢◌, ℕ, ◌<◌, true, false, eqb, nat_eq, List, [], length, get_or, set, Option, None, Some, option_map, sym, ◌∙◌, ap, subst, inl, inr, length-set, get_or-set_other, get_or-set_same}
use Rattle.std.proofs.lemmas.Bool.Decides.{eqb_tells}
use Rattle.std.proofs.lemmas.List.{get_or-map, length-map, map-set}
use Rattle.misp_orgs.specs.Admin.{link_of}
use Rattle.misp_orgs.specs.declared.link.Link.{Link}
use Rattle.misp_outside.specs.KeeperState.{state}
use Rattle.misp_outside.specs.Reporting.{WhereReported}
use Rattle.misp_effects.specs.Effect.{Does}
use Rattle.misp_effects.specs.KeeperStates.{Lends, state_at}
use Rattle.misp_core.specs.Prelude.{Held}
use Rattle.misp_core.specs.Standing.{standing}
use Rattle.misp_dialogue.specs.Parties.{GrowsBy}
use Rattle.misp_sync.specs.Directions.{synced_on, taker, telling_on}
use Rattle.misp_sync.specs.Synchronised.{IsTrailOver, told_of}
use Rattle.misp_sync.specs.declared.reply.SyncReply.{SyncReply}
use Rattle.misp_net.specs.Hosts.{nobody}
use Rattle.misp_net.specs.Carrying.{Carried}
use Rattle.misp_net.specs.Lending.{HaveSynced}
use Rattle.misp_net.specs.Links.{link_at, place_of_peer}
use Rattle.misp_net.specs.Passing.{IsSyncPassed, Trail, UnlessHere, stands_at, told_at}
use Rattle.misp_net.specs.Prelude.{Host, KeeperState, Standing, SyncData, host_at, host_of, hosts_of, seen_in, spelled, state_of, states_of}
use Rattle.misp_net.specs.Running.{IsSynced}
use Rattle.misp_net.proofs.Growing.{grows_as}
use Rattle.misp_net.proofs.Steps.{hosts_kept}
use Rattle.misp_net.proofs.Directions.{giver_stays}
use Rattle.misp_sync.specs.Pulled as pulls

-- two places that are apart
pub apart_too : (peer at : ℕ) → eqb peer at ≡ false → nat_eq at peer ≡ false
apart_too peer at other = elim (eqb_tells at peer) [
  | inl same ↦ absurd (elim (eqb_tells peer at) [
    | inl is ↦ let no_ : true ≡ false = sym is.0 ∙ other in cc
    | inr is ↦ is.1 (sym same.1)
  ])
  | inr is ↦ is.0
]

places_apart : (peer at : ℕ) → eqb peer at ≡ false → peer ≢ at
places_apart peer at other same = elim (eqb_tells peer at) [
  | inl is ↦ let no_ : true ≡ false = sym is.0 ∙ other in cc
  | inr is ↦ is.1 same
]

-- nobody
abbrev pub no_one : Standing
no_one = standing [] nobody.admin None 0

-- the keeper of a place is that of its instance
there_state : (old : List Standing) (at : ℕ) → at < length old → state_at at (states_of old) ≡ state_of (get_or old at no_one)
there_state old at lt = get_or-map state_of old at no_one (state None 0) lt

module _ (line : SyncData) (peer : ℕ) (before after : Carried) (old new : List Standing) (reply : SyncReply) (lt : line.at < length old) (peer_lt : peer < length old)
    (other : eqb peer line.at ≡ false) (is : HaveSynced line.direction line.link before after line.at peer old new reply) where
  abbrev own : Standing
  own = get_or old line.at no_one

  abbrev from : Standing
  from = get_or old peer no_one

  own_host : host_at line.at (hosts_of old) ≡ host_of own
  own_host = get_or-map host_of old line.at no_one nobody lt

  from_host : host_at peer (hosts_of old) ≡ host_of from
  from_host = get_or-map host_of old peer no_one nobody peer_lt

  -- the states of all are those that they had, but for the two
  states_are : states_of new ≡ set (set (states_of old) line.at (state_of is.mine)) peer (state_of is.theirs)
  states_are =
      ap states_of is.left
      ∙ map-set state_of (set old line.at is.mine) peer is.theirs
      ∙ ap (λ ss. set ss peer (state_of is.theirs)) (map-set state_of old line.at is.mine)

  -- that of the one here
  own_left : state_at line.at (states_of new) ≡ state_of is.mine
  own_left =
      ap (state_at line.at) states_are
      ∙ get_or-set_other (set (states_of old) line.at (state_of is.mine)) peer line.at (state_of is.theirs) (state None 0) (λ same. places_apart peer line.at other (sym same))
      ∙ get_or-set_same (states_of old) line.at (state_of is.mine) (state None 0) (rw (length-map old state_of) lt)

  -- and that of the other
  peer_left : state_at peer (states_of new) ≡ state_of is.theirs
  peer_left =
      ap (state_at peer) states_are
      ∙ get_or-set_same (set (states_of old) line.at (state_of is.mine)) peer (state_of is.theirs) (state None 0)
      (rw (length-set (states_of old) line.at (state_of is.mine), length-map old state_of) peer_lt)

  theirs_host : host_of is.theirs ≡ host_of from
  theirs_host = let same = (is.went no_one).synchronised.peer.0 in λ i. record { name = same.name i; admin = same.admin i }

  -- names and administrations stay
  pub lent_hosts : hosts_of new ≡ hosts_of old
  lent_hosts =
      let went = (is.went no_one).synchronised in
      let still : get_or (set old line.at is.mine) peer no_one ≡ from = get_or-set_other old line.at peer is.mine no_one (places_apart peer line.at other) in
      ap hosts_of is.left
      ∙ hosts_kept (set old line.at is.mine) peer is.theirs no_one (rw (length-set old line.at is.mine) peer_lt) (rw still went.peer.0.name) (rw still went.peer.0.admin)
      ∙ hosts_kept old line.at is.mine no_one lt went.same.name went.same.admin

  -- the two keepers were lent, and the others are as they were
  pub lent : peer ≡ place_of_peer (hosts_of old) line.at line.link → Lends line.at peer (states_of old) (states_of new) (IsSynced (hosts_of old) line reply)
  lent place =
      let went = (is.went no_one).synchronised in
      let there : Host = host_at (place_of_peer (hosts_of old) line.at line.link) (hosts_of old) in
      let there_host : there ≡ host_of from = ap (λ p. host_at p (hosts_of old)) (sym place) ∙ from_host in
      let Did : Host → Host → Type 0 = λ h f. WhereReported own.held is.mine.held (λ o now. WhereReported from.held is.theirs.held (λ p left.
      Does SyncReply spelled pulls.stop_in (telling_on line.direction) (synced_on line.direction h line.link f (seen_in o) (seen_in p)) (taker line.direction o p) reply (taker line.direction now left))) in
      let did : Did (host_at line.at (hosts_of old)) there =
      subst (λ (h : Host). Did h there) (sym own_host) (subst (λ (f : Host). Did (host_of own) f) (sym there_host) went.did) in
      let met : IsSynced (hosts_of old) line reply (state_of own) (state_of is.mine) (state_of from) (state_of is.theirs) =
      record { did = did; kept = giver_stays line.direction own is.mine from is.theirs went.kept; cause = went.cause; peer_cause = went.peer.1 } in
      record {
        here = state_of is.mine;
        there = state_of is.theirs;
        new_is = states_are;
        met =
            subst (λ s. IsSynced (hosts_of old) line reply s (state_of is.mine) (state_at peer (states_of old)) (state_of is.theirs)) (sym (there_state old line.at lt))
            (subst (λ s. IsSynced (hosts_of old) line reply (state_of own) (state_of is.mine) s (state_of is.theirs)) (sym (there_state old peer peer_lt)) met);
      }

  -- what passed for it is what passed over its link
  pub lent_passed : peer ≡ place_of_peer (hosts_of old) line.at line.link → GrowsBy before.passed after.passed (IsSyncPassed (hosts_of old) (states_of old) (states_of new) line reply)
  lent_passed place =
      let there : Option Link = link_of own.admin.links line.link in
      let stands : stands_at (hosts_of old) (states_of old) line.at ≡ own =
      ap (λ (h : Host). standing h.name h.admin (state_at line.at (states_of old)).held (state_at line.at (states_of old)).faults) own_host
      ∙ ap (λ (s : KeeperState). standing own.name own.admin s.held s.faults) (there_state old line.at lt) in
      let link_is : link_at (hosts_of old) line.at line.link ≡ there = ap (λ (h : Host). link_of h.admin.links line.link) own_host in
      let told_is : told_at (hosts_of old) (states_of old) peer ≡ told_of (Some from) =
      ap (λ (h : Host). option_map (λ held. (h, held)) (state_at peer (states_of old)).held) from_host
      ∙ ap (λ (s : KeeperState). option_map (λ held. (host_of from, held)) s.held) (there_state old peer peer_lt) in
      let left_is : told_at (hosts_of old) (states_of new) peer ≡ told_of (Some is.theirs) =
      ap (λ (h : Host). option_map (λ held. (h, held)) (state_at peer (states_of new)).held) (from_host ∙ sym theirs_host)
      ∙ ap (λ (s : KeeperState). option_map (λ held. (host_of is.theirs, held)) s.held) peer_left in
      let On : Option Link → Standing → Option Held → Option (Host × Held) → Option (Host × Held) → Trail → Type 0 = λ l o now told then. IsTrailOver line.direction l o now told then reply in
      let now : Option Held = (state_at line.at (states_of new)).held in
      let told : ℕ → Option (Host × Held) = told_at (hosts_of old) (states_of old) in
      let then : ℕ → Option (Host × Held) = told_at (hosts_of old) (states_of new) in
      grows_as before.passed after.passed (On there own is.mine.held (told_of (Some from)) (told_of (Some is.theirs))) (IsSyncPassed (hosts_of old) (states_of old) (states_of new) line reply)
      (λ more on.
      subst (λ p. UnlessHere (eqb p line.at) (On (link_at (hosts_of old) line.at line.link) (stands_at (hosts_of old) (states_of old) line.at) now (told p) (then p)) more) place
      (subst (λ here. UnlessHere here (On (link_at (hosts_of old) line.at line.link) (stands_at (hosts_of old) (states_of old) line.at) now (told peer) (then peer)) more) (sym other)
      (subst (λ (l : Option Link). On l (stands_at (hosts_of old) (states_of old) line.at) now (told peer) (then peer) more) (sym link_is)
      (subst (λ (o : Standing). On there o now (told peer) (then peer) more) (sym stands)
      (subst (λ (s : KeeperState). On there own s.held (told peer) (then peer) more) (sym own_left)
      (subst (λ was. On there own is.mine.held was (then peer) more) (sym told_is)
      (subst (λ left. On there own is.mine.held (told_of (Some from)) left more) (sym left_is) on)))))))
      (is.went no_one).synchronised.course
