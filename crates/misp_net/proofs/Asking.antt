-- With whom an instance synchronises.
use Rattle.std.proofs.Common.{◌≡◌, ◌⊎◌, ℕ, ◌<◌, if◌then◌else◌, Bool, true, false, eqb, List, [], ◌∷◌, length, map, get_or, Option, Some, None, Result, Ok, Err, refl, sym, ◌∙◌, ap, subst, inl, inr, arith, bytes_eq}
use Rattle.std.specs.List.{position_or_len}
use Rattle.std.proofs.lemmas.Bool.{cases_Bool}
use Rattle.std.proofs.lemmas.Bool.Decides.{eqb_tells}
use Rattle.std.proofs.lemmas.List.{length-map, get_or-map}
use Rattle.misp_model.proofs.Prelude.{map-map}
use Rattle.misp_orgs.specs.Admin.{link_of}
use Rattle.misp_orgs.specs.declared.link.Link.{Link}
use Rattle.misp_outside.specs.Causes.{HasCause, RoseBy}
use Rattle.misp_effects.specs.declared.stop.Stop.{Stop}
use Rattle.misp_script.specs.Directory.{Roster, directory_of, place_of, roster_names, roster_of}
use Rattle.misp_protocol.specs.Counts.{no_count}
use Rattle.misp_protocol.specs.declared.cause.Cause.{Cause}
use Rattle.misp_sync.specs.declared.reply.SyncReply.{SyncReply}
use Rattle.misp_sync.specs.declared.reply.SyncReply.TheVariants as replies
use Rattle.misp_net.specs.Acts.{Syncs, act}
use Rattle.misp_net.specs.Asking.{asked_at, asked_over, names_of}
use Rattle.misp_net.specs.Carrying.{carry_faults, fault_by}
use Rattle.misp_net.specs.Hosts.{nobody}
use Rattle.misp_net.specs.Links.{link_at, peer_place, place_named, place_of_peer}
use Rattle.misp_net.specs.Prelude.{Description, Host, KeeperState, SyncData, Standing, Synced, described_host, described_hosts, host_of, hosts_of, state_of, states_of}
use Rattle.misp_net.specs.Running.{IsAct}
use Rattle.misp_net.proofs.Peers.{peer_inside}
use Rattle.misp_net.proofs.Syncs.{alone_act, barred_act}
use Rattle.misp_sync.specs.Pulled as pulls

-- ---- names

-- the instances of a description are in its directory, in order
pub names_described : (net : Description) → roster_names (directory_of net) ≡ names_of (described_hosts net)
names_described net =
    map-map (λ (r : Roster). r.name) roster_of net.instances
    ∙ sym (map-map (λ (h : Host). h.name) described_host net.instances)

-- there are as many as names
pub names_long : (rosters : List Roster) (instances : List Standing) → roster_names rosters ≡ names_of (hosts_of instances) → length rosters ≡ length instances
names_long rosters instances same =
    sym (length-map rosters (λ (r : Roster). r.name))
    ∙ ap length same
    ∙ length-map (hosts_of instances) (λ (h : Host). h.name)
    ∙ length-map instances host_of

first_map : {A B : Type 0} (p : B → Bool) (f : A → B) (xs : List A) → position_or_len p (map f xs) ≡ position_or_len (λ x. p (f x)) xs
first_map p f [] = refl
first_map p f (x ∷ xs) = elim (cases_Bool (p (f x))) [
  | inl hit ↦ rw hit refl
  | inr miss ↦ let rest = first_map p f xs in rw (miss, rest) refl
]

-- a name has one place in both
pub place_same : (rosters : List Roster) (hosts : List Host) (name : List ℕ) → roster_names rosters ≡ names_of hosts → place_of (roster_names rosters) name ≡ place_named hosts name
place_same rosters hosts name same =
    ap (λ names. place_of names name) same
    ∙ rw (first_map (λ (n : List ℕ). bytes_eq n name) (λ (h : Host). h.name) hosts, length-map hosts (λ (h : Host). h.name)) refl

-- ---- with whom

eqb_same : (n : ℕ) → eqb n n ≡ true
eqb_same n = elim (eqb_tells n n) [
  | inl is ↦ is.0
  | inr is ↦ absurd (is.1 refl)
]

-- ---- choices

place_from : (place peer : ℕ) (alone : Bool) → (if alone then Err Cause.NoPeer else Ok place) ≡ Ok peer → (place ≡ peer) × (alone ≡ false)
place_from place peer true is = cc
place_from place peer false is = (let same : place ≡ peer = cc in same, refl)

none_from : (place : ℕ) (why : Cause) (alone : Bool) → (if alone then Err Cause.NoPeer else Ok place) ≡ Err why → (Cause.NoPeer ≡ why) × (alone ≡ true)
none_from place why true is = (let same : Cause.NoPeer ≡ why = cc in same, refl)
none_from place why false is = cc

peer_from : (on : Bool) (asked : Result ℕ Cause) (peer : ℕ) → (if on then asked else Err Cause.LinkOff) ≡ Ok peer → (on ≡ true) × (asked ≡ Ok peer)
peer_from true asked peer is = (refl, is)
peer_from false asked peer is = cc

pub bar_from : (on : Bool) (asked : Result ℕ Cause) (why : Cause) → (if on then asked else Err Cause.LinkOff) ≡ Err why → ((on ≡ true) × (asked ≡ Err why)) ⊎ ((on ≡ false) × (Cause.LinkOff ≡ why))
bar_from true asked why is = inl (refl, is)
bar_from false asked why is = inr (refl, let same : Cause.LinkOff ≡ why = cc in same)

module _ (hosts : List Host) (at : ℕ) (link : Link) where
  -- a place that is found is that of the peer
  asked_place : (peer : ℕ) (found : Option ℕ) → place_named hosts link.peer ≡ found → asked_at at found ≡ Ok peer → (peer ≡ peer_place hosts at (Some link)) × (eqb peer at ≡ false)
  asked_place peer None is asked = cc
  asked_place peer (Some place) is asked =
      let other = place_from place peer (eqb place at) asked in
      (sym other.0 ∙ rw is refl, subst (λ p. eqb p at ≡ false) other.0 other.1)

  -- and else there is no other instance
  pub asked_none : (why : Cause) (found : Option ℕ) → place_named hosts link.peer ≡ found → asked_at at found ≡ Err why → (Cause.NoPeer ≡ why) × (eqb (peer_place hosts at (Some link)) at ≡ true)
  asked_none why None is asked = (let same : Cause.NoPeer ≡ why = cc in same, rw is (eqb_same at))
  asked_none why (Some place) is asked = let alone = none_from place why (eqb place at) asked in (alone.0, rw is alone.1)

-- the peer is the other instance
pub asked_peer : (rosters : List Roster) (hosts : List Host) (at : ℕ) (name : List ℕ) (peer : ℕ) → roster_names rosters ≡ names_of hosts → (link : Option Link) → link_at hosts at name ≡ link
    → asked_over rosters at link ≡ Ok peer → (peer ≡ place_of_peer hosts at name) × (eqb peer at ≡ false)
asked_peer rosters hosts at name peer same None is asked = cc
asked_peer rosters hosts at name peer same (Some link) is asked =
    let (on, found) = peer_from link.on (asked_at at (place_of (roster_names rosters) link.peer)) peer asked in
    rw is (asked_place hosts at link peer (place_named hosts link.peer) refl (ap (asked_at at) (sym (place_same rosters hosts link.peer same)) ∙ found))

-- a synchronisation with nobody is refused, and leaves all keepers as they were
pub refused_act : (rosters : List Roster) (hosts : List Host) (time word : ℕ) (line : SyncData) (old : List KeeperState) (why : Cause) → roster_names rosters ≡ names_of hosts
    → (link : Option Link) → link_at hosts line.at line.link ≡ link → asked_over rosters line.at link ≡ Err why
    → IsAct hosts (act time word (Syncs line)) old old (Synced (replies.Stopped no_count why))
refused_act rosters hosts time word line old why same None is asked =
    let none : Cause.NoLink ≡ why = cc in
    subst (λ n. IsAct hosts (act time word (Syncs line)) old old (Synced (replies.Stopped no_count n))) none (barred_act hosts time word line old Cause.NoLink (rw is refl))
refused_act rosters hosts time word line old why same (Some link) is asked =
    let by : Cause → Type 0 = λ n. IsAct hosts (act time word (Syncs line)) old old (Synced (replies.Stopped no_count n)) in
    elim (bar_from link.on (asked_at line.at (place_of (roster_names rosters) link.peer)) why asked) [
      | inl open_ ↦
          let alone = asked_none hosts line.at link why (place_named hosts link.peer) refl (ap (asked_at line.at) (sym (place_same rosters hosts link.peer same)) ∙ open_.1) in
          subst by alone.0 (alone_act hosts time word line old (rw is alone.1) (rw (is, open_.0) refl))
      | inr off ↦ subst by off.1 (barred_act hosts time word line old Cause.LinkOff (rw (is, off.0) refl))
    ]

-- the link of an instance is that of its place
pub link_there : (instances : List Standing) (none : Standing) (at : ℕ) (name : List ℕ) → at < length instances → link_at (hosts_of instances) at name ≡ link_of (get_or instances at none).admin.links name
link_there instances none at name lt = ap (λ (h : Host). link_of h.admin.links name) (get_or-map host_of instances at none nobody lt)

-- ---- what is told of what carries

by_cause : (stop : Option Stop) (first last : ℕ) → HasCause first last (stop ≡ Some Stop.Carry) → RoseBy (fault_by stop) first last
by_cause None first last cause = omega (arith, cause.later)
by_cause (Some (Stop.Keeper side)) first last cause = omega (arith, cause.later)
by_cause (Some (Stop.Memory side)) first last cause = omega (arith, cause.later)
by_cause (Some Stop.Carry) first last cause = cause.rose refl

pub carry_told : (reply : SyncReply) (first last : ℕ) → HasCause first last (pulls.stop_in reply ≡ Some Stop.Carry) → RoseBy (carry_faults (Synced reply ∷ [])) first last
carry_told reply first last cause =
    let one : carry_faults (Synced reply ∷ []) ≡ fault_by (pulls.stop_in reply) = omega arith in
    subst (λ n. RoseBy n first last) (sym one) (by_cause (pulls.stop_in reply) first last cause)

-- ---- places

pub inside_hosts : (instances : List Standing) (at : ℕ) → at < length instances → at < length (hosts_of instances)
inside_hosts instances at lt = omega (arith, lt, length-map instances host_of)

pub inside_states : (instances : List Standing) (at : ℕ) → at < length instances → at < length (states_of instances)
inside_states instances at lt = omega (arith, lt, length-map instances state_of)

-- the peer is one of them, too
pub peer_states : (instances : List Standing) (at : ℕ) (link : List ℕ) → at < length instances → place_of_peer (hosts_of instances) at link < length (states_of instances)
peer_states instances at link lt =
    omega (arith, peer_inside (hosts_of instances) at (link_at (hosts_of instances) at link) (inside_hosts instances at lt), length-map instances host_of, length-map instances state_of)

pub peer_inside_too : (instances : List Standing) (at : ℕ) (link : List ℕ) → at < length instances → place_of_peer (hosts_of instances) at link < length instances
peer_inside_too instances at link lt =
    omega (arith, peer_inside (hosts_of instances) at (link_at (hosts_of instances) at link) (inside_hosts instances at lt), length-map instances host_of)
