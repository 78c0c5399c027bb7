-- A synchronisation over keepers that hold the tables of the history.
use Rattle.std.proofs.Common.{◌≡◌, ℕ, zero, suc, ◌<◌, Bool, true, false, eqb, cond, List, [], ◌∷◌, length, map, take, slice_set, Option, None, Some, refl, sym, ◌∙◌, ap, subst, inl, inr, ltb, ◌||◌}
use Rattle.std.proofs.lemmas.Bool.{cases_Bool}
use Rattle.misp_ids.specs.declared.label.Direction.{Direction}
use Rattle.misp_effects.specs.Effect.{shown, under}
use Rattle.misp_effects.specs.Run.{effect_in, effect_of}
use Rattle.misp_model.specs.Prelude.{Version, is_row_of, list_any}
use Rattle.misp_history.specs.Acts.{Net}
use Rattle.misp_history.specs.Passing.{Route, passing}
use Rattle.misp_history.specs.Outcomes.{coming, first_brought, step_partly, synced_partly}
use Rattle.misp_history.specs.Acts.{synced_groups}
use Rattle.misp_history.proofs.Adding.{below_next}
use Rattle.misp_history.proofs.Numbered.{moved_within, newest_within, step_below}
use Rattle.misp_history.proofs.Prelude.{all-filter, all_both, known_there, newest, newest_from, passes, row_of}
use Rattle.misp_core.specs.Prelude.{AreReadable, Held, Host, Inst, Keeps, World, left, list_all, put_batches, same_inst, spelled}
use Rattle.misp_sync.specs.Directions.{route_on, synced_on, taker, telling_on}
use Rattle.misp_sync.specs.History.{applied, sync_act}
use Rattle.misp_sync.specs.declared.reply.SyncReply.{SyncReply}
use Rattle.misp_net.specs.Prelude.{AreDistinct, Effect, Outcome, Stopped, SyncData, Synced, Tables, Went, held_at, host_at, seen_in, step}
use Rattle.misp_net.specs.Links.{link_at, place_of_peer, routes_of, synced_at}
use Rattle.misp_net.specs.Meaning.{sync_telling, syncing}
use Rattle.misp_net.specs.History.{IsHistory, seen_by}
use Rattle.misp_net.proofs.Peers.{no_route, peer_inside, route_apart, route_there}
use Rattle.misp_net.proofs.SyncLaw.{AreSyncLaws}
use Rattle.misp_net.proofs.Syncs.{synced_alone, synced_there}
use Rattle.misp_net.proofs.Telling.{as_before, one_left, still}
use Rattle.misp_net.proofs.Made.{none_made}
use Rattle.misp_net.proofs.Directions.{taker_has, taker_of}
use Rattle.misp_effects.specs.Run as runs
use Rattle.misp_history.specs.Acts as model

-- ---- the numbers of acts

abbrev is_below : ℕ → Version → Bool
is_below n v = ltb v.act n

-- what moves keeps the number of its act
-- what comes is of acts that were
coming_below : (m : ℕ) (w : World) (r : Route) → list_all (is_below m) w.log ≡ true → list_all (is_below m) (coming w r) ≡ true
unfolding coming passing newest
coming_below m w r h =
    moved_within m r (passing w.log (w.groups r.from) r)
    (all-filter (is_below m) (λ v. passes (known_there w.log (w.groups r.from) r) (w.groups r.from) r (row_of w.log v)) (newest_from r.from [] w.log)
    (newest_within (is_below m) r.from [] w.log h))

partly_below : (n : ℕ) (w : World) (groups : Bool) (packages : ℕ) (route : Option Route) → list_all (is_below (suc n)) w.log ≡ true
    → list_all (is_below (suc n)) (elim route as (λ x. World) [ None ↦ w | Some r ↦ synced_partly w r groups packages ]).log ≡ true
unfolding synced_partly
partly_below n w groups packages None h = h
partly_below n w groups packages (Some r) h =
    all_both (is_below (suc n)) w.log _ h
    (all-filter (is_below (suc n)) (λ v. list_any (is_row_of v.owner v.key) (first_brought packages w r (cond groups (synced_groups w.groups r) w.groups r.into))) (coming w r)
    (coming_below (suc n) w r h))

-- after it all acts of the log are below the next number
sync_below : (direction : Direction) (net : Net) (n now : ℕ) (w : World) (here link : Inst) (outcome : Outcome) → list_all (λ v. ltb v.act n) w.log ≡ true
    → list_all (λ v. ltb v.act (suc n)) (step_partly net n w (sync_act direction here now link) (applied outcome)).log ≡ true
unfolding step_partly
sync_below direction net n now w here link Went older = step_below net n w (sync_act direction here now link) older
sync_below direction net n now w here link (Stopped stop zero lost) older = partly_below n w (false || ltb 0 0) 0 (net direction here link w.groups w.made) (below_next n w.log older)
sync_below direction net n now w here link (Stopped stop (suc k) lost) older = partly_below n w (true || ltb 0 k) k (net direction here link w.groups w.made) (below_next n w.log older)

-- without a route it leaves all as it was
sync_still : (direction : Direction) (net : Net) (n now : ℕ) (w : World) (here link : Inst) (outcome : Outcome) → net direction here link w.groups w.made ≡ None
    → step_partly net n w (sync_act direction here now link) (applied outcome) ≡ w
unfolding step_partly step
sync_still direction net n now w here link Went none = rw none refl
sync_still direction net n now w here link (Stopped stop zero lost) none = rw none refl
sync_still direction net n now w here link (Stopped stop (suc k) lost) none = rw none refl

-- ---- as it is put out

same_left : (direction : Direction) (outcome : Outcome) (e : Effect SyncReply) (held : Held) → left spelled (under (telling_on direction) outcome e) held ≡ left spelled (under (sync_telling direction) outcome (shown Synced e)) held
same_left direction Went e held = refl
same_left Direction.Pull (Stopped stop k lost) e held = refl
same_left Direction.Push (Stopped stop k lost) e held = refl

same_fits : (direction : Direction) (outcome : Outcome) (e : Effect SyncReply) → AreReadable (under (sync_telling direction) outcome (shown Synced e)).batches → AreReadable (under (telling_on direction) outcome e).batches
same_fits direction Went e fits = fits
same_fits Direction.Pull (Stopped stop k lost) e fits = fits
same_fits Direction.Push (Stopped stop k lost) e fits = fits

none_taken : {A : Type 0} (k : ℕ) (xs : List A) → xs ≡ [] → take k xs ≡ []
none_taken zero xs none = refl
none_taken (suc k) [] none = refl
none_taken (suc k) (x ∷ xs) none = absurd cc

-- what brings no batch leaves what is held
pub none_left : (direction : Direction) (outcome : Outcome) (e : Effect SyncReply) (held : Held) → e.batches ≡ [] → left spelled (under (sync_telling direction) outcome (shown Synced e)) held ≡ held
none_left direction Went e held none = ap (λ bs. put_batches (map spelled bs) held) none
none_left direction (Stopped stop k lost) e held none = ap (λ bs. put_batches (map spelled bs) held) (none_taken k e.batches none)

module _ (law : AreSyncLaws) (hosts : List Host) (distinct : AreDistinct hosts) (line : SyncData) (lt : line.at < length hosts)
    (n : ℕ) (w : World) (old : Tables) (history : IsHistory hosts n w old) where
  abbrev peer : ℕ
  peer = place_of_peer hosts line.at line.link

  -- the place of the one that takes
  abbrev into : ℕ
  into = taker line.direction line.at peer

  abbrev here : Host
  here = host_at line.at hosts

  abbrev there : Host
  there = host_at peer hosts

  inside : peer < length hosts
  inside = peer_inside hosts line.at (link_at hosts line.at line.link) lt

  -- what is held is seen as the history shows it
  same_sync : synced_at hosts line (seen_in (held_at line.at old)) (seen_in (held_at peer old)) ≡ synced_at hosts line (seen_by hosts w line.at) (seen_by hosts w peer)
  same_sync = elim (cases_Bool (eqb peer line.at)) [
    | inl alone ↦
        synced_alone hosts line _ _ alone
        ∙ sym (synced_alone hosts line (seen_by hosts w line.at) (seen_by hosts w peer) alone)
    | inr other ↦
        synced_there hosts line _ _ other
        ∙ (law line.direction).told w here there line.link (held_at line.at old) (held_at peer old) (history.each line.at lt) (history.each peer inside)
        ∙ sym (synced_there hosts line (seen_by hosts w line.at) (seen_by hosts w peer) other)
  ]

  pub sync_told : (outcome : Outcome) → runs.output_of seen_in outcome (syncing hosts line) old ≡ (effect_of outcome (syncing hosts line) (seen_by hosts w)).reply
  sync_told outcome = ap (λ (e : Effect SyncReply). (under (sync_telling line.direction) outcome (shown Synced e)).reply) same_sync

  abbrev next : ℕ → Outcome → World
  next now outcome = step_partly (routes_of hosts) n w (sync_act line.direction here.name now line.link) (applied outcome)

  -- without another instance as its peer it leaves all as it was
  left_alone : (now : ℕ) (outcome : Outcome) → eqb peer line.at ≡ true
      → IsHistory hosts (suc n) (next now outcome) (runs.tables_after seen_in spelled outcome (syncing hosts line) old)
  left_alone now outcome alone =
      as_before hosts distinct n w old history _ _
      (sync_still line.direction (routes_of hosts) n now w here.name line.link outcome
      (route_there hosts line.direction line.at line.link w distinct lt ∙ no_route hosts line.direction line.at line.link (w.groups here.name) alone))
      (ap (slice_set old into)
      (none_left line.direction outcome (synced_at hosts line (seen_in (held_at line.at old)) (seen_in (held_at peer old))) (held_at into old)
      (ap (λ (e : Effect SyncReply). e.batches) (synced_alone hosts line _ _ alone)))
      ∙ still hosts distinct n w old history into)

  module _ (now : ℕ) (outcome : Outcome) (other : eqb peer line.at ≡ false) where
    abbrev whole : Effect SyncReply
    whole = synced_on line.direction here line.link there (seen_in (held_at line.at old)) (seen_in (held_at peer old))

    -- what is held then where it is taken
    abbrev taken : Held
    taken = left spelled (under (telling_on line.direction) outcome whole) (taker line.direction (held_at line.at old) (held_at peer old))

    routed : routes_of hosts line.direction here.name line.link w.groups w.made ≡ route_on line.direction here line.link there (w.groups here.name)
    routed = route_there hosts line.direction line.at line.link w distinct lt ∙ route_apart hosts line.direction line.at line.link (w.groups here.name) other

    into_is : host_at into hosts ≡ taker line.direction here there
    into_is = taker_of (λ place. host_at place hosts) line.direction line.at peer

    -- with another it leaves what is taken
    left_apart : AreReadable (under (telling_on line.direction) outcome whole).batches → IsHistory hosts (suc n) (next now outcome) (slice_set old into taken)
    left_apart fits =
        one_left hosts distinct n w old history into (taker_has (λ place. place < length hosts) line.direction line.at peer lt inside) (next now outcome) taken
        (subst (λ (h : Host). Keeps h.name (next now outcome) taken) (sym into_is)
        ((law line.direction).left (routes_of hosts) n now w here there line.link (held_at line.at old) (held_at peer old) outcome
        (history.each line.at lt) (history.each peer inside) routed fits))
        (λ j away.
        let apart : same_inst (taker line.direction here there).name j ≡ false = subst (λ (h : Host). same_inst h.name j ≡ false) into_is away in
        record {
          log = (law line.direction).elsewhere (routes_of hosts) n now w here there line.link j outcome routed apart;
          groups = (law line.direction).groups (routes_of hosts) n now w here there line.link j outcome routed apart;
          made = ap (λ made. made j) (none_made (routes_of hosts) n w here.name now (model.Syncs line.direction line.link) tt outcome);
        })
        (sync_below line.direction (routes_of hosts) n now w here.name line.link outcome history.earlier)

    left_other : AreReadable (effect_in seen_in outcome (syncing hosts line) old).batches
        → IsHistory hosts (suc n) (next now outcome) (runs.tables_after seen_in spelled outcome (syncing hosts line) old)
    left_other fits =
        let is = synced_there hosts line (seen_in (held_at line.at old)) (seen_in (held_at peer old)) other in
        let same_tables : slice_set old into taken ≡ runs.tables_after seen_in spelled outcome (syncing hosts line) old =
        ap (slice_set old into)
        (ap (left spelled (under (telling_on line.direction) outcome whole)) (sym (taker_of (λ place. held_at place old) line.direction line.at peer))
        ∙ same_left line.direction outcome whole (held_at into old)
        ∙ ap (λ (e : Effect SyncReply). left spelled (under (sync_telling line.direction) outcome (shown Synced e)) (held_at into old)) (sym is)) in
        subst (IsHistory hosts (suc n) (next now outcome)) same_tables
        (left_apart (same_fits line.direction outcome whole (subst (λ (e : Effect SyncReply). AreReadable (under (sync_telling line.direction) outcome (shown Synced e)).batches) is fits)))

  pub sync_left : (now : ℕ) (outcome : Outcome) → AreReadable (effect_in seen_in outcome (syncing hosts line) old).batches
      → IsHistory hosts (suc n) (next now outcome) (runs.tables_after seen_in spelled outcome (syncing hosts line) old)
  sync_left now outcome fits = elim (cases_Bool (eqb peer line.at)) [ inl alone ↦ left_alone now outcome alone | inr other ↦ left_other now outcome other fits ]
