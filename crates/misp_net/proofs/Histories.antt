-- The acts over keepers that held nothing are those of the history.
use Rattle.std.proofs.Common.{◌≡◌, ℕ, zero, suc, ◌+◌, List, [], ◌∷◌, length, map, Some, refl, sym, ◌∙◌, ap, subst, arith}
use Rattle.std.proofs.lemmas.List.{length-map}
use Rattle.misp_lists.specs.Order.{ascend}
use Rattle.misp_lists.specs.Prelude.{IsStrictlySortedBy, in_order}
use Rattle.misp_outside.specs.Held.{put_admins}
use Rattle.misp_admin_rows.specs.Rows.{item_rows, other_rows}
use Rattle.misp_effects.specs.Batches.{AreReadable}
use Rattle.misp_effects.specs.Course.{AreDone}
use Rattle.misp_effects.specs.KeeperStates.{AllReport}
use Rattle.misp_effects.specs.Run.{effect_in, outputs_of, tables_left, AreFit}
use Rattle.misp_history.specs.History.{tables, newest, newest_from}
use Rattle.misp_store.specs.Sharing.{all_groups_in, groups_in}
use Rattle.misp_sync.specs.History.{applied}
use Rattle.misp_net.specs.Prelude.{Act, AreAmong, AreDistinct, Host, KeeperState, Outcome, Output, Ran, Seen, Tables, Tell, World, held_at, meaning, nothing_held, seen_in, spelled, start, stop_in, told_output}
use Rattle.misp_net.specs.Meaning.{meanings_of}
use Rattle.misp_net.specs.Run.{output_of, tables_after}
use Rattle.misp_net.specs.Walk.{hosts_after, hosts_left}
use Rattle.misp_net.specs.Acts.{IsPlaced}
use Rattle.misp_net.specs.Hosts.{hosts_in}
use Rattle.misp_net.specs.History.{act_in, world_after, world_left, told_outputs, empty_tables, IsHistory}
use Rattle.misp_net.proofs.Commands.{output_told, act_left}
use Rattle.misp_net.proofs.SyncLaw.{AreSyncLaws}
use Rattle.misp_net.proofs.Telling.{ArePut}
use Rattle.misp_net.proofs.Tied.{history_described, history_made, made_apart, made_first, made_long, same_step, tied}
use Rattle.misp_net.proofs.Walks.{meanings_long}

empty_at : (place : ℕ) (hosts : List Host) → held_at place (empty_tables hosts) ≡ nothing_held
empty_at zero [] = refl
empty_at (suc place) [] = refl
empty_at zero (host ∷ hosts) = refl
empty_at (suc place) (host ∷ hosts) = empty_at place hosts

-- before the first line nothing is held, and there is no history
at_start : (hosts : List Host) → IsHistory hosts 0 start (empty_tables hosts)
unfolding start tables newest newest_from in_order nothing_held groups_in all_groups_in item_rows other_rows put_admins ascend IsStrictlySortedBy
at_start hosts = record {
  long = length-map hosts (λ host. nothing_held);
  each = λ place inside. rw (empty_at place hosts) (record { rows = refl; are_rows = tt; groups = refl; are_groups = tt; ascend = tt; made = refl; in_order = refl });
  earlier = refl;
}

-- tables that are told alike are the same
one_told : (tables others : Tables) → map Some tables ≡ map Some others → tables ≡ others
one_told [] [] same = refl
one_told [] (other ∷ others) same = absurd cc
one_told (held ∷ tables) [] same = absurd cc
one_told (held ∷ tables) (other ∷ others) same =
    let first : held ≡ other = cc in
    let rest : map Some tables ≡ map Some others = cc in
    ap (λ h. h ∷ tables) first ∙ ap (λ ts. other ∷ ts) (one_told tables others rest)

-- ---- one act, by the instances of its moment

module _ (puts : ArePut) (law : AreSyncLaws) (described : List Host) (distinct : AreDistinct described) (n : ℕ) (w : World) (old : Tables) (history : IsHistory described n w old) where
  -- those of the history
  abbrev moment : List Host
  moment = hosts_in described w

  history_there : IsHistory moment n w old
  history_there = history_made described w.made n w old history

  distinct_there : AreDistinct moment
  distinct_there = made_apart described w.made distinct

  placed_there : (act : Act) → IsPlaced (length described) act.deed → IsPlaced (length moment) act.deed
  placed_there act among = subst (λ count. IsPlaced count act.deed) (sym (made_long described w.made)) among

  -- the act puts out what the history says
  act_told : (outcome : Outcome) (act : Act) → IsPlaced (length described) act.deed → output_of outcome moment act old ≡ told_output outcome moment w act
  act_told outcome act among = output_told law moment distinct_there n w old history_there outcome act (placed_there act among)

  -- and the keepers hold what the history says
  act_holds : (outcome : Outcome) (act : Act) → IsPlaced (length described) act.deed → AreReadable (effect_in seen_in outcome (meaning moment act).means old).batches
      → IsHistory described (suc n) (world_after outcome n described w act) (tables_after outcome moment act old)
  act_holds outcome act among fits =
      let next : World = world_after outcome n described w act in
      let after : Tables = tables_after outcome moment act old in
      history_described described w.made (suc n) next after
      (subst (λ (v : World). IsHistory moment (suc n) v after) (sym (same_step described n w (act_in moment act) (applied outcome)))
      (act_left law moment distinct_there n w old history_there puts outcome act (placed_there act among) fits))

-- ---- all acts

module _ (puts : ArePut) (law : AreSyncLaws) (described : List Host) (distinct : AreDistinct described) where
  -- what the acts put out and leave, the first being the n-th, where these are the instances
  all_told : (n : ℕ) (w : World) (hosts : List Host) (acts : List Act) (outputs : List Output) (outcomes : List Outcome) (old : Tables) → hosts ≡ hosts_in described w
      → length outcomes ≡ length acts → AreAmong (length described) acts → IsHistory described n w old
      → outputs ≡ outputs_of seen_in spelled (meanings_of hosts acts outputs) outcomes old → AreFit seen_in spelled (meanings_of hosts acts outputs) outcomes old
      → (outputs ≡ told_outputs n described w acts outcomes)
      × IsHistory described (n + length acts) (world_left n described w acts outcomes) (tables_left seen_in spelled (meanings_of hosts acts outputs) outcomes old)
      × (hosts_left hosts acts outputs ≡ hosts_in described (world_left n described w acts outcomes))
  all_told n w hosts [] outputs outcomes old there each among history are fits =
      let same : n ≡ n + 0 = omega arith in (are, subst (λ k. IsHistory described k w old) same history, there)
  all_told n w hosts (act ∷ acts) outputs [] old there each among history are fits = absurd (omega (arith, each))
  all_told n w hosts (act ∷ acts) [] (outcome ∷ outcomes) old there each among history are fits = absurd cc
  all_told n w hosts (act ∷ acts) (output ∷ outputs) (outcome ∷ outcomes) old there each among history are fits =
      let after : Tables = tables_after outcome hosts act old in
      let next : World = world_after outcome n described w act in
      let first : output ≡ output_of outcome hosts act old = cc in
      let rest : outputs ≡ outputs_of seen_in spelled (meanings_of (hosts_after hosts act output) acts outputs) outcomes after = cc in
      let told : output ≡ told_output outcome (hosts_in described w) w act =
      first ∙ ap (λ hs. output_of outcome hs act old) there ∙ act_told puts law described distinct n w old history outcome act among.0 in
      let holds : IsHistory described (suc n) next after =
      subst (λ hs. AreReadable (effect_in seen_in outcome (meaning hs act).means old).batches → IsHistory described (suc n) next (tables_after outcome hs act old)) (sym there)
      (act_holds puts law described distinct n w old history outcome act among.0) fits.0 in
      let later : hosts_after hosts act output ≡ hosts_in described next = (λ i. hosts_after (there i) act (told i)) ∙ tied described distinct n w outcome act among.0 in
      let all = all_told (suc n) next (hosts_after hosts act output) acts outputs outcomes after later (omega (arith, each)) among.1 holds rest fits.1 in
      let count : suc n + length acts ≡ n + suc (length acts) = omega arith in (
        (λ i. told i ∷ all.0 i),
        subst (λ k. IsHistory described k (world_left (suc n) described next acts outcomes)
            (tables_left seen_in spelled (meanings_of (hosts_after hosts act output) acts outputs) outcomes after)) count all.1,
        all.2,
      )

  module _ (acts : List Act) (old new : List KeeperState) (outputs : List Output) (among : AreAmong (length described) acts) (ran : Ran described acts old new outputs)
      (empty : Tell old (empty_tables described)) (reports : AllReport new) where
    pub course : AreDone Seen Output seen_in spelled stop_in (meanings_of described acts outputs) outputs (empty_tables described) reports.0
    course =
        let was = ran.done reports.0 reports.1 in
        subst (λ tables. AreDone Seen Output seen_in spelled stop_in (meanings_of described acts outputs) outputs tables reports.0) (one_told was.0 (empty_tables described) (sym was.1 ∙ empty)) was.2

    pub each : length course.outcomes ≡ length acts
    each = course.each ∙ meanings_long described acts outputs

    history : (outputs ≡ told_outputs 0 described start acts course.outcomes)
        × IsHistory described (0 + length acts) (world_left 0 described start acts course.outcomes)
        (tables_left seen_in spelled (meanings_of described acts outputs) course.outcomes (empty_tables described))
        × (hosts_left described acts outputs ≡ hosts_in described (world_left 0 described start acts course.outcomes))
    history =
        all_told 0 start described acts outputs course.outcomes (empty_tables described) (sym (made_first described)) each among (at_start described) course.outputs_are course.fits

    -- what was put out is what the history says
    pub replied : outputs ≡ told_outputs 0 described start acts course.outcomes
    replied = history.0

    -- and what is held
    pub newest_held : IsHistory described (length acts) (world_left 0 described start acts course.outcomes) reports.0
    newest_held =
        let same : 0 + length acts ≡ length acts = omega arith in
        subst (IsHistory described (length acts) (world_left 0 described start acts course.outcomes)) (sym course.tables_are)
        (subst (λ k. IsHistory described k (world_left 0 described start acts course.outcomes)
        (tables_left seen_in spelled (meanings_of described acts outputs) course.outcomes (empty_tables described))) same history.1)

    -- and what is set up
    pub set_up : hosts_left described acts outputs ≡ hosts_in described (world_left 0 described start acts course.outcomes)
    set_up = history.2
