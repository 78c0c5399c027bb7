use Rattle.std.proofs.Common.{◌≡◌, ℕ, List, ◌++◌, length, map, take, drop, true, vec_len, Err, refl, sym, ◌∙◌, ap, subst, inl, inr, arith, length-append}
use Rattle.std.proofs.lemmas.List.{length-map}
use Rattle.misp_script.specs.Directory.{roster_names}
use Rattle.misp_script.specs.declared.description.Entry.{Entry}
use Rattle.misp_effects.specs.KeeperStates.{OneFailed}
use Rattle.misp_store.specs.Sharing.{WereSound, may_be_unsound}
use Rattle.misp_effects.proofs.KeeperStates.{all_kept}
use Rattle.misp_net.specs.Prelude.{AreKept, Description, KeeperState, Standing, acts_of, described_host, described_hosts, hosts_of, outputs_of, state_of, states_of}
use Rattle.misp_net.specs.Opening.{AreOpened, opened_states}
use Rattle.misp_net.proofs.Openings.{if_err, kept_or_opened, memory_stopped, opening_stopped, take_opened}
use Rattle.misp_net.specs.Asking.{names_of}
use Rattle.misp_net.proofs.Asking.{names_described}
use Rattle.misp_net.proofs.Privacy.{is_net_run}
use Rattle.misp_net.proofs.SyncLaw.{both_laws}
use Rattle.misp_net.proofs.Fronts.{AreInFront, opened_in_front, opened_long, run_in_front, cut_in_front, others_kept, sound_in_front}
use Rattle.misp_net.proofs.net.run_net.Goals as goal

-- the instances are before the other keepers, before and after
in_front : (net : Description) (entries : List Entry) → entries ≡ net.instances → (opened ran : List Standing) (rest olds news : List KeeperState) (count : ℕ) → count ≡ length net.instances
    → AreOpened (map described_host entries) (states_of opened) (states_of opened) (hosts_of opened)
    → AreKept (opened_states (take count olds)) (states_of opened) → rest ≡ drop count olds → length ran ≡ length opened → news ≡ states_of ran ++ rest
    → AreInFront (described_hosts net) (hosts_of opened) (states_of opened) (states_of ran) rest olds news (length net.instances)
in_front net entries same opened ran rest olds news count long hosts kept left many is = record {
  opened = subst (λ es. AreOpened (map described_host es) (states_of opened) (states_of opened) (hosts_of opened)) same hosts;
  long = opened_long opened net.instances (hosts.names ∙ ap (λ es. names_of (map described_host es)) same);
  kept = subst (λ n. AreKept (opened_states (take n olds)) (states_of opened)) long kept;
  left = subst (λ n. rest ≡ drop n olds) long left;
  still = length-map ran state_of ∙ many ∙ sym (length-map opened state_of);
  is = is;
}

pub returns-clause-ran : goal.returns-clause-ran
returns-clause-ran g c =
    let groups = c.groups_are_held_as_their_rows.ensures in
    let items = c.items_are_held_beside_the_groups.ensures in
    let pulls = c.an_instance_pulls_by_the_history.ensures in
    let pushes = c.an_instance_pushes_by_the_history.ensures in
    let front = in_front c.args.net c.into_vec.result.items c.into_vec.ensures c.in_ok-instances.instances.items c.run_lines-lines.new.instances.items (map g.K.Keeper.state c.open_all.new.keepers.items)
    (map g.K.Keeper.state c.args.keepers.now.items) (map g.K.Keeper.state c.close_all.new.keepers.items) (vec_len c.into_vec.result)
    (c.into_vec.result.ok.0 ∙ ap length c.into_vec.ensures) c.in_ok-instances.ensures.hosts
    c.in_ok-instances.ensures.opened c.in_ok-instances.ensures.rest
    (omega (arith, c.run_lines-lines.ensures.places, c.run_lines-lines.new.instances.ok.0, c.in_ok-instances.instances.ok.0)) c.close_all.ensures in
    let run = c.in_ok-lines.ensures.ran in (
      hosts_of c.in_ok-instances.instances.items,
      opened_in_front front (acts_of run.dones) (outputs_of run.dones) run.ran,
      is_net_run
          (record {
            groups = record { put = groups.put; items = groups.items; order = groups.order };
            items = record { groups = items.groups; items = items.items; order = groups.order };
          })
          (both_laws (record { told = pulls.told; left = pulls.left; elsewhere = pulls.elsewhere; groups = pulls.groups })
          (record { told = pushes.told; left = pushes.left; elsewhere = pushes.elsewhere; groups = pushes.groups })) _ _ _ _ _ _ _
          (run_in_front front (rw (← c.in_ok-directory.ensures) c.in_ok-lines.ensures.ran)),
    )

pub returns-clause-sound : goal.returns-clause-sound
returns-clause-sound g c =
    let front = in_front c.args.net c.into_vec.result.items c.into_vec.ensures c.in_ok-instances.instances.items c.run_lines-lines.new.instances.items (map g.K.Keeper.state c.open_all.new.keepers.items)
    (map g.K.Keeper.state c.args.keepers.now.items) (map g.K.Keeper.state c.close_all.new.keepers.items) (vec_len c.into_vec.result)
    (c.into_vec.result.ok.0 ∙ ap length c.into_vec.ensures) c.in_ok-instances.ensures.hosts
    c.in_ok-instances.ensures.opened c.in_ok-instances.ensures.rest
    (omega (arith, c.run_lines-lines.ensures.places, c.run_lines-lines.new.instances.ok.0, c.in_ok-instances.instances.ok.0)) c.close_all.ensures in
    let long : vec_len c.into_vec.result ≡ length c.args.net.instances = c.into_vec.result.ok.0 ∙ ap length c.into_vec.ensures in
    sound_in_front front
    (subst (λ n. WereSound (take n (map g.K.Keeper.state c.args.keepers.now.items)) (states_of c.in_ok-instances.instances.items)) long c.in_ok-instances.ensures.sound) c.in_ok-lines.ensures.ran

pub returns-clause-others : goal.returns-clause-others
returns-clause-others g c =
    let front = in_front c.args.net c.into_vec.result.items c.into_vec.ensures c.in_ok-instances.instances.items c.run_lines-lines.new.instances.items (map g.K.Keeper.state c.open_all.new.keepers.items)
    (map g.K.Keeper.state c.args.keepers.now.items) (map g.K.Keeper.state c.close_all.new.keepers.items) (vec_len c.into_vec.result)
    (c.into_vec.result.ok.0 ∙ ap length c.into_vec.ensures) c.in_ok-instances.ensures.hosts
    c.in_ok-instances.ensures.opened c.in_ok-instances.ensures.rest
    (omega (arith, c.run_lines-lines.ensures.places, c.run_lines-lines.new.instances.ok.0, c.in_ok-instances.instances.ok.0)) c.close_all.ensures in
    others_kept front

pub returns-in_err-lines-clause-others : goal.returns-in_err-lines-clause-others
returns-in_err-lines-clause-others g c =
    let front = in_front c.args.net c.into_vec.result.items c.into_vec.ensures c.in_ok-instances.instances.items c.run_lines-lines.new.instances.items (map g.K.Keeper.state c.open_all.new.keepers.items)
    (map g.K.Keeper.state c.args.keepers.now.items) (map g.K.Keeper.state c.close_all.new.keepers.items) (vec_len c.into_vec.result)
    (c.into_vec.result.ok.0 ∙ ap length c.into_vec.ensures) c.in_ok-instances.ensures.hosts
    c.in_ok-instances.ensures.opened c.in_ok-instances.ensures.rest
    (omega (arith, c.run_lines-lines.ensures.places, c.run_lines-lines.new.instances.ok.0, c.in_ok-instances.instances.ok.0)) c.close_all.ensures in
    others_kept front

pub returns-in_err-lines-clause-stopped : goal.returns-in_err-lines-clause-stopped
returns-in_err-lines-clause-stopped g c =
    let front = in_front c.args.net c.into_vec.result.items c.into_vec.ensures c.in_ok-instances.instances.items c.run_lines-lines.new.instances.items (map g.K.Keeper.state c.open_all.new.keepers.items)
    (map g.K.Keeper.state c.args.keepers.now.items) (map g.K.Keeper.state c.close_all.new.keepers.items) (vec_len c.into_vec.result)
    (c.into_vec.result.ok.0 ∙ ap length c.into_vec.ensures) c.in_ok-instances.ensures.hosts
    c.in_ok-instances.ensures.opened c.in_ok-instances.ensures.rest
    (omega (arith, c.run_lines-lines.ensures.places, c.run_lines-lines.new.instances.ok.0, c.in_ok-instances.instances.ok.0)) c.close_all.ensures in
    let cut = c.in_err-lines.ensures.cut in
    memory_stopped _ _ _ _ _ _ (inr (
      hosts_of c.in_ok-instances.instances.items,
      opened_in_front front (acts_of cut.dones) (outputs_of cut.dones) cut.ran,
      cut_in_front front (rw (← c.in_ok-directory.ensures) c.in_err-lines.ensures.cut),
    )) c.from_residual-in_err-lines.result c.from_residual-in_err-lines.ensures.1

-- ---- the directory has the names of the instances, and there are as many keepers as before

pub run_lines-lines-requires : goal.run_lines-lines-requires
run_lines-lines-requires g c =
    let names : names_of (hosts_of c.in_ok-instances.instances.items) ≡ names_of (described_hosts c.args.net) =
    c.in_ok-instances.ensures.hosts.names ∙ ap (λ entries. names_of (map described_host entries)) c.into_vec.ensures in
    ap roster_names c.in_ok-directory.ensures ∙ names_described c.args.net ∙ sym names

pub close_all-requires : goal.close_all-requires
close_all-requires g c = omega (arith, c.in_ok-instances.ensures.fewer, c.in_ok-instances.ensures.room, c.run_lines-lines.ensures.places)

pub returns-clause-places : goal.returns-clause-places
returns-clause-places g c =
    let same = ap length c.close_all.ensures in
    let ran = c.run_lines-lines.new.instances.items in
    omega (
      arith,
      same,
      length-append (states_of ran) (map g.K.Keeper.state c.open_all.new.keepers.items),
      length-map ran state_of,
      length-map c.open_all.new.keepers.items g.K.Keeper.state,
      length-map c.close_all.new.keepers.items g.K.Keeper.state,
      c.run_lines-lines.new.instances.ok.0,
      c.open_all.new.keepers.ok.0,
      c.close_all.new.keepers.ok.0,
      c.run_lines-lines.ensures.places,
      c.in_ok-instances.ensures.fewer,
    )

pub returns-in_err-lines-clause-places : goal.returns-in_err-lines-clause-places
returns-in_err-lines-clause-places g c =
    let same = ap length c.close_all.ensures in
    let ran = c.run_lines-lines.new.instances.items in
    omega (
      arith,
      same,
      length-append (states_of ran) (map g.K.Keeper.state c.open_all.new.keepers.items),
      length-map ran state_of,
      length-map c.open_all.new.keepers.items g.K.Keeper.state,
      length-map c.close_all.new.keepers.items g.K.Keeper.state,
      c.run_lines-lines.new.instances.ok.0,
      c.open_all.new.keepers.ok.0,
      c.close_all.new.keepers.ok.0,
      c.run_lines-lines.ensures.places,
      c.in_ok-instances.ensures.fewer,
    )

-- ---- the instances do not open, or memory ran out

-- what each keeper holds stays, or is that renewed
pub returns-in_err-instances-clause-kept : goal.returns-in_err-instances-clause-kept
returns-in_err-instances-clause-kept g c =
    if_err c.from_residual-in_err-instances.result (λ fault unopened. c.in_err-instances.ensures.back)

pub returns-in_err-directory-clause-stopped : goal.returns-in_err-directory-clause-stopped
returns-in_err-directory-clause-stopped g c = memory_stopped _ _ _ _ _ _ (inl (kept_or_opened _ _ (all_kept _), refl)) c.from_residual.result c.from_residual.ensures.1

pub returns-in_err-routes-clause-stopped : goal.returns-in_err-routes-clause-stopped
returns-in_err-routes-clause-stopped g c = memory_stopped _ _ _ _ _ _ (inl (kept_or_opened _ _ (all_kept _), refl)) c.from_residual-in_err-routes.result c.from_residual-in_err-routes.ensures.1

pub returns-in_err-instances-clause-stopped : goal.returns-in_err-instances-clause-stopped
returns-in_err-instances-clause-stopped g c =
    let long : vec_len c.into_vec.result ≡ length c.args.net.instances = c.into_vec.result.ok.0 ∙ ap length c.into_vec.ensures in
    let olds = map g.K.Keeper.state c.args.keepers.now.items in
    let news = map g.K.Keeper.state c.open_all.new.keepers.items in
    opening_stopped _ _ _ _ _ _ (inl (take_opened (length c.args.net.instances) _ _ c.in_err-instances.ensures.back, refl))
    c.from_residual-in_err-instances.result (Err c.in_err-instances.field-0.0) c.in_err-instances.field-0.0 refl c.from_residual-in_err-instances.ensures.1
    (λ is. subst (λ n. OneFailed (take n olds) (take n news)) long (c.in_err-instances.ensures.keeper is))
    (λ is. subst (λ n. may_be_unsound (take n news) ≡ true) long (c.in_err-instances.ensures.bad_row is))
