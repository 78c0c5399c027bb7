-- A synchronisation changes no other instance.
use Rattle.std.proofs.Common.{◌≡◌, ℕ, zero, suc, true, false, Option, Some, None, refl, ap, ◌∙◌}
use Rattle.misp_ids.specs.declared.label.Direction.{Direction}
use Rattle.misp_orgs.specs.Admin.{link_of}
use Rattle.misp_effects.specs.Effect.{Outcome, Stopped, Went}
use Rattle.misp_model.proofs.Prelude.{Inst, same_inst}
use Rattle.misp_history.specs.Acts.{Net, World, synced, synced_groups}
use Rattle.misp_history.specs.History.{tables}
use Rattle.misp_history.specs.Outcomes.{step_partly, synced_partly}
use Rattle.misp_history.specs.Passing.{Route}
use Rattle.misp_history.proofs.Merging.{stopped_elsewhere, synced_elsewhere}
use Rattle.misp_history.proofs.Steps.{with_groups_elsewhere}
use Rattle.misp_core.specs.Prelude.{Host}
use Rattle.misp_core.proofs.KeepingGroups.{same_apart}
use Rattle.misp_sync.specs.History.{applied, pull_act, route_of, sync_act}
use Rattle.misp_sync.proofs.Routes.{IsBetween, between_over, world_by, world_is, world_none}

module _ (w : World) (here peer j : Inst) (apart : same_inst here j ≡ false) where
  tables_by : (outcome : Outcome) (o : Option Route) → IsBetween here peer o → tables (world_by w outcome o).log j ≡ tables w.log j
  tables_by outcome None h = ap (λ (v : World). tables v.log j) (world_none w outcome)
  tables_by Went (Some r) h = synced_elsewhere w r j (ap (λ i. same_inst i j) h.0 ∙ apart)
  tables_by (Stopped stop zero lost) (Some r) h = stopped_elsewhere 0 w r false j (ap (λ i. same_inst i j) h.0 ∙ apart)
  tables_by (Stopped stop (suc p) lost) (Some r) h = stopped_elsewhere p w r true j (ap (λ i. same_inst i j) h.0 ∙ apart)

  groups_by : (outcome : Outcome) (o : Option Route) → IsBetween here peer o → (world_by w outcome o).groups j ≡ w.groups j
  unfolding synced synced_partly synced_groups
  groups_by outcome None h = ap (λ (v : World). v.groups j) (world_none w outcome)
  groups_by Went (Some r) h = with_groups_elsewhere w.groups r.into j _ (same_apart r.into j (ap (λ i. same_inst i j) h.0 ∙ apart))
  groups_by (Stopped stop zero lost) (Some r) h = refl
  groups_by (Stopped stop (suc p) lost) (Some r) h = with_groups_elsewhere w.groups r.into j _ (same_apart r.into j (ap (λ i. same_inst i j) h.0 ∙ apart))

module _ (w : World) where
  made_by : (outcome : Outcome) (o : Option Route) → (world_by w outcome o).made ≡ w.made
  unfolding synced synced_partly
  made_by outcome None = ap (λ (v : World). v.made) (world_none w outcome)
  made_by Went (Some r) = refl
  made_by (Stopped stop zero lost) (Some r) = refl
  made_by (Stopped stop (suc p) lost) (Some r) = refl

  -- what was made of administrations stays
  pub made_after : (net : Net) (n now : ℕ) (direction : Direction) (here link : Inst) (outcome : Outcome) → (step_partly net n w (sync_act direction here now link) (applied outcome)).made ≡ w.made
  made_after net n now direction here link outcome =
      ap (λ (v : World). v.made) (world_is net n now w direction here link outcome (net direction here link w.groups w.made) refl) ∙ made_by outcome (net direction here link w.groups w.made)

-- no tables and no groups change but of the instance that it goes into
module _ (net : Net) (n now : ℕ) (w : World) (direction : Direction) (here link into from j : Inst) (outcome : Outcome) (o : Option Route)
    (e : net direction here link w.groups w.made ≡ o) (between : IsBetween into from o) (apart : same_inst into j ≡ false) where
  pub tables_after : tables (step_partly net n w (sync_act direction here now link) (applied outcome)).log j ≡ tables w.log j
  tables_after = ap (λ (v : World). tables v.log j) (world_is net n now w direction here link outcome o e) ∙ tables_by w into from j apart outcome o between

  pub groups_after : (step_partly net n w (sync_act direction here now link) (applied outcome)).groups j ≡ w.groups j
  groups_after = ap (λ (v : World). v.groups j) (world_is net n now w direction here link outcome o e) ∙ groups_by w into from j apart outcome o between

-- of a pull
module _ (net : Net) (n now : ℕ) (w : World) (here peer : Host) (link j : Inst) (outcome : Outcome)
    (e : net Direction.Pull here.name link w.groups w.made ≡ route_of here link peer) (apart : same_inst here.name j ≡ false) where
  pub tables_elsewhere : tables (step_partly net n w (pull_act here.name now link) (applied outcome)).log j ≡ tables w.log j
  tables_elsewhere = tables_after net n now w Direction.Pull here.name link here.name peer.name j outcome (route_of here link peer) e (between_over here.name peer (link_of here.admin.links link)) apart

  pub groups_elsewhere : (step_partly net n w (pull_act here.name now link) (applied outcome)).groups j ≡ w.groups j
  groups_elsewhere = groups_after net n now w Direction.Pull here.name link here.name peer.name j outcome (route_of here link peer) e (between_over here.name peer (link_of here.admin.links link)) apart
