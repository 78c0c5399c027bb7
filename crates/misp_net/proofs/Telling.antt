-- A request, and a line of a group, over keepers that hold the tables of the history.
use Rattle.std.proofs.Common.{◌≡◌, ℕ, zero, suc, ◌<◌, Bool, true, false, List, [], map, length, Option, Some, None, Ok, Err, refl, sym, ◌∙◌, ap, subst, inl, inr, length-set, get_or-set_same, get_or-set_other, ltb, slice_set}
use Rattle.std.proofs.lemmas.Bool.{cases_eq}
use Rattle.std.proofs.lemmas.List.{set-get_or}
use Rattle.misp_admins.specs.Asks.{item_of, why_not}
use Rattle.misp_admins.specs.declared.item.Item.{Item}
use Rattle.misp_history.specs.Acts.{Net}
use Rattle.misp_history.specs.Outcomes.{Whole, step_partly}
use Rattle.misp_history.proofs.Steps.{step_nothing, step_misfit}
use Rattle.misp_history.proofs.Numbered.{step_below}
use Rattle.misp_store.specs.Sharing.{or_none}
use Rattle.misp_core.specs.Prelude.{Admin, AreReadable, Caller, Effect, Group, Held, Host, Inst, Keeps, Stamp, World, groups_of, left, list_all, put_batches, same_inst, seen_in, spelled, step, tables, RuleName}
use Rattle.misp_core.specs.Administering.{administered}
use Rattle.misp_core.specs.HandedGroups.{act_handing, groups_put}
use Rattle.misp_core.specs.Taking.{groups_taken}
use Rattle.misp_core.specs.Keeping.{act_at, act_of, caller_at}
use Rattle.misp_core.specs.Managing.{act_making, managed_by}
use Rattle.misp_core.proofs.AdminPut.{PutsGroups, PutsItems}
use Rattle.misp_core.proofs.Keeping.{admin_there, keeps_by, over_all, same_elsewhere, same_groups, left_there}
use Rattle.misp_core.proofs.HandedGroups.{groups_apart, handed_left, log_stays, permitted_handed}
use Rattle.misp_core.proofs.KeepingGroups.{administered_left, same_log, groups_elsewhere}
use Rattle.misp_api.specs.Commands.{AsksBuilt}
use Rattle.misp_api.specs.Prelude.{Commanded, Reading, command_effect, is_allowed, replied}
use Rattle.misp_api.specs.declared.command.Command.{Command}
use Rattle.misp_api.proofs.Forms.{AllowedForm, BuiltForm}
use Rattle.misp_net.specs.Prelude.{AreDistinct, GroupData, OrgId, Reply, Stop, Stopped, Tables, grouped, held_at, host_at, nothing_held}
use Rattle.misp_net.specs.Links.{routes_of}
use Rattle.misp_net.specs.Meaning.{asking, administering, command_at, making}
use Rattle.misp_sync.specs.History.{applied}
use Rattle.misp_net.specs.History.{seen_by, IsHistory}
use Rattle.misp_net.proofs.AllSeen.{over_seen}
use Rattle.misp_net.proofs.Made.{step_makes}
use Rattle.misp_net.proofs.Tied.{names_apart}
use Rattle.misp_core.proofs.Managed as managed
use Rattle.misp_history.specs.Acts as model
use Rattle.misp_history.specs.Outcomes as parts

-- ---- the model's step

pub world_whole : (net : Net) (n : ℕ) (w : World) (act : model.Act) → step_partly net n w act Whole ≡ step net n w act
unfolding step_partly
world_whole net n w act = refl

-- a request on a group does what a line of it does
shared_step : (net : Net) (n : ℕ) (w : World) (here : Inst) (now : Stamp) (c : model.Caller) (add : Bool) (g : Group)
    → step net n w (record { at = here; now = now; command = model.Shares c add g }) ≡ step net n w (act_of here now c.org add g)
unfolding step
shared_step net n w here now c add g = refl

-- it is no synchronisation
abbrev pub IsLocal : model.Command → Type 0
IsLocal (model.Syncs direction link) = ⊥
IsLocal command = Unit {0}

command_still : (net : Net) (n : ℕ) (w : World) (at : Inst) (now : Stamp) (command : model.Command) (groups : Bool) (packages : ℕ) → IsLocal command
    → step_partly net n w (record { at = at; now = now; command = command }) (parts.Stopped groups packages) ≡ w
unfolding step_partly
command_still net n w at now (model.Asks c a) groups packages local = refl
command_still net n w at now (model.Misfits c) groups packages local = refl
command_still net n w at now (model.Syncs direction link) groups packages local = absurd local
command_still net n w at now (model.Takes_groups c gs) groups packages local = refl
command_still net n w at now (model.Administers o add g) groups packages local = refl
command_still net n w at now (model.Shares c add g) groups packages local = refl
command_still net n w at now (model.Makes c item) groups packages local = refl
command_still net n w at now model.Nothing groups packages local = refl

-- of an act that is no synchronisation, and was stopped, nothing is applied
pub world_still : (net : Net) (n : ℕ) (w : World) (act : model.Act) → IsLocal act.command → (stop : Stop) (k : ℕ) (lost : Bool) → step_partly net n w act (applied (Stopped stop k lost)) ≡ w
world_still net n w act local stop zero lost = command_still net n w act.at act.now act.command false 0 local
world_still net n w act local stop (suc k) lost = command_still net n w act.at act.now act.command true k local

-- ---- what is held

-- what the laws of the store say of groups and items that are put
pub record ArePut : Type 0 where
  pub groups : PutsGroups
  pub items : PutsItems

-- between two states no tables and no groups of an instance changed, and nothing was made there
pub record IsSameAt (w next : World) (j : Inst) : Type 0 where
  pub log : tables next.log j ≡ tables w.log j
  pub groups : next.groups j ≡ w.groups j
  pub made : next.made j ≡ w.made j

module _ (hosts : List Host) (distinct : AreDistinct hosts) (n : ℕ) (w : World) (old : Tables) (told : IsHistory hosts n w old) where
  -- the groups that are held there are those of the history
  pub groups_there : (at : ℕ) → at < length hosts → groups_of (held_at at old) ≡ w.groups (host_at at hosts).name
  groups_there at lt = ap or_none (told.each at lt).groups

  -- ---- what is put out

  command_told : (at now : ℕ) (caller : Caller) (command : Command) → AsksBuilt command → at < length hosts
      → (command_effect (host_at at hosts) now caller command (seen_in (held_at at old))).reply ≡ (command_effect (host_at at hosts) now caller command (seen_by hosts w at)).reply
  command_told at now caller (Command.Asks ask) built lt =
      ap (λ (e : Effect Reply). e.reply)
      (over_all w (host_at at hosts) now (caller, ask) (held_at at old) built (told.each at lt) ∙ sym (over_seen hosts w at now caller ask))
  command_told at now caller (Command.TakesGroups coming) built lt = ap (λ groups. (groups_put (groups_taken groups coming)).reply) (groups_there at lt)
  command_told at now caller (Command.Shares add g) built lt = ap (λ groups. (administered now caller.org add g groups).reply) (groups_there at lt)
  command_told at now caller (Command.Manages ask) built lt = refl

  pub request_told : (at now : ℕ) (form : Reading Commanded) → BuiltForm form → at < length hosts
      → (replied (host_at at hosts) now form (seen_in (held_at at old))).reply ≡ (replied (host_at at hosts) now form (seen_by hosts w at)).reply
  request_told at now (Ok it) built lt = command_told at now it.0 it.1 built lt
  request_told at now (Err refusal) built lt = refl

  -- ---- what is left

  abbrev no_command : model.Act
  no_command = record { at = []; now = 0; command = model.Nothing }

  later : IsHistory hosts (suc n) w old
  later = record {
    long = told.long;
    each = told.each;
    earlier =
        subst (λ (v : World). list_all (λ u. ltb u.act (suc n)) v.log ≡ true) (step_nothing (routes_of hosts) n w no_command refl)
        (step_below (routes_of hosts) n w no_command told.earlier);
  }

  pub as_before : (v : World) (new : Tables) → v ≡ w → new ≡ old → IsHistory hosts (suc n) v new
  as_before v new world is = subst (λ v. IsHistory hosts (suc n) v new) (sym world) (subst (λ t. IsHistory hosts (suc n) w t) (sym is) later)

  pub still : (at : ℕ) → slice_set old at (held_at at old) ≡ old
  still at = set-get_or old at nothing_held

  -- where one keeper holds what its instance has after an act, and the others have what they had
  module _ (at : ℕ) (lt : at < length hosts) (next : World) (left : Held) (here : Keeps (host_at at hosts).name next left)
      (elsewhere : (j : Inst) → same_inst (host_at at hosts).name j ≡ false → IsSameAt w next j)
      (earlier : list_all (λ v. ltb v.act (suc n)) next.log ≡ true) where
    each_left : (place : ℕ) → place < length hosts → Keeps (host_at place hosts).name next (held_at place (slice_set old at left))
    each_left place inside = elim (cases_eq place at) [
      | inl same ↦
          subst (λ p. Keeps (host_at p hosts).name next (held_at p (slice_set old at left))) (sym same)
          (subst (λ held. Keeps (host_at at hosts).name next held) (sym (get_or-set_same old at left nothing_held (rw told.long lt))) here)
      | inr other ↦
          let same = elsewhere (host_at place hosts).name (names_apart hosts distinct at place lt inside (λ is. other (sym is))) in
          let was = told.each place inside in
          subst (λ held. Keeps (host_at place hosts).name next held) (sym (get_or-set_other old at place left nothing_held other))
          (keeps_by (host_at place hosts).name next (held_at place old) _ _ _ same.log same.groups same.made was.rows was.are_rows (admin_there (host_at place hosts).name w (held_at place old) was)
          was.are_groups was.ascend)
    ]

    pub one_left : IsHistory hosts (suc n) next (slice_set old at left)
    one_left = record {
      long = length-set old at left ∙ told.long;
      each = each_left;
      earlier = earlier;
    }

  -- where groups and items that are put are held as such
  module _ (puts : ArePut) where
    -- a group that is added or edited
    group_put : (at now : ℕ) (by : OrgId) (add : Bool) (g : Group) → at < length hosts → AreReadable (administered now by add g (groups_of (held_at at old))).batches
        → IsHistory hosts (suc n) (step (routes_of hosts) n w (act_of (host_at at hosts).name now by add g))
        (slice_set old at (put_batches (map spelled (administered now by add g (groups_of (held_at at old))).batches) (held_at at old)))
    group_put at now by add g lt fits =
        let here : Inst = (host_at at hosts).name in
        let held : Held = held_at at old in
        one_left at lt (step (routes_of hosts) n w (act_of here now by add g)) _
        (administered_left (routes_of hosts) n here w now by add g puts.groups held (told.each at lt) fits)
        (λ j other. record {
          log = ap (λ log. tables log j) (same_log (routes_of hosts) n here w now by add g);
          groups = groups_elsewhere (routes_of hosts) n here w now by add g j other;
          made = ap (λ made. made j) (step_makes (routes_of hosts) n w here now (model.Administers by add g) tt);
        })
        (step_below (routes_of hosts) n w (act_of here now by add g) told.earlier)

    -- what a site administrator asks, by what is against it and what it makes
    managed_left : (at now : ℕ) (caller : Caller) (why : Option RuleName) (item : Option Item) → at < length hosts → AreReadable (managed_by why item).batches
        → IsHistory hosts (suc n) (step (routes_of hosts) n w (record { at = (host_at at hosts).name; now = now; command = making (caller_at (host_at at hosts).admin caller) why item }))
        (slice_set old at (put_batches (map spelled (managed_by why item).batches) (held_at at old)))
    managed_left at now caller None (Some item) lt fits =
        let host : Host = host_at at hosts in
        one_left at lt (step (routes_of hosts) n w (act_making host now caller item)) _
        (managed.making_left (routes_of hosts) n w host now caller item puts.items (held_at at old) fits.0.items.0 (told.each at lt))
        (λ j other. record {
          log = ap (λ log. tables log j) (managed.same_log (routes_of hosts) n w host now caller item);
          groups = ap (λ groups. groups j) (managed.same_groups (routes_of hosts) n w host now caller item);
          made = managed.made_elsewhere (routes_of hosts) n w host now caller item j other;
        })
        (step_below (routes_of hosts) n w (act_making host now caller item) told.earlier)
    managed_left at now caller None None lt fits = as_before _ _ (step_misfit (routes_of hosts) n w _ _ refl) (still at)
    managed_left at now caller (Some rule) None lt fits = as_before _ _ (step_misfit (routes_of hosts) n w _ _ refl) (still at)
    managed_left at now caller (Some rule) (Some item) lt fits = as_before _ _ (step_misfit (routes_of hosts) n w _ _ refl) (still at)

    -- a command that is permitted
    command_left : (at now : ℕ) (caller : Caller) (command : Command) → AsksBuilt command → is_allowed (caller, command) ≡ true → at < length hosts
        → AreReadable (command_effect (host_at at hosts) now caller command (seen_in (held_at at old))).batches
        → IsHistory hosts (suc n) (step (routes_of hosts) n w (record { at = (host_at at hosts).name; now = now; command = command_at (host_at at hosts) caller command }))
        (slice_set old at (put_batches (map spelled (command_effect (host_at at hosts) now caller command (seen_in (held_at at old))).batches) (held_at at old)))
    command_left at now caller (Command.Asks ask) built may lt fits =
        let host : Host = host_at at hosts in
        one_left at lt (step (routes_of hosts) n w (act_at host now (caller, ask))) _
        (left_there (routes_of hosts) n w host now (caller, ask) (held_at at old) built told.earlier (told.each at lt) fits)
        (λ j other. record {
          log = same_elsewhere (routes_of hosts) n w host now (caller, ask) j other;
          groups = ap (λ groups. groups j) (same_groups (routes_of hosts) n w host now (caller, ask));
          made = ap (λ made. made j) (step_makes (routes_of hosts) n w host.name now (model.Asks (caller_at host.admin caller) ask) tt);
        })
        (step_below (routes_of hosts) n w (act_at host now (caller, ask)) told.earlier)
    command_left at now caller (Command.TakesGroups coming) built may lt fits =
        let host : Host = host_at at hosts in
        let held : Held = held_at at old in
        let next : World = step (routes_of hosts) n w (act_handing host now caller coming) in
        one_left at lt next _
        (subst (λ (e : Effect Reply). AreReadable e.batches → Keeps host.name next (left spelled e held)) (permitted_handed caller coming (groups_of held) may)
        (handed_left (routes_of hosts) n w host now caller coming puts.groups held may (told.each at lt)) fits)
        (λ j other. record {
          log = ap (λ log. tables log j) (log_stays (routes_of hosts) n w host now caller coming);
          groups = groups_apart (routes_of hosts) n w host now caller coming j other;
          made = ap (λ made. made j) (step_makes (routes_of hosts) n w host.name now (model.Takes_groups (caller_at host.admin caller) coming) tt);
        })
        (step_below (routes_of hosts) n w (act_handing host now caller coming) told.earlier)
    command_left at now caller (Command.Shares add g) built may lt fits =
        let host : Host = host_at at hosts in
        let held : Held = held_at at old in
        let same : step (routes_of hosts) n w (record { at = host.name; now = now; command = model.Shares (caller_at host.admin caller) add g })
        ≡ step (routes_of hosts) n w (act_of host.name now caller.org add g) = shared_step (routes_of hosts) n w host.name now (caller_at host.admin caller) add g in
        subst (λ (v : World). IsHistory hosts (suc n) v (slice_set old at (put_batches (map spelled (administered now caller.org add g (groups_of held)).batches) held))) (sym same)
        (group_put at now caller.org add g lt fits)
    command_left at now caller (Command.Manages ask) built may lt fits =
        let admin : Admin = (host_at at hosts).admin in managed_left at now caller (why_not admin ask) (item_of admin ask) lt fits

    -- a request
    pub request_left : (at now : ℕ) (form : Reading Commanded) (caller : Option Caller) → BuiltForm form → AllowedForm form → at < length hosts
        → AreReadable (replied (host_at at hosts) now form (seen_in (held_at at old))).batches
        → IsHistory hosts (suc n) (step (routes_of hosts) n w (record { at = (host_at at hosts).name; now = now; command = asking form (host_at at hosts) caller }))
        (slice_set old at (put_batches (map spelled (replied (host_at at hosts) now form (seen_in (held_at at old))).batches) (held_at at old)))
    request_left at now (Ok it) caller built may lt fits = command_left at now it.0 it.1 built may lt fits
    request_left at now (Err refusal) None built may lt fits = as_before _ _ (step_nothing (routes_of hosts) n w _ refl) (still at)
    request_left at now (Err refusal) (Some caller) built may lt fits = as_before _ _ (step_misfit (routes_of hosts) n w _ _ refl) (still at)

    -- a line of a group
    pub group_left : (now : ℕ) (line : GroupData) (form : Reading Group) → line.at < length hosts
        → AreReadable (grouped now line.org line.add form (groups_of (held_at line.at old))).batches
        → IsHistory hosts (suc n) (step (routes_of hosts) n w (record { at = (host_at line.at hosts).name; now = now; command = administering form line }))
        (slice_set old line.at (put_batches (map spelled (grouped now line.org line.add form (groups_of (held_at line.at old))).batches) (held_at line.at old)))
    group_left now line (Ok g) lt fits = group_put line.at now line.org line.add g lt fits
    group_left now line (Err refusal) lt fits = as_before _ _ (step_nothing (routes_of hosts) n w _ refl) (still line.at)
