-- A push between two instances whose keepers hold what the history shows comes to what it comes to there, and leaves what it is to leave.
use Rattle.std.proofs.Common.{◌≡◌, ℕ, false, true, List, Option, Some, None, refl, sym, ap, ◌∙◌, if◌then◌else◌, filter}
use Rattle.misp_ids.specs.declared.label.Direction.{Direction}
use Rattle.misp_orgs.specs.Admin.{link_of, who_of}
use Rattle.misp_orgs.specs.Roles.{permits}
use Rattle.misp_orgs.specs.declared.link.Link.{Link}
use Rattle.misp_orgs.specs.declared.role.Perm.{Perm}
use Rattle.misp_outside.specs.Held.{Held, rows_of}
use Rattle.misp_effects.specs.Batches.{AreReadable}
use Rattle.misp_effects.specs.Effect.{Outcome, left, under}
use Rattle.misp_format.specs.WholeGroup.{groups_text}
use Rattle.misp_model.proofs.Prelude.{AreRows, EventId, Group, Inst, IsTable, OrgId, Row, event_of, event_rows, list_all, same_event, same_inst}
use Rattle.misp_model.specs.Permission.{no_permission}
use Rattle.misp_history.specs.Acts.{Net, World}
use Rattle.misp_history.specs.History.{tables}
use Rattle.misp_history.specs.Merging.{arrives}
use Rattle.misp_history.specs.Outcomes.{step_partly}
use Rattle.misp_store.specs.Batches.{spelled}
use Rattle.misp_store.specs.Raw.{rows_in}
use Rattle.misp_store.proofs.HeldRows.{rows_again, rows_filtered, rows_of_event}
use Rattle.misp_core.specs.Prelude.{Caller, Host, Keeps, Seen, seen_in}
use Rattle.misp_core.specs.Pulling.{carries_to}
use Rattle.misp_core.proofs.Keeping.{groups_there}
use Rattle.misp_protocol.specs.declared.cause.Cause.{Cause}
use Rattle.misp_sync.specs.History.{applied, push_act, push_route_of, seen_of}
use Rattle.misp_sync.specs.Pulled.{ends, synced as told}
use Rattle.misp_sync.specs.Pushed.{groups_carried, if_short, packages_sent, push_telling, pushed, pushed_by, pushed_over, pushed_through, rows_seen}
use Rattle.misp_client.specs.Telling.{refused_as}
use Rattle.misp_sync.proofs.Elsewhere.{groups_after, tables_after}
use Rattle.misp_sync.proofs.Events.{Tells}
use Rattle.misp_sync.proofs.Left.{left_under}
use Rattle.misp_sync.proofs.OwnRows.{event_so, taken_here}
use Rattle.misp_sync.proofs.PushComing.{Shows, pushed_with_route}
use Rattle.misp_sync.proofs.PushRoutes.{push_between, push_comes, push_under_is}
use Rattle.misp_sync.proofs.PushedByEvent.{as_owned}

-- ---- what is seen

-- the rows of an event that are held, and all rows, tell what is taken of what comes
module _ (there : Inst) (v : World) (w : OrgId) (groups : List Group) (coming : List Row) (table : IsTable coming) (owned : list_all (arrives w) coming ≡ true) (e : EventId) where
  held_event_tells : (held : Held) → Keeps there v held → Tells there w groups (tables v.log there) coming table owned (as_owned (rows_seen (seen_in held))) e
  held_event_tells held keeps = record {
    seen = event_rows e (tables v.log there);
    read = (
        ap (λ raws. rows_in (rows_of e raws)) keeps.rows
        ∙ ap rows_in (rows_of_event e (tables v.log there))
        ∙ rows_again _ (rows_filtered _ (tables v.log there) keeps.are_rows)
        );
    same = taken_here there w groups (tables v.log there) coming table owned e (λ r. same_event (event_of r.key) e) (event_so w e);
  }

  history_event_tells : Tells there w groups (tables v.log there) coming table owned (as_owned (rows_seen (seen_of v there))) e
  history_event_tells = record { seen = tables v.log there; read = refl; same = λ x m of. refl }

module _ (w : World) (here : Inst) (peer : Host) where
  held_shows : (own there : Held) → Keeps here w own → Keeps peer.name w there → Shows w here peer (seen_in own) (seen_in there)
  held_shows own there keeps peers = record {
    own_groups = groups_there here w own keeps;
    own_rows = ap rows_in keeps.rows ∙ rows_again _ keeps.are_rows;
    there_groups = groups_there peer.name w there peers;
    tells = λ o groups coming t a e. held_event_tells peer.name w o groups coming t a e there peers;
  }

  history_shows : Shows w here peer (seen_of w here) (seen_of w peer.name)
  history_shows = record { own_groups = refl; own_rows = refl; there_groups = refl; tells = λ o groups coming t a e. history_event_tells peer.name w o groups coming t a e }

-- ---- what it comes to

module _ (w : World) (here : Inst) (peer : Host) (are : AreRows (tables w.log here)) (own there own' there' : Seen) (a : Shows w here peer own there) (b : Shows w here peer own' there') where
  push_by_alike : (link : Link) (caller : Option Caller)
      → pushed_by peer caller there (groups_carried link own) (packages_sent here link own) ≡ pushed_by peer caller there' (groups_carried link own') (packages_sent here link own')
  push_by_alike link None = refl
  push_by_alike link (Some caller) =
      ap (λ e. if permits caller.role Perm.Sync then e else ends (Some (refused_as (no_permission Perm.Sync))))
      (pushed_with_route w here peer link caller.org are own there a ∙ sym (pushed_with_route w here peer link caller.org are own' there' b))

  push_through_alike : (link : Link) → pushed_through here link peer own there ≡ pushed_through here link peer own' there'
  push_through_alike link = λ i. if_short (groups_text (filter (carries_to link.push_org link.peer) ((a.own_groups ∙ sym b.own_groups) i))) (push_by_alike link (who_of peer.admin link.key) i)

  push_alike : (link : Option Link) → pushed_over here link peer own there ≡ pushed_over here link peer own' there'
  push_alike None = refl
  push_alike (Some link) = ap (λ e. if link.on then e else ends (Some Cause.LinkOff)) (push_through_alike link)

-- where what is seen is what the history shows, a push comes to what the history says
pub push_told : (w : World) (here peer : Host) (link : Inst) (own there : Held) → Keeps here.name w own → Keeps peer.name w there
    → pushed here link peer (seen_in own) (seen_in there) ≡ pushed here link peer (seen_of w here.name) (seen_of w peer.name)
unfolding pushed
push_told w here peer link own there keeps peers =
    ap told (push_alike w here.name peer keeps.are_rows (seen_in own) (seen_in there) (seen_of w here.name) (seen_of w peer.name)
    (held_shows w here.name peer own there keeps peers) (history_shows w here.name peer) (link_of here.admin.links link))

-- ---- what it leaves

-- the keeper of the peer holds what it is to hold after the act, whatever stopped it
pub push_left : (net : Net) (n now : ℕ) (w : World) (here peer : Host) (link : Inst) (own there : Held) (outcome : Outcome) → Keeps here.name w own → Keeps peer.name w there
    → net Direction.Push here.name link w.groups w.made ≡ push_route_of here link peer (w.groups here.name) → AreReadable (under push_telling outcome (pushed here link peer (seen_in own) (seen_in there))).batches
    → Keeps peer.name (step_partly net n w (push_act here.name now link) (applied outcome)) (left spelled (under push_telling outcome (pushed here link peer (seen_in own) (seen_in there))) there)
unfolding pushed
push_left net n now w here peer link own there outcome keeps peers e =
    let found : Option Link = link_of here.admin.links link in
    left_under net n now w Direction.Push here.name link peer.name here.name there outcome (push_route_of here link peer (w.groups here.name))
    (pushed_over here.name found peer (seen_in own) (seen_in there)).batches (under push_telling outcome (pushed here link peer (seen_in own) (seen_in there))).batches peers keeps.are_rows e
    (push_between here.name peer found (w.groups here.name))
    (push_comes here.name peer w keeps.are_rows (seen_in own) (seen_in there) (held_shows w here.name peer own there keeps peers) found)
    (push_under_is outcome (pushed here link peer (seen_in own) (seen_in there)))

module _ (net : Net) (n now : ℕ) (w : World) (here peer : Host) (link j : Inst) (outcome : Outcome)
    (e : net Direction.Push here.name link w.groups w.made ≡ push_route_of here link peer (w.groups here.name)) (apart : same_inst peer.name j ≡ false) where
  -- no tables of another instance change
  pub push_tables : tables (step_partly net n w (push_act here.name now link) (applied outcome)).log j ≡ tables w.log j
  push_tables =
      tables_after net n now w Direction.Push here.name link peer.name here.name j outcome (push_route_of here link peer (w.groups here.name)) e
      (push_between here.name peer (link_of here.admin.links link) (w.groups here.name)) apart

  -- and no groups
  pub push_groups : (step_partly net n w (push_act here.name now link) (applied outcome)).groups j ≡ w.groups j
  push_groups =
      groups_after net n now w Direction.Push here.name link peer.name here.name j outcome (push_route_of here link peer (w.groups here.name)) e
      (push_between here.name peer (link_of here.admin.links link) (w.groups here.name)) apart
