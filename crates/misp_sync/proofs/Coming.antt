-- What a pull comes to, where what is seen is what the history shows.
use Rattle.std.proofs.Common.{◌≡◌, ℕ, true, List, [], ◌∷◌, Option, Some, None, Ok, refl, sym, ap, ◌∙◌, filter, length, map}
use Rattle.misp_lists.specs.Order.{in_order}
use Rattle.misp_groups.specs.Audience.{carries}
use Rattle.misp_groups.specs.Changes.{take_groups}
use Rattle.misp_effects.specs.Batches.{Batch, batch}
use Rattle.misp_effects.specs.Effect.{behind, effect}
use Rattle.misp_format.specs.WholeGroup.{uncarried}
use Rattle.misp_model.specs.Package.{nobody}
use Rattle.misp_model.specs.Packing.{is_own, packages}
use Rattle.misp_model.specs.Pulling.{pulled_events, pulled_groups, pulled_packages, pulled_rows}
use Rattle.misp_model.proofs.Prelude.{AreRows, EventId, Group, Inst, IsTable, OrgId, Row, Scene, event_of, event_rows, list_all, same_org, seeing, stands_before}
use Rattle.misp_history.specs.Acts.{World, known_at, scene, synced_groups}
use Rattle.misp_history.specs.Answered.{PullsBy}
use Rattle.misp_history.specs.History.{tables}
use Rattle.misp_history.specs.Merging.{arrives, handed}
use Rattle.misp_history.specs.Outcomes.{arriving, takes}
use Rattle.misp_model.specs.Scene.{Partner}
use Rattle.misp_history.specs.Passing.{Route}
use Rattle.misp_history.proofs.Pulled.{pulled_is}
use Rattle.misp_history.proofs.Steps.{with_groups_here}
use Rattle.misp_store.specs.declared.reach.Reach.{Reach}
use Rattle.misp_core.specs.Keeping.{act_at, caller_at}
use Rattle.misp_core.specs.Partners.{partner_of}
use Rattle.misp_core.specs.Prelude.{Ask, Caller, Host, Seen, scene_at}
use Rattle.misp_core.specs.Taking.{groups_taken}
use Rattle.misp_core.proofs.Pulled.{pulled_nobodys, pulled_none}
use Rattle.misp_sync.specs.History.{pull_route, route_for}
use Rattle.misp_sync.specs.Pulled.{all_pulled, events_sent, events_taken, groups_sent, with_packages}
use Rattle.misp_history.proofs.Bringing.{owned, parts, table}
use Rattle.misp_sync.proofs.Events.{Tells, events_are}
use Rattle.misp_sync.proofs.GroupsTaken.{taken_uncarried}
use Rattle.misp_history.proofs.Handed.{arriving_handed}
use Rattle.misp_sync.proofs.Listed.{events_listed, sent_handed}
use Rattle.misp_sync.proofs.Parts.{as_batches}

-- what is seen here and at a peer is what the history shows there, as far as it is looked at
pub record Sees (w : World) (here : Inst) (peer : Host) (own there : Seen) : Type 0 where
  pub own_groups : own.groups ≡ w.groups here
  pub there_groups : there.groups ≡ w.groups peer.name
  pub there_rows : there.rows Reach.All ≡ Ok (tables w.log peer.name)
  pub tells : (o : OrgId) (groups : List Group) (coming : List Row) (t : IsTable coming) (a : list_all (arrives o) coming ≡ true) (e : EventId)
      → Tells here o groups (tables w.log here) coming t a own e

-- the groups that carry on a route
abbrev pub carried_by : World → Route → List Group
carried_by w r = filter (λ g. carries g r.«for» r.dest) (w.groups r.from)

-- the batches of a synchronisation on a route: one of its groups, and one of each package that
-- brings a row; without a route there is one that has nothing
abbrev pub batches_by : World → Option Route → List Batch
batches_by w None = batch [] [] ∷ []
batches_by w (Some r) =
    batch [] (groups_taken (w.groups r.into) (map uncarried (carried_by w r))) ∷ as_batches (parts (takes w r (synced_groups w.groups r r.into)) [] (packages (arriving w r)))

-- the groups after it
pub groups_after : (w : World) (r : Route) → synced_groups w.groups r r.into ≡ take_groups (w.groups r.into) (carried_by w r)
unfolding synced_groups
groups_after w r = with_groups_here w.groups r.into (take_groups (w.groups r.into) (carried_by w r))

module _ (w : World) (peer : Host) (caller : Caller) where
  -- what the peer answers from
  abbrev there_scene : Scene
  there_scene = seeing (scene_at peer 0 caller (w.groups peer.name)) (tables w.log peer.name)

  -- the rows of an event that it sends
  abbrev sent : EventId → List (List Row)
  sent e = pulled_packages there_scene e

  abbrev comes : List Row
  comes = pulled_rows there_scene

  comes_nobodys : list_all (λ row. same_org row.owner nobody) comes ≡ true
  comes_nobodys = pulled_nobodys (scene_at peer 0 caller (w.groups peer.name)) (tables w.log peer.name)

  module _ (here : Inst) (holder : OrgId) (dest : Partner) (partner : partner_of caller ≡ Some dest) where
    abbrev route : Route
    route = pull_route here holder peer caller.org dest

    pulls : PullsBy route (scene 0 w (act_at peer 0 (caller, Ask.SyncEvents)) (caller_at peer.admin caller))
    unfolding scene
    pulls = record { at = refl; by = refl; partner = partner }

    groups_there : groups_sent peer caller (w.groups peer.name) ≡ map uncarried (carried_by w route)
    unfolding pulled_groups
    groups_there = ap (map uncarried) (λ i. elim (partner i) as (λ x. List Group) [ None ↦ [] | Some p ↦ filter (λ g. carries g caller.org p.inst) (w.groups peer.name) ])

    comes_handed : map (handed holder) comes ≡ arriving w route
    unfolding scene known_at arriving
    comes_handed =
        ap (map (handed holder)) (pulled_is 0 w (act_at peer 0 (caller, Ask.SyncEvents)) (caller_at peer.admin caller) route pulls)
        ∙ arriving_handed (tables w.log peer.name) (w.groups peer.name) route

    sent_is : (e : EventId) → map (map (handed holder)) (sent e) ≡ packages (event_rows e (arriving w route))
    sent_is e = sent_handed there_scene holder (arriving w route) comes_nobodys comes_handed e

    listed_is : with_packages there_scene ≡ map (λ x. (event_of x.key, sent (event_of x.key))) (filter is_own (in_order stands_before (arriving w route)))
    listed_is = events_listed there_scene holder (arriving w route) comes_nobodys comes_handed

    module _ (own there : Seen) (sees : Sees w here peer own there) (are : AreRows (tables w.log peer.name)) where
      groups_then : take_groups own.groups (map uncarried (carried_by w route)) ≡ synced_groups w.groups route here
      groups_then = ap (λ gs. take_groups gs (map uncarried (carried_by w route))) sees.own_groups ∙ taken_uncarried (w.groups here) (carried_by w route) ∙ sym (groups_after w route)

      events_come : events_taken here holder (synced_groups w.groups route here) own (map (λ x. (event_of x.key, sent (event_of x.key))) (filter is_own (in_order stands_before (arriving w route))))
          ≡ effect None (as_batches (parts (takes w route (synced_groups w.groups route here)) [] (packages (arriving w route))))
      unfolding takes
      events_come =
          events_are here holder (synced_groups w.groups route here) (tables w.log here) (arriving w route) (table w route are) (owned w route are) sent sent_is own
          (sees.tells holder (synced_groups w.groups route here) (arriving w route) (table w route are) (owned w route are))

      pub pulled_with : all_pulled here holder own (groups_sent peer caller there.groups) (events_sent peer caller there.groups (there.rows Reach.All)) ≡ effect None (batches_by w (Some route))
      pulled_with =
          (λ i. all_pulled here holder own (groups_sent peer caller (sees.there_groups i)) (events_sent peer caller (sees.there_groups i) (sees.there_rows i)))
          ∙ (λ i. all_pulled here holder own (groups_there i) (Ok (listed_is i)))
          ∙ (λ i.
          behind (batch [] (groups_taken (sees.own_groups i) (map uncarried (carried_by w route))))
          (events_taken here holder (groups_then i) own (map (λ x. (event_of x.key, sent (event_of x.key))) (filter is_own (in_order stands_before (arriving w route))))))
          ∙ ap (behind (batch [] (groups_taken (w.groups here) (map uncarried (carried_by w route))))) events_come

  module _ (here : Inst) (holder : OrgId) (own there : Seen) (sees : Sees w here peer own there) (none : partner_of caller ≡ None) where
    no_groups : groups_sent peer caller (w.groups peer.name) ≡ []
    unfolding pulled_groups
    no_groups = ap (map uncarried) (λ i. elim (none i) as (λ x. List Group) [ None ↦ [] | Some p ↦ filter (λ g. carries g caller.org p.inst) (w.groups peer.name) ])

    no_events : with_packages there_scene ≡ []
    unfolding pulled_events in_order
    no_events =
        ap (λ rows. map (λ (e : EventId × ℕ). (e.0, sent e.0)) (map (λ row. (event_of row.key, length (sent (event_of row.key)))) (filter is_own (in_order stands_before rows))))
        (pulled_none (scene_at peer 0 caller (w.groups peer.name)) none (tables w.log peer.name))

    pub pulled_without : all_pulled here holder own (groups_sent peer caller there.groups) (events_sent peer caller there.groups (there.rows Reach.All)) ≡ effect None (batches_by w None)
    unfolding groups_taken events_taken
    pulled_without =
        (λ i. all_pulled here holder own (groups_sent peer caller (sees.there_groups i)) (events_sent peer caller (sees.there_groups i) (sees.there_rows i)))
        ∙ (λ i. all_pulled here holder own (no_groups i) (Ok (no_events i)))

  -- by the partner of the key
  pub pulled_for : (here : Inst) (holder : OrgId) (own there : Seen) → Sees w here peer own there → AreRows (tables w.log peer.name)
      → all_pulled here holder own (groups_sent peer caller there.groups) (events_sent peer caller there.groups (there.rows Reach.All))
      ≡ effect None (batches_by w (route_for here holder peer caller.org (partner_of caller)))
  pulled_for here holder own there sees are = one (partner_of caller) refl
    where
      one : (o : Option Partner) → partner_of caller ≡ o
          → all_pulled here holder own (groups_sent peer caller there.groups) (events_sent peer caller there.groups (there.rows Reach.All))
          ≡ effect None (batches_by w (route_for here holder peer caller.org o))
      one None e = pulled_without here holder own there sees e
      one (Some dest) e = pulled_with here holder dest e own there sees are
