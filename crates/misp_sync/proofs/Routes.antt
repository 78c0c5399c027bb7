-- The route of a pull, its batches, and the state after a synchronisation.
use Rattle.std.proofs.Common.{◌≡◌, ◌⊎◌, ℕ, zero, suc, Bool, true, false, List, [], Option, Some, None, refl, ap, if◌then◌else◌, inl, inr, take}
use Rattle.misp_ids.specs.declared.label.Direction.{Direction}
use Rattle.misp_orgs.specs.Admin.{who_of}
use Rattle.misp_orgs.specs.declared.link.Link.{Link}
use Rattle.misp_effects.specs.Batches.{Batch}
use Rattle.misp_effects.specs.Effect.{Outcome, Stopped, Went, under}
use Rattle.misp_store.specs.declared.reach.Reach.{Reach}
use Rattle.misp_model.proofs.Prelude.{AreRows, Inst, OrgId}
use Rattle.misp_model.specs.Scene.{Partner}
use Rattle.misp_history.specs.Acts.{Net, World, step, synced}
use Rattle.misp_history.specs.History.{tables}
use Rattle.misp_history.specs.Outcomes.{step_partly, synced_partly}
use Rattle.misp_history.specs.Passing.{Route}
use Rattle.misp_core.specs.Partners.{partner_of}
use Rattle.misp_core.specs.Prelude.{Ask, Caller, Effect, Host, Seen, forbidden, is_permitted}
use Rattle.misp_protocol.specs.declared.cause.Cause.{Cause}
use Rattle.misp_sync.specs.History.{applied, route_by, route_for, route_over, sync_act}
use Rattle.misp_sync.specs.Pulled.{ends, pulled_by, all_pulled, events_sent, groups_sent, pulled_over, telling}
use Rattle.misp_client.specs.Telling.{refused_as}
use Rattle.misp_sync.specs.declared.reply.SyncReply.{SyncReply}
use Rattle.misp_sync.proofs.Coming.{Sees, batches_by, pulled_for}

-- ---- routes

-- it goes from the peer into the instance
abbrev pub IsBetween : Inst → Inst → Option Route → Type 0
IsBetween here peer None = Unit {0}
IsBetween here peer (Some r) = (r.into ≡ here) × (r.from ≡ peer)

-- the batches are those of the route, or there are none of either
abbrev pub Comes : World → List Batch → Option Route → Type 0
Comes w bs o = (bs ≡ batches_by w o) ⊎ ((bs ≡ []) × (o ≡ None))

pub comes_if : (w : World) (b : Bool) (x y : Effect (Option Cause)) (o : Option Route) → Comes w x.batches o → y.batches ≡ [] → Comes w (if b then x else y).batches (if b then o else None)
comes_if w true x y o c e = c
comes_if w false x y o c e = inr (e, refl)

pub between_if : (here peer : Inst) (b : Bool) (o : Option Route) → IsBetween here peer o → IsBetween here peer (if b then o else None)
between_if here peer true o h = h
between_if here peer false o h = tt

module _ (here : Inst) (peer : Host) where
  between_for : (holder org : OrgId) (partner : Option Partner) → IsBetween here peer.name (route_for here holder peer org partner)
  between_for holder org None = tt
  between_for holder org (Some partner) = (refl, refl)

  between_by : (holder : OrgId) (caller : Option Caller) → IsBetween here peer.name (route_by here holder peer caller)
  between_by holder None = tt
  between_by holder (Some caller) = between_if here peer.name (is_permitted caller Ask.SyncGroups) (route_for here holder peer caller.org (partner_of caller)) (between_for holder caller.org (partner_of caller))

  pub between_over : (link : Option Link) → IsBetween here peer.name (route_over here link peer)
  between_over None = tt
  between_over (Some link) = between_if here peer.name link.on (route_by here link.holder peer (who_of peer.admin link.key)) (between_by link.holder (who_of peer.admin link.key))

  module _ (w : World) (are : AreRows (tables w.log peer.name)) (own there : Seen) (a : Sees w here peer own there) where
    comes_by : (holder : OrgId) (caller : Option Caller) → Comes w (pulled_by here holder peer caller own there).batches (route_by here holder peer caller)
    comes_by holder None = inr (refl, refl)
    comes_by holder (Some caller) =
        comes_if w (is_permitted caller Ask.SyncGroups)
        (all_pulled here holder own (groups_sent peer caller there.groups) (events_sent peer caller there.groups (there.rows Reach.All)))
        (ends (Some (refused_as (forbidden Ask.SyncGroups)))) (route_for here holder peer caller.org (partner_of caller))
        (inl (ap (λ (e : Effect (Option Cause)). e.batches) (pulled_for w peer caller here holder own there a are))) refl

    pub comes_over : (link : Option Link) → Comes w (pulled_over here link peer own there).batches (route_over here link peer)
    comes_over None = inr (refl, refl)
    comes_over (Some link) =
        comes_if w link.on (pulled_by here link.holder peer (who_of peer.admin link.key) own there) (ends (Some Cause.LinkOff))
        (route_by here link.holder peer (who_of peer.admin link.key)) (comes_by link.holder (who_of peer.admin link.key)) refl

-- ---- acts

-- the state after it, by the route
abbrev pub world_by : World → Outcome → Option Route → World
world_by w Went o = elim o as (λ x. World) [ None ↦ w | Some r ↦ synced w r ]
world_by w (Stopped stop zero lost) o = elim o as (λ x. World) [ None ↦ w | Some r ↦ synced_partly w r false 0 ]
world_by w (Stopped stop (suc p) lost) o = elim o as (λ x. World) [ None ↦ w | Some r ↦ synced_partly w r true p ]

pub world_is : (net : Net) (n now : ℕ) (w : World) (direction : Direction) (here link : Inst) (outcome : Outcome) (o : Option Route) → net direction here link w.groups w.made ≡ o
    → step_partly net n w (sync_act direction here now link) (applied outcome) ≡ world_by w outcome o
unfolding step_partly step
world_is net n now w direction here link Went o e = ap (λ (o : Option Route). elim o as (λ x. World) [ None ↦ w | Some r ↦ synced w r ]) e
world_is net n now w direction here link (Stopped stop zero lost) o e = ap (λ (o : Option Route). elim o as (λ x. World) [ None ↦ w | Some r ↦ synced_partly w r false 0 ]) e
world_is net n now w direction here link (Stopped stop (suc p) lost) o e = ap (λ (o : Option Route). elim o as (λ x. World) [ None ↦ w | Some r ↦ synced_partly w r true p ]) e

-- the batches that were put
abbrev pub put_under : Outcome → List Batch → List Batch
put_under Went bs = bs
put_under (Stopped stop n lost) bs = take n bs

pub under_is : (outcome : Outcome) (e : Effect SyncReply) → (under telling outcome e).batches ≡ put_under outcome e.batches
under_is Went e = refl
under_is (Stopped stop n lost) e = refl

-- without a route that is the one before
pub world_none : (w : World) (outcome : Outcome) → world_by w outcome None ≡ w
world_none w Went = refl
world_none w (Stopped stop zero lost) = refl
world_none w (Stopped stop (suc p) lost) = refl
