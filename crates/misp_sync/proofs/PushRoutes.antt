-- The route of a push, and its batches.
use Rattle.std.proofs.Common.{◌≡◌, List, Option, Some, None, refl, sym, ap, subst, inl, inr, filter, map}
use Rattle.misp_effects.specs.Effect.{Outcome, Stopped, Went, under}
use Rattle.misp_format.specs.WholeGroup.{groups_text, uncarried}
use Rattle.misp_orgs.specs.Admin.{who_of}
use Rattle.misp_orgs.specs.Roles.{permits}
use Rattle.misp_orgs.specs.declared.link.Link.{Link}
use Rattle.misp_orgs.specs.declared.role.Perm.{Perm}
use Rattle.misp_model.proofs.Prelude.{AreRows, Group, Inst}
use Rattle.misp_model.specs.Permission.{no_permission}
use Rattle.misp_history.specs.Acts.{World}
use Rattle.misp_history.specs.History.{tables}
use Rattle.misp_core.specs.Prelude.{Caller, Effect, Host, Seen}
use Rattle.misp_core.specs.Pulling.{carries_to}
use Rattle.misp_client.specs.Calling.{is_short, too_large}
use Rattle.misp_protocol.specs.declared.cause.Cause.{Cause}
use Rattle.misp_sync.specs.History.{push_route_by, push_route_over, push_route_to, push_route_with}
use Rattle.misp_sync.specs.Pulled.{ends}
use Rattle.misp_sync.specs.Pushed.{all_pushed, groups_carried, if_short, packages_sent, push_telling, pushed_by, pushed_over, pushed_through}
use Rattle.misp_client.specs.Telling.{refused_as}
use Rattle.misp_sync.specs.declared.reply.SyncReply.{SyncReply}
use Rattle.misp_sync.proofs.PushComing.{Shows, pushed_with_route}
use Rattle.misp_sync.proofs.Routes.{Comes, IsBetween, between_if, comes_if, put_under}

-- the batches that were put
pub push_under_is : (outcome : Outcome) (e : Effect SyncReply) → (under push_telling outcome e).batches ≡ put_under outcome e.batches
push_under_is Went e = refl
push_under_is (Stopped stop n lost) e = refl

module _ (here : Inst) (peer : Host) where
  push_between_by : (link : Link) (caller : Option Caller) → IsBetween peer.name here (push_route_by here link peer caller)
  push_between_by link None = tt
  push_between_by link (Some caller) = between_if peer.name here (permits caller.role Perm.Sync) (Some (push_route_to here link peer caller.org)) (refl, refl)

  push_between_with : (link : Link) (groups : List Group) → IsBetween peer.name here (push_route_with here link peer groups)
  push_between_with link groups =
      between_if peer.name here (is_short (groups_text (filter (carries_to link.push_org link.peer) groups))) (push_route_by here link peer (who_of peer.admin link.key))
      (push_between_by link (who_of peer.admin link.key))

  -- it goes from the instance into the peer
  pub push_between : (link : Option Link) (groups : List Group) → IsBetween peer.name here (push_route_over here link peer groups)
  push_between None groups = tt
  push_between (Some link) groups = between_if peer.name here link.on (push_route_with here link peer groups) (push_between_with link groups)

  module _ (w : World) (are : AreRows (tables w.log here)) (own there : Seen) (shows : Shows w here peer own there) where
    push_comes_by : (link : Link) (caller : Option Caller) → Comes w (pushed_by peer caller there (groups_carried link own) (packages_sent here link own)).batches (push_route_by here link peer caller)
    push_comes_by link None = inr (refl, refl)
    push_comes_by link (Some caller) =
        comes_if w (permits caller.role Perm.Sync) (all_pushed peer.name caller.org there (map uncarried (groups_carried link own)) (packages_sent here link own))
        (ends (Some (refused_as (no_permission Perm.Sync)))) (Some (push_route_to here link peer caller.org))
        (inl (ap (λ (e : Effect (Option Cause)). e.batches) (pushed_with_route w here peer link caller.org are own there shows))) refl

    push_comes_with : (link : Link) → Comes w (pushed_through here link peer own there).batches (push_route_with here link peer (w.groups here))
    push_comes_with link =
        let e : Effect (Option Cause) = pushed_by peer (who_of peer.admin link.key) there (groups_carried link own) (packages_sent here link own) in
        subst (λ gs. Comes w (if_short (groups_text (filter (carries_to link.push_org link.peer) gs)) e).batches (push_route_with here link peer (w.groups here))) (sym shows.own_groups)
        (comes_if w (is_short (groups_text (filter (carries_to link.push_org link.peer) (w.groups here)))) e (ends (Some (refused_as too_large)))
        (push_route_by here link peer (who_of peer.admin link.key)) (push_comes_by link (who_of peer.admin link.key)) refl)

    -- the batches are those of the route
    pub push_comes : (link : Option Link) → Comes w (pushed_over here link peer own there).batches (push_route_over here link peer (w.groups here))
    push_comes None = inr (refl, refl)
    push_comes (Some link) =
        comes_if w link.on (pushed_through here link peer own there) (ends (Some Cause.LinkOff)) (push_route_with here link peer (w.groups here)) (push_comes_with link) refl
