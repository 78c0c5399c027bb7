-- What a push comes to, where what is seen is what the history shows.
use Rattle.std.proofs.Common.{◌≡◌, ◌≤◌, true, List, [], ◌∷◌, Contains, Some, None, Ok, sym, ap, subst, ◌∙◌, arith, filter, flat_map, inl, inr, length, map}
use Rattle.misp_ids.specs.Uid.{IsUid}
use Rattle.misp_lists.specs.Order.{in_order}
use Rattle.misp_lists.proofs.All.{all_among, all_both, all_implied, all_map, all_of}
use Rattle.misp_lists.proofs.Distinct.{distinct_map}
use Rattle.misp_lists.proofs.Elements.{first_or, here, there}
use Rattle.misp_lists.proofs.Lists.{all-map}
use Rattle.misp_orgs.specs.declared.link.Link.{Link}
use Rattle.misp_groups.specs.Changes.{take_groups}
use Rattle.misp_effects.specs.Batches.{batch}
use Rattle.misp_effects.specs.Effect.{behind, effect}
use Rattle.misp_format.specs.WholeGroup.{uncarried}
use Rattle.misp_model.proofs.Prelude.{AllByRecursion, AreRows, EventId, Group, Inst, IsDistinct, IsRow, IsTable, OrgId, Row, event_of, event_rows, list_all, part_is_table}
use Rattle.misp_model.proofs.Prelude.{same_event, same_org, same_org-refl, stands_before}
use Rattle.misp_model.specs.Package.{nobody}
use Rattle.misp_model.specs.Packing.{arrived, cut, is_own, others_with, packages}
use Rattle.misp_history.specs.Acts.{World, synced_groups}
use Rattle.misp_history.specs.History.{tables}
use Rattle.misp_history.specs.Merging.{IsPackageOf, arrives, arriving_rows, handed, passing_rows}
use Rattle.misp_history.specs.Outcomes.{arriving, takes}
use Rattle.misp_model.specs.Passing.{route_to}
use Rattle.misp_history.specs.Passing.{Route}
use Rattle.misp_history.proofs.ArrivedRows.{arriving_are_rows}
use Rattle.misp_history.proofs.AsNew.{tables_are_tables}
use Rattle.misp_history.proofs.Packing.{packages_are}
use Rattle.misp_history.proofs.Sent.{arriving_table}
use Rattle.misp_package.proofs.Cutting.{parts_short}
use Rattle.misp_store.specs.declared.reach.Reach.{Reach}
use Rattle.misp_store.proofs.HeldRows.{rows_filtered}
use Rattle.misp_core.specs.Prelude.{Host, Seen}
use Rattle.misp_core.specs.Pulling.{carries_to}
use Rattle.misp_core.specs.Taking.{groups_taken}
use Rattle.misp_sync.specs.History.{push_route_to}
use Rattle.misp_sync.specs.Pushed.{all_pushed, groups_carried, packages_of, packages_sent, parts_taken, rows_seen}
use Rattle.misp_sync.specs.Ways.{push_way}
use Rattle.misp_core.specs.Sending.{all_numbered, events_packed, rows_pushed}
use Rattle.misp_history.proofs.Bringing.{owned, parts, table}
use Rattle.misp_sync.proofs.Coming.{batches_by, carried_by, groups_after}
use Rattle.misp_sync.proofs.Events.{Tells, events_are, own_apart}
use Rattle.misp_sync.proofs.Granted.{flat_from}
use Rattle.misp_sync.proofs.GroupsTaken.{taken_uncarried}
use Rattle.misp_history.proofs.Handed.{arriving_so}
use Rattle.misp_sync.proofs.Listed.{owns_listed, packages_listed}
use Rattle.misp_sync.proofs.Parts.{as_batches}
use Rattle.misp_sync.proofs.PushedByEvent.{Fits, Reads, as_owned, by_event}

-- ---- packages of rows fit

all_flat : {X Y : Type 0} (f : X → List Y) (P : Y → Type 0) → ((x : X) → AllByRecursion P (f x)) → (xs : List X) → AllByRecursion P (flat_map f xs)
all_flat f P h xs = all_among P (flat_map f xs) (λ y m. let g = flat_from f xs y m in all_of P (f g.0) y (h g.0) g.1.1)

row_among : (rows : List Row) (x : Row) → AreRows rows → Contains rows x → IsRow x
row_among [] x are m = let lt = m.1 in absurd (omega arith)
row_among (y ∷ rows) x are m = elim (first_or y rows x m) [ inl e ↦ subst IsRow e are.0 | inr n ↦ row_among rows x are.1 n ]

rows_among : (rows some : List Row) → AreRows rows → ((x : Row) → Contains some x → Contains rows x) → AreRows some
rows_among rows [] are come = tt
rows_among rows (x ∷ some) are come = (row_among rows x are (come x (here x some)), rows_among rows some are (λ y m. come y (there x some y m)))

few_in_each : (rows : List Row) → AllByRecursion (λ p. length p ≤ 65) (packages rows)
unfolding packages
few_in_each rows =
    let sorted : List Row = in_order stands_before rows in
    all_flat (λ x. map (λ c. x ∷ c) (cut 64 (others_with sorted x))) (λ p. length p ≤ 65)
    (λ x. all_map (λ c. x ∷ c) (λ c. length c ≤ 64) (λ p. length p ≤ 65) (λ c le. omega (arith, le)) (cut 64 (others_with sorted x)) (parts_short (others_with sorted x))) (filter is_own sorted)

packages_fit : (rows : List Row) → IsTable rows → AreRows rows → AllByRecursion Fits (packages rows)
packages_fit rows apart are =
    all_both AreRows (λ p. length p ≤ 65) (packages rows) (all_implied (IsPackageOf rows) AreRows (λ p is. rows_among rows p are is.come) (packages rows) (packages_are rows apart)) (few_in_each rows)

-- ---- routes

-- what arrives at nobody there, handed to a holder, is what arrives at the holder where the peer is
module _ (rows : List Row) (groups : List Group) (here : Inst) (link : Link) (peer : Host) (holder : OrgId) where
  abbrev sends : Route
  sends = route_to (push_way link.internal) here link.push_org link.peer

  abbrev brings : Route
  brings = push_route_to here link peer holder

  sent_arrives : map (handed holder) (arriving_rows rows groups sends) ≡ arriving_rows rows groups brings
  sent_arrives = arriving_so rows groups brings link.peer

-- ---- what is seen

-- what is seen here and at a peer is what the history shows there, as far as it is looked at
pub record Shows (w : World) (here : Inst) (peer : Host) (own there : Seen) : Type 0 where
  pub own_groups : own.groups ≡ w.groups here
  pub own_rows : own.rows Reach.All ≡ Ok (tables w.log here)
  pub there_groups : there.groups ≡ w.groups peer.name
  pub tells : (o : OrgId) (groups : List Group) (coming : List Row) (t : IsTable coming) (a : list_all (arrives o) coming ≡ true) (e : EventId)
      → Tells peer.name o groups (tables w.log peer.name) coming t a (as_owned (rows_seen there)) e

module _ (w : World) (here : Inst) (peer : Host) (link : Link) (holder : OrgId) where
  abbrev route : Route
  route = push_route_to here link peer holder

  -- what is sent
  abbrev comes : List Row
  comes = rows_pushed (push_way link.internal) here (w.groups here) link.push_org link.peer (tables w.log here)

  -- the rows of an event that are
  abbrev sent : EventId → List (List Row)
  sent e = packages (event_rows e comes)

  abbrev with_sent : Row → EventId × List (List Row)
  with_sent x = (event_of x.key, sent (event_of x.key))

  abbrev owns : List Row
  owns = filter is_own (in_order stands_before (arriving w route))

  comes_handed : map (handed holder) comes ≡ arriving w route
  unfolding arriving
  comes_handed = sent_arrives (tables w.log here) (w.groups here) here link peer holder

  comes_nobodys : list_all (λ row. same_org row.owner nobody) comes ≡ true
  unfolding arriving_rows arrived
  comes_nobodys =
      all-map (λ row. same_org row.owner nobody) (arrived (route_to (push_way link.internal) here link.push_org link.peer)) (λ row. same_org-refl nobody)
      (passing_rows (tables w.log here) (w.groups here) (route_to (push_way link.internal) here link.push_org link.peer))

  sent_handed : (e : EventId) → map (map (handed holder)) (sent e) ≡ packages (event_rows e (arriving w route))
  sent_handed = packages_listed comes holder (arriving w route) comes_nobodys comes_handed

  events_listed : events_packed comes ≡ map with_sent owns
  unfolding events_packed
  events_listed = owns_listed comes holder (arriving w route) comes_nobodys comes_handed sent

  module _ (are : AreRows (tables w.log here)) where
    comes_apart : IsTable comes
    comes_apart = arriving_table w.log (w.groups here) (route_to (push_way link.internal) here link.push_org link.peer)

    nobody_is : IsUid nobody.0
    nobody_is = omega arith

    comes_are : AreRows comes
    comes_are = arriving_are_rows (tables w.log here) (w.groups here) (route_to (push_way link.internal) here link.push_org link.peer) (tables_are_tables w.log here) are nobody_is

    sent_fit : (e : EventId) → AllByRecursion Fits (sent e)
    sent_fit e = packages_fit (event_rows e comes) (part_is_table _ comes comes_apart) (rows_filtered _ comes comes_are)

    module _ (own there : Seen) (shows : Shows w here peer own there) where
      abbrev groups : List Group
      groups = synced_groups w.groups route peer.name

      groups_then : take_groups there.groups (map uncarried (carried_by w route)) ≡ groups
      groups_then = ap (λ gs. take_groups gs (map uncarried (carried_by w route))) shows.there_groups ∙ taken_uncarried (w.groups peer.name) (carried_by w route) ∙ sym (groups_after w route)

      tells : (e : EventId) → Tells peer.name holder groups (tables w.log peer.name) (arriving w route) (table w route are) (owned w route are) (as_owned (rows_seen there)) e
      tells = shows.tells holder groups (arriving w route) (table w route are) (owned w route are)

      reads : (e : EventId) → Reads holder (as_owned (rows_seen there)) (rows_seen there) e
      reads e = let t = tells e in record { rows = t.seen; read = t.read; same = t.read }

      apart : IsDistinct (λ (a b : EventId × List (List Row)). same_event a.0 b.0) (map with_sent owns)
      apart =
          distinct_map with_sent (λ a b. same_event (event_of a.key) (event_of b.key)) (λ a b. same_event a.0 b.0) (λ a b h. h) owns
          (own_apart peer.name holder groups (tables w.log peer.name) (arriving w route) (table w route are) (owned w route are))

      parts_come : parts_taken peer.name holder groups (rows_seen there) (all_numbered (events_packed comes)) ≡ effect None (as_batches (parts (takes w route groups) [] (packages (arriving w route))))
      unfolding takes
      parts_come =
          ap (λ events. parts_taken peer.name holder groups (rows_seen there) (all_numbered events)) events_listed
          ∙ by_event peer.name holder groups (as_owned (rows_seen there)) (map with_sent owns) (rows_seen there) apart
          (all_among (λ x. Reads holder (as_owned (rows_seen there)) (rows_seen there) x.0) (map with_sent owns) (λ x m. reads x.0))
          (all_map with_sent (λ row. AllByRecursion Fits (sent (event_of row.key))) (λ x. AllByRecursion Fits x.1) (λ row fit. fit) owns (all_among (λ row. AllByRecursion Fits (sent (event_of row.key))) owns (λ row m. sent_fit (event_of row.key))))
          ∙ events_are peer.name holder groups (tables w.log peer.name) (arriving w route) (table w route are) (owned w route are) sent sent_handed (as_owned (rows_seen there)) tells

      -- the batches of the route
      pub pushed_with_route : all_pushed peer.name holder there (map uncarried (groups_carried link own)) (packages_sent here link own) ≡ effect None (batches_by w (Some route))
      pushed_with_route =
          (λ i. all_pushed peer.name holder there (map uncarried (filter (carries_to link.push_org link.peer) (shows.own_groups i))) (packages_of here link (shows.own_groups i) (shows.own_rows i)))
          ∙ (λ i.
          behind (batch [] (groups_taken (shows.there_groups i) (map uncarried (carried_by w route))))
          (parts_taken peer.name holder (groups_then i) (rows_seen there) (all_numbered (events_packed comes))))
          ∙ ap (behind (batch [] (groups_taken (w.groups peer.name) (map uncarried (carried_by w route))))) parts_come
