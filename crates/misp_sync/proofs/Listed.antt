-- What is listed, as it is handed in for a holder, event by event.
use Rattle.std.proofs.Common.{◌≡◌, true, List, sym, ap, ◌∙◌, filter, length, map, refl}
use Rattle.misp_lists.specs.Order.{in_order}
use Rattle.misp_lists.proofs.Lists.{all-filter, map_twice}
use Rattle.misp_model.specs.Package.{nobody}
use Rattle.misp_model.specs.Packing.{is_own, packages}
use Rattle.misp_model.specs.Pulling.{pulled_events, pulled_packages, pulled_rows}
use Rattle.misp_model.proofs.Prelude.{EventId, OrgId, Row, Scene, event_of, event_rows, list_all, same_event, same_org, stands_before}
use Rattle.misp_history.specs.Merging.{handed}
use Rattle.misp_sync.specs.Pulled.{with_packages}
use Rattle.misp_history.proofs.Handed.{event_handed, own_handed, packages_handed, sorted_handed}

-- the event of a row, with what is sent of it
abbrev pub listed_by : (EventId → List (List Row)) → Row → EventId × List (List Row)
listed_by sent x = (event_of x.key, sent (event_of x.key))

-- rows that come at nobody, and are these as they are handed in
module _ (comes : List Row) (holder : OrgId) (coming : List Row) (nobodys : list_all (λ row. same_org row.owner nobody) comes ≡ true) (is : map (handed holder) comes ≡ coming) where
  -- the packages of an event
  pub packages_listed : (e : EventId) → map (map (handed holder)) (packages (event_rows e comes)) ≡ packages (event_rows e coming)
  packages_listed e =
      packages_handed nobody holder (event_rows e comes) (all-filter (λ row. same_org row.owner nobody) (λ row. same_event (event_of row.key) e) comes nobodys)
      ∙ ap packages (event_handed holder e comes ∙ ap (event_rows e) is)

  -- the events, in their order
  pub owns_listed : (sent : EventId → List (List Row)) → map (listed_by sent) (filter is_own (in_order stands_before comes)) ≡ map (listed_by sent) (filter is_own (in_order stands_before coming))
  unfolding handed
  owns_listed sent =
      sym (map_twice (handed holder) (listed_by sent) (listed_by sent) (λ x. refl) (filter is_own (in_order stands_before comes)))
      ∙ ap (map (listed_by sent)) (own_handed nobody holder (in_order stands_before comes) ∙ ap (filter is_own) (sorted_handed nobody holder comes nobodys ∙ ap (in_order stands_before) is))

module _ (s : Scene) (holder : OrgId) (coming : List Row) (nobodys : list_all (λ row. same_org row.owner nobody) (pulled_rows s) ≡ true) (is : map (handed holder) (pulled_rows s) ≡ coming) where
  pub sent_handed : (e : EventId) → map (map (handed holder)) (pulled_packages s e) ≡ packages (event_rows e coming)
  sent_handed = packages_listed (pulled_rows s) holder coming nobodys is

  pub events_listed : with_packages s ≡ map (λ x. (event_of x.key, pulled_packages s (event_of x.key))) (filter is_own (in_order stands_before coming))
  unfolding pulled_events
  events_listed =
      map_twice (λ row. (event_of row.key, length (pulled_packages s (event_of row.key)))) (λ e. (e.0, pulled_packages s e.0)) (listed_by (pulled_packages s)) (λ x. refl)
      (filter is_own (in_order stands_before (pulled_rows s)))
      ∙ owns_listed (pulled_rows s) holder coming nobodys is (pulled_packages s)
