-- What passes of kept rows is what is kept of what passes, and so what a pull brings of an event.
use Rattle.std.proofs.Common.{◌≡◌, List, [], Bool, true, refl, ap, ◌&&◌, ◌∙◌, sym, map, filter, ℕ, length, Option, Some, None, option_map}
use Rattle.std.specs.List.{slice_get}
use Rattle.misp_model.specs.Scene.{Partner}
use Rattle.misp_elem.proofs.Same.{target_kept}
use Rattle.misp_lists.proofs.Lists.{all_of_kept, all_same, filter_all}
use Rattle.misp_model.specs.declared.package.PackageFields.{PackageFields}
use Rattle.misp_model.specs.Packing.{arrived, packages}
use Rattle.misp_model.specs.Passing.{Route, element_passes, lets_out, passes, passes_at, passes_by, sent_copy}
use Rattle.misp_model.specs.Pulling.{arriving_by, pull_route, pulled_packages, pulled_part, pulled_rows}
use Rattle.misp_model.proofs.Prelude.{Element, EventId, Group, IsClosed, Key, Proposal, Reference, Row, Scene, Sighting, Verdict, and_parts, any_within, cut_rows, cut_scene, event_is_closed, event_kept, event_key, event_of, event_rows}
use Rattle.misp_model.proofs.Prelude.{filter-map, filter_cut, filter_within, first_of_all, granted, of_event, parents, same_event, same_key, same_key-keeps}
use Rattle.misp_model.proofs.Knowing.{granted_cut, own_rows_cut}
use Rattle.misp_model.proofs.Moving.{is_least_cut}

module _ (keep : Key → Bool) (c : IsClosed keep) (rows : List Row) (groups : List Group) where
  pub sent_copy_cut : (route : Route) (e : EventId) → keep (event_key e) ≡ true → sent_copy (cut_rows keep rows) groups route e ≡ sent_copy rows groups route e
  unfolding sent_copy cut_rows
  sent_copy_cut route e h =
      ap first_of_all (filter_within
      (λ row. same_key row.key (event_key e) && (granted (cut_rows keep rows) groups route.from route.«for» row && lets_out groups route row))
      (λ row. same_key row.key (event_key e) && (granted rows groups route.from route.«for» row && lets_out groups route row)) (λ row. keep row.key)
      (λ row k. ap (λ b. same_key row.key (event_key e) && (b && lets_out groups route row)) (granted_cut keep c rows groups route.from route.«for» row k))
      (λ row k. same_key-keeps keep row.key (event_key e) (and_parts _ _ k).0 h) rows)

  pub element_passes_cut : (route : Route) (row : Row) → keep row.key ≡ true → element_passes (cut_rows keep rows) groups route row ≡ element_passes rows groups route row
  unfolding element_passes
  element_passes_cut route row h =
      rw (
        sent_copy_cut route (event_of row.key) (event_kept keep c row.key h),
        granted_cut keep c rows groups route.from route.«for» row h,
        all_same _ _ keep (λ k e. own_rows_cut keep row.owner k (lets_out groups route) rows e) (parents row.key) (c.above row.key h),
      ) refl

  pub passes_at_cut : (route : Route) (k : Key) → keep k ≡ true → passes_at (cut_rows keep rows) groups route k ≡ passes_at rows groups route k
  unfolding passes_at cut_rows
  passes_at_cut route k h =
      any_within (λ row. same_key row.key k && element_passes (cut_rows keep rows) groups route row) (λ row. same_key row.key k && element_passes rows groups route row) (λ row. keep row.key)
      (λ row e. ap (λ b. same_key row.key k && b) (element_passes_cut route row e))
      (λ row e. same_key-keeps keep row.key k (and_parts _ _ e).0 h) rows

  pub passes_cut : (route : Route) (row : Row) → keep row.key ≡ true → passes (cut_rows keep rows) groups route row ≡ passes rows groups route row
  unfolding passes passes_by parents
  passes_cut route row h = by_key row.key h
    where
      by_key : (k : Key) → keep k ≡ true → passes_by (cut_rows keep rows) groups route row k ≡ passes_by rows groups route row k
      by_key (Element e p) g = element_passes_cut route row h
      by_key (Reference e x t u) g = element_passes_cut route row h
      by_key (Proposal e n) g = rw (is_least_cut keep c rows groups route.from route.«for» row h, passes_at_cut route (Element e n.target) (target_kept keep e n.target (c.above _ g))) refl
      by_key (Verdict e n j v) g = rw (is_least_cut keep c rows groups route.from route.«for» row h, passes_at_cut route (Element e n.target) (target_kept keep e n.target (c.above _ g))) refl
      by_key (Sighting e t j v u) g = rw (is_least_cut keep c rows groups route.from route.«for» row h, passes_at_cut route (Element e t) (target_kept keep e t (c.above _ g))) refl

  -- of the kept rows passes what is kept of what passes
  pub rows_pass_cut : (route : Route) → filter (passes (cut_rows keep rows) groups route) (cut_rows keep rows) ≡ cut_rows keep (filter (passes rows groups route) rows)
  unfolding cut_rows
  rows_pass_cut route = filter_cut (passes (cut_rows keep rows) groups route) (passes rows groups route) (λ row. keep row.key) (λ row e. passes_cut route row e) rows

-- ---- what a pull brings of one event
module _ (e : EventId) (s : Scene) where
  arriving_here : (route : Route) → arriving_by (cut_scene (of_event e) s) route ≡ event_rows e (arriving_by s route)
  unfolding cut_scene cut_rows of_event arrived
  arriving_here route =
      ap (map (arrived route)) (rows_pass_cut (of_event e) (event_is_closed e) s.rows s.groups route)
      ∙ sym (filter-map (arrived route) (λ row. same_event (event_of row.key) e) (filter (passes s.rows s.groups route) s.rows))

  pulled_here : pulled_rows (cut_scene (of_event e) s) ≡ event_rows e (pulled_rows s)
  unfolding pulled_rows cut_scene
  pulled_here = by_partner s.partner
    where
      by_partner : (partner : Option Partner) → elim partner as (λ x. List Row) [ None ↦ [] | Some p ↦ arriving_by (cut_scene (of_event e) s) (pull_route s p) ]
          ≡ event_rows e (elim partner as (λ x. List Row) [ None ↦ [] | Some p ↦ arriving_by s (pull_route s p) ])
      by_partner None = refl
      by_partner (Some p) = arriving_here (pull_route s p)

  event_once : (rows : List Row) → event_rows e (event_rows e rows) ≡ event_rows e rows
  event_once rows =
      filter_all (λ row. same_event (event_of row.key) e) (event_rows e rows) (all_of_kept (λ row. same_event (event_of row.key) e) (λ row. same_event (event_of row.key) e) (λ row h. h) rows)

  packages_here : pulled_packages (cut_scene (of_event e) s) e ≡ pulled_packages s e
  packages_here = ap (λ rows. packages (event_rows e rows)) pulled_here ∙ ap packages (event_once (pulled_rows s))

  pub part_here : (n : ℕ) → pulled_part (cut_scene (of_event e) s) e n ≡ pulled_part s e n
  unfolding pulled_part
  part_here n =
      ap {B = Option PackageFields} (λ (ps : List (List Row)). option_map (λ rows. record { event = e; part = n; parts = length ps; rows = rows }) (slice_get ps n)) packages_here
