-- What arrives by a route, and the rows of one event.
use Rattle.std.proofs.Common.{◌≡◌, List, Bool, true, false, ◌&&◌, Contains, ap, refl, subst, sym, ◌∙◌}
use Rattle.misp_lists.proofs.Distinct.{distinct_map}
use Rattle.misp_lists.proofs.Elements.{map_from, of_part}
use Rattle.misp_lists.proofs.Lists.{all-map, all_of_kept}
use Rattle.misp_model.specs.Machine.{event_number, event_rows}
use Rattle.misp_model.specs.Package.{nobody}
use Rattle.misp_model.specs.Packing.{arrived}
use Rattle.misp_model.specs.Passing.{Route, passes}
use Rattle.misp_model.proofs.Prelude.{EventId, IsDistinct, IsTable, Row, event_of, in_one_cell, is_known, known, list_all, part_is_table, same_event, same_org, same_org-refl}
use Rattle.misp_history.specs.Merging.{arriving_rows, passing_rows}
use Rattle.misp_package.proofs.KeyOrders.{one_key}
use Rattle.misp_package.proofs.Once.{keys_once}
use Rattle.misp_core.specs.Prelude.{Group}

-- ---- what arrives

module _ (rows : List Row) (groups : List Group) (route : Route) where
  -- where nobody holds it, it is nobody's
  pub arriving_nobodys : route.holder ≡ nobody → list_all (λ row. same_org row.owner nobody) (arriving_rows rows groups route) ≡ true
  unfolding arriving_rows arrived
  arriving_nobodys held = all-map (λ row. same_org row.owner nobody) (arrived route) (λ row. ap (λ o. same_org o nobody) held ∙ same_org-refl nobody) (passing_rows rows groups route)

  -- of a table each key comes once
  pub arriving_apart : IsTable rows → IsTable (arriving_rows rows groups route)
  unfolding arriving_rows arrived IsDistinct in_one_cell
  arriving_apart table =
      distinct_map (arrived route) one_key in_one_cell (λ a b h. ap (λ t. same_org route.holder route.holder && t) h ∙ none (same_org route.holder route.holder)) (passing_rows rows groups route)
      (keys_once rows groups route table)
    where
      none : (b : Bool) → (b && false) ≡ false
      none true = refl
      none false = refl

  -- what comes is of a row that is here
  pub arriving_from : (x : Row) → Contains (arriving_rows rows groups route) x → (r : Row) × (Contains rows r × (event_number r ≡ event_number x))
  unfolding arriving_rows passing_rows known arrived event_number
  arriving_from x m =
      let f = map_from (arrived route) (passing_rows rows groups route) x m in
      let goes = of_part (passes (known rows groups route.from route.«for») groups route) (known rows groups route.from route.«for») f.0 f.1.0 in
      let seen = of_part (is_known rows groups route.from route.«for») rows f.0 goes.1 in
      (f.0, (seen.1, ap (λ (r : Row). (event_of r.key).0.0) f.1.1))

-- ---- the rows of one event

module _ (e : EventId) (rows part : List Row) (is : part ≡ event_rows e rows) where
  -- they are of it
  pub part_ours : list_all (λ row. same_event (event_of row.key) e) part ≡ true
  part_ours =
      ap (list_all (λ row. same_event (event_of row.key) e)) is
      ∙ all_of_kept (λ row. same_event (event_of row.key) e) (λ row. same_event (event_of row.key) e) (λ x h. h) rows

  -- and a table where all rows are
  pub part_table : IsTable rows → IsTable part
  part_table table = subst IsTable (sym is) (part_is_table (λ row. same_event (event_of row.key) e) rows table)
