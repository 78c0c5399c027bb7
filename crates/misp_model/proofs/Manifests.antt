-- A manifest is what is said of each event that a pull lists.
use Rattle.std.proofs.Common.{◌≡◌, ℕ, List, ◌∙◌, sym, map, filter, length}
use Rattle.misp_lists.specs.Order.{in_order}
use Rattle.misp_manifest.specs.Manifest.{key_stamp}
use Rattle.misp_model.specs.Manifests.{pulled_manifest, said_of}
use Rattle.misp_model.specs.Packing.{is_own}
use Rattle.misp_model.specs.Pulling.{pulled_events, pulled_packages, pulled_rows}
use Rattle.misp_model.proofs.Prelude.{EventId, Row, Scene, event_of, length-map, map-map, stands_before}

module _ (s : Scene) where
  -- the events' own rows of what arrives
  own_rows : List Row
  own_rows = filter is_own (in_order stands_before (pulled_rows s))

  -- an event with the number of its packages
  counted : EventId → EventId × ℕ
  counted e = (e, length (pulled_packages s e))

  pub said_of_each : pulled_manifest s ≡ map (λ event. said_of event.0 (pulled_packages s event.0)) (pulled_events s)
  unfolding pulled_manifest pulled_events own_rows counted
  said_of_each = sym (map-map (λ event. said_of event.0 (pulled_packages s event.0)) (λ row. counted (event_of row.key)) own_rows)

  pub counts_said : map (λ said. (said.event, length said.parts)) (pulled_manifest s) ≡ pulled_events s
  unfolding pulled_manifest pulled_events own_rows counted
  counts_said =
      map-map (λ said. (said.event, length said.parts)) (λ row. said_of (event_of row.key) (pulled_packages s (event_of row.key))) own_rows
      ∙ (λ i. map (λ row. (event_of row.key, length-map (pulled_packages s (event_of row.key)) (map key_stamp) i)) own_rows)
