-- What a push sends: the packages of all that passes to an instance, event after event.
use Rattle.std.specs.Prelude.{ℕ, suc, List, [], ◌∷◌, filter, flat_map, length, map}
use Rattle.misp_ids.specs.declared.label.Way.{Way}
use Rattle.misp_lists.specs.Order.{in_order}
use Rattle.misp_model.specs.Machine.{event_rows}
use Rattle.misp_model.specs.Packing.{is_own, packages}
use Rattle.misp_model.specs.Passing.{route_to}
use Rattle.misp_model.specs.Prelude.{event_of, stands_before}
use Rattle.misp_model.specs.declared.package.PackageFields.{PackageFields as Package}
use Rattle.misp_history.specs.Merging.{arriving_rows}
use Rattle.misp_core.specs.Prelude.{EventId, Group, Inst, OrgId, Row}

-- ---- what arrives, in packages

-- the events of which a row of its own arrives, in their order, each with its packages
unfoldable pub events_packed : List Row → List (EventId × List (List Row))
events_packed arriving =
    map (λ row. (event_of row.key, packages (event_rows (event_of row.key) arriving)))
    (filter is_own (in_order stands_before arriving))

-- packages of an event, numbered from this number on, of so many in all
unfoldable pub numbered_from : ℕ → EventId → ℕ → List (List Row) → List Package
numbered_from n e count [] = []
numbered_from n e count (rows ∷ more) =
    record { event = e; part = n; parts = count; rows = rows } ∷ numbered_from (suc n) e count more

-- all packages of an event, numbered from 0 on, with their count
abbrev pub numbered : EventId → List (List Row) → List Package
numbered e all = numbered_from 0 e (length all) all

-- all packages of events with theirs, event after event
abbrev pub all_numbered : List (EventId × List (List Row)) → List Package
all_numbered events = flat_map (λ e. numbered e.0 e.1) events

-- ---- a push

-- of these rows those that the organisation knows and that pass on the way from here to the
-- instance, as they arrive
abbrev pub rows_pushed : Way → Inst → List Group → OrgId → Inst → List Row → List Row
rows_pushed way here groups org dest rows =
    arriving_rows rows groups (route_to way here org dest)

-- the events of which something arrives, in their order, each with its packages
abbrev pub events_pushed : Way → Inst → List Group → OrgId → Inst → List Row
    → List (EventId × List (List Row))
events_pushed way here groups org dest rows =
    events_packed (rows_pushed way here groups org dest rows)

-- all packages that are sent, in the order of events and numbers
abbrev pub packages_pushed : Way → Inst → List Group → OrgId → Inst → List Row → List Package
packages_pushed way here groups org dest rows =
    all_numbered (events_pushed way here groups org dest rows)
