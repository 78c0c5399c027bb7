-- What a synchronising key is answered: what a pull by its partner brings.
use Rattle.std.specs.Prelude.{ℕ, List, [], Option, Some, None, filter, length, map, option_map}
use Rattle.std.specs.List.{slice_get}
use Rattle.misp_groups.specs.declared.group.GroupFields.{GroupFields as Group}
use Rattle.misp_groups.specs.Audience.{carries}
use Rattle.misp_lists.specs.Order.{in_order}
use Rattle.misp_elem.specs.declared.row.RowFields.{RowFields as Row}
use Rattle.misp_elem.specs.Prelude.{EventId, event_of}
use Rattle.misp_model.specs.declared.package.PackageFields.{PackageFields}
use Rattle.misp_model.specs.Packing.{arrived, event_rows, is_own, packages}
use Rattle.misp_model.specs.Passing.{Route, passes, route_to}
use Rattle.misp_model.specs.RowOrder.{stands_before}
use Rattle.misp_model.specs.Scene.{Partner, Scene}

-- the route of a pull by this partner for the caller
abbrev pub pull_route : Scene → Partner → Route
pull_route s partner = route_to partner.way s.at s.by partner.inst

-- the groups that carry to the partner of the caller's key; without a partner there are none
unfoldable pub pulled_groups : Scene → List Group
pulled_groups s =
    elim s.partner [ None ↦ [] | Some partner ↦ filter (λ g. carries g s.by partner.inst) s.groups ]

-- of the rows that the caller knows those that pass by this route, as they arrive
abbrev pub arriving_by : Scene → Route → List Row
arriving_by s route = map (arrived route) (filter (passes s.rows s.groups route) s.rows)

-- what arrives at the partner; without a partner that is nothing
unfoldable pub pulled_rows : Scene → List Row
pulled_rows s =
    elim s.partner [ None ↦ [] | Some partner ↦ arriving_by s (pull_route s partner) ]

-- of that the packages of one event
abbrev pub pulled_packages : Scene → EventId → List (List Row)
pulled_packages s e = packages (event_rows e (pulled_rows s))

-- the events of which something arrives, in their order, each with the number of its packages
unfoldable pub pulled_events : Scene → List (EventId × ℕ)
pulled_events s =
    map (λ row. (event_of row.key, length (pulled_packages s (event_of row.key))))
    (filter is_own (in_order stands_before (pulled_rows s)))

-- the n-th package of an event, where it has so many
unfoldable pub pulled_part : Scene → EventId → ℕ → Option PackageFields
pulled_part s e n =
    option_map
    (λ rows. record { event = e; part = n; parts = length (pulled_packages s e); rows = rows })
    (slice_get (pulled_packages s e) n)
