use Rattle.std.proofs.Common.{◌≡◌, List, flat_map, take}
use Rattle.misp_model.specs.Package.{IsPackage}
use Rattle.misp_model.specs.Prelude.{IsTable, Row}
use Rattle.misp_package.specs.Passing.{route_of}
use Rattle.misp_store.specs.Prelude.{AllByRecursion}
use Rattle.misp_core.specs.Pulling.{IsByEvent}
use Rattle.misp_core.proofs.Sending.{packed_at}
use Rattle.misp_core.proofs.pushing.outgoing_events.Given as goal

-- of each number so far the packages of its event
abbrev pub invariant-loop-number : goal.invariant-loop-number
invariant-loop-number l = record {
  packed : (rows : List Row) → IsTable rows → IsByEvent l.list rows → l.all.items ≡ flat_map (packed_at rows l.via.groups.now (route_of l.via)) (take l.number-index l.number-items);
  each : AllByRecursion IsPackage l.all.items;
}
