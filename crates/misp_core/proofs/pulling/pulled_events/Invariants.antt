use Rattle.std.proofs.Common.{◌≡◌, List, filter_map, length, nat_cmp, take}
use Rattle.misp_model.specs.Machine.{event_rows, seeing}
use Rattle.misp_model.specs.Packing.{packages}
use Rattle.misp_model.specs.Prelude.{IsTable, Row}
use Rattle.misp_model.specs.Pulling.{pulled_rows}
use Rattle.misp_store.specs.Prelude.{AllByRecursion}
use Rattle.misp_core.specs.Prelude.{IsStrictlySortedBy}
use Rattle.misp_core.specs.Handing.{pull_scene}
use Rattle.misp_core.specs.Pulling.{IsByEvent, event_at, parts_where}
use Rattle.misp_core.specs.Sound.{IsListed}
use Rattle.misp_core.proofs.Listed.{AscendTo, number_listed}
use Rattle.misp_core.proofs.pulling.pulled_events.Given as goal

-- of each number so far its event, where there is a package of it
abbrev pub invariant-loop-number : goal.invariant-loop-number
invariant-loop-number l = record {
  events : (rows : List Row) → IsTable rows → IsByEvent l.list rows
      → l.events.items ≡ filter_map (λ n. parts_where (event_at n) (length (packages (event_rows (event_at n) (pulled_rows (seeing (pull_scene l.site) rows)))))) (take l.number-index l.number-items);
  each : AllByRecursion IsListed l.events.items;
  ascend : IsStrictlySortedBy nat_cmp l.number-items → AscendTo number_listed l.number-items l.number-index l.events.items;
}
