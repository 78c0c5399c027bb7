use Rattle.std.proofs.Common.{◌≡◌, List, filter_map, nat_cmp, take}
use Rattle.misp_manifest.specs.Manifest.{IsManifestEvent}
use Rattle.misp_model.specs.Machine.{event_rows, seeing}
use Rattle.misp_model.specs.Packing.{packages}
use Rattle.misp_model.specs.Prelude.{IsTable, Row}
use Rattle.misp_model.specs.Pulling.{pulled_rows}
use Rattle.misp_manifest.specs.Manifest.{manifest_event}
use Rattle.misp_store.specs.Prelude.{AllByRecursion}
use Rattle.misp_core.specs.Prelude.{IsStrictlySortedBy}
use Rattle.misp_core.specs.Handing.{pull_scene}
use Rattle.misp_core.specs.Pulling.{IsByEvent, event_at}
use Rattle.misp_core.proofs.Listed.{AscendTo, number_said}
use Rattle.misp_core.proofs.manifest.events_said.Given as goal

-- of each number so far what is said of its event, where there is a package of it
abbrev pub invariant-loop-number : goal.invariant-loop-number
invariant-loop-number l = record {
  said : (rows : List Row) → IsTable rows → IsByEvent l.list rows
      → l.events.items ≡ filter_map (λ n. manifest_event (event_at n) (packages (event_rows (event_at n) (pulled_rows (seeing (pull_scene l.site) rows))))) (take l.number-index l.number-items);
  each : AllByRecursion IsManifestEvent l.events.items;
  ascend : IsStrictlySortedBy nat_cmp l.number-items → AscendTo number_said l.number-items l.number-index l.events.items;
}
