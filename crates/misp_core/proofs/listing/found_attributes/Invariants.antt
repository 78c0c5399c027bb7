use Rattle.std.proofs.Common.{◌≡◌, List, filter_map, take}
use Rattle.misp_model.specs.Prelude.{IsTable, Row}
use Rattle.misp_search.specs.Fitting.{hits}
use Rattle.misp_search.specs.Window.{window_of}
use Rattle.misp_core.specs.Listing.{seen_at}
use Rattle.misp_core.specs.Pulling.{IsByEvent}
use Rattle.misp_core.proofs.listing.found_attributes.Given as goal

-- what has come of the events of the numbers so far, where they are seen
abbrev pub invariant-loop-number : goal.invariant-loop-number
invariant-loop-number l = (rows : List Row) → IsTable rows → IsByEvent l.list.items rows
    → l.found ≡ window_of l.filter.page (hits l.filter (filter_map (seen_at l.site rows) (take l.number-index l.number-items)))
