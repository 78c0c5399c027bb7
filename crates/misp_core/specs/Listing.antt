-- What an organisation sees of the events, one after another.
use Rattle.std.specs.Prelude.{ℕ, List, Option, None}
use Rattle.misp_model.specs.Machine.{event_rows, seeing}
use Rattle.misp_model.specs.Prelude.{Row, VisibleEvent}
use Rattle.misp_model.specs.Shown.{shown}
use Rattle.misp_core.specs.Handing.{scene_in}
use Rattle.misp_core.specs.Pulling.{event_at}
use Rattle.misp_core.specs.declared.site.Site.{Site}

-- what the caller sees of the event of a number, over its rows here
abbrev pub seen_at : Site → List Row → ℕ → Option VisibleEvent
seen_at site rows n =
    shown (seeing (scene_in site) (event_rows (event_at n) rows)) (event_at n) None
