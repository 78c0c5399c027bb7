-- What passes of a history in a synchronisation, and as what it comes.
use Rattle.std.specs.Prelude.{◌∷◌, List, filter}
use Rattle.misp_model.specs.Prelude.{Group, Row, Version, known}
use Rattle.misp_history.specs.History.{tables, newest, row_of}
unfoldable pub use Rattle.misp_model.specs.Passing.{element_passes, is_sent_owner, lets_out, passes, passes_at, passes_by, sent_copy}
pub use Rattle.misp_model.specs.Passing.{Route}

-- what the organisation of a synchronisation knows at the sender: nothing else is looked at
unfoldable pub known_there : List Version → List Group → Route → List Row
known_there log groups route = known (tables log route.from) groups route.from route.«for»

-- the versions that pass
unfoldable pub passing : List Version → List Group → Route → List Version
passing log groups route =
    filter (λ v. passes (known_there log groups route) groups route (row_of log v))
    (newest log route.from)

-- the version as it comes by this synchronisation
unfoldable pub moved : Route → Version → Version
moved route v = record v { at = route.into; owner = route.holder; path = route.way ∷ v.path }
