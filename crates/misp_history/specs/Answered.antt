-- What a synchronising key is answered, put together.
use Rattle.std.specs.Prelude.{◌≡◌, ℕ, List, [], Option, Some, None, filter_map, flat_map}
use Rattle.std.specs.List.{range_with_len}
use Rattle.misp_manifest.specs.declared.manifest.ManifestFields.{ManifestFields}
use Rattle.misp_model.specs.Prelude.{EventId, Key, Reply, Row, Scene, answer}
use Rattle.misp_model.specs.declared.ask.Ask.TheVariants.{SyncEvents, SyncPart}
use Rattle.misp_model.specs.Answers.{Manifested, Packed, Parts}
use Rattle.misp_model.specs.Manifests.{only_of}
use Rattle.misp_model.specs.Package.{nobody}
use Rattle.misp_history.specs.Passing.{Route}

-- the caller asks as a pull by this route does: where it comes from, for its organisation, with a
-- key for the instance that it goes to on its way
pub record PullsBy (route : Route) (s : Scene) : Type 0 where
  pub at : s.at ≡ route.from
  pub by : s.by ≡ route.«for»
  pub partner : s.partner ≡ Some (record { inst = route.dest; way = route.way })

-- the same route, where nobody holds yet what comes
abbrev pub to_nobody : Route → Route
to_nobody route = record route { holder = nobody }

-- the events that a reply lists, each with the number of its packages
unfoldable pub events_in : Reply → List (EventId × ℕ)
events_in (Parts events) = events
events_in reply = []

-- what a reply says of events
unfoldable pub said_in : Reply → List ManifestFields
said_in (Manifested events) = events
said_in reply = []

-- the rows of the package that a reply is
unfoldable pub rows_in : Reply → Option (List Row)
rows_in (Packed p) = Some p.rows
rows_in reply = None

-- the reply with the wanted rows of its package alone, where it is a package
unfoldable pub with_wanted : List Key → Reply → Reply
with_wanted keys (Packed p) = Packed (only_of keys p)
with_wanted keys reply = reply

-- the packages that are answered for so many parts of an event, one after another
unfoldable pub parts_answered : Scene → EventId × ℕ → List (List Row)
parts_answered s event =
    filter_map (λ n. rows_in (answer s (SyncPart event.0 n))) (range_with_len 0 event.1)

-- all packages that are answered, one event after another
unfoldable pub packages_answered : Scene → List (List Row)
packages_answered s = flat_map (parts_answered s) (events_in (answer s SyncEvents))
