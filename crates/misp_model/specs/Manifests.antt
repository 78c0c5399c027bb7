-- The manifest of what a pull by the partner of the caller's key brings, and a package with some of
-- its rows alone.
use Rattle.std.specs.Prelude.{Bool, ◌||◌, List, Option, filter, map, option_map}
use Rattle.misp_lists.specs.Order.{in_order}
use Rattle.misp_elem.specs.declared.key.KeyForm.{KeyForm as Key}
use Rattle.misp_elem.specs.declared.row.RowFields.{RowFields as Row}
use Rattle.misp_elem.specs.Prelude.{EventId, event_key, event_of, list_any, same_key}
pub use Rattle.misp_manifest.specs.Manifest.{said_of}
use Rattle.misp_manifest.specs.declared.manifest.ManifestFields.{ManifestFields}
use Rattle.misp_manifest.specs.declared.wanted.WantedFields.{WantedFields}
use Rattle.misp_model.specs.declared.package.PackageFields.{PackageFields}
use Rattle.misp_model.specs.Packing.{is_own}
use Rattle.misp_model.specs.Pulling.{pulled_packages, pulled_part, pulled_rows}
use Rattle.misp_model.specs.RowOrder.{stands_before}
use Rattle.misp_model.specs.Scene.{Scene}

-- ---- manifests

-- what a manifest says of each event of which something arrives, in their order
unfoldable pub pulled_manifest : Scene → List ManifestFields
pulled_manifest s =
    map (λ row. said_of (event_of row.key) (pulled_packages s (event_of row.key)))
    (filter is_own (in_order stands_before (pulled_rows s)))

-- ---- some rows of a package

-- the row is the event's own, or of one of the keys
unfoldable pub is_asked_for : EventId → List Key → Row → Bool
is_asked_for e keys row = same_key row.key (event_key e) || list_any (same_key row.key) keys

-- the package with the event's own row and those of the keys
unfoldable pub only_of : List Key → PackageFields → PackageFields
only_of keys p = record p { rows = filter (is_asked_for p.event keys) p.rows }

-- the wanted rows of a package, where there is such a package
unfoldable pub pulled_only : Scene → WantedFields → Option PackageFields
pulled_only s w = option_map (only_of w.keys) (pulled_part s w.event w.part)
