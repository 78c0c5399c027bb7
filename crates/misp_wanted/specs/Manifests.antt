-- What is a manifest.
use Rattle.std.specs.Prelude.{◌≡◌, ◌-◌, ◌^◌, true, List, [], ◌∷◌, length, Option, Some, None}
use Rattle.misp_elem.specs.Prelude.{EventId, IsBetween}
use Rattle.misp_manifest.specs.Manifest.{IsManifestEvent}
use Rattle.misp_manifest.specs.declared.manifest.ManifestFields.{ManifestFields}
use Rattle.misp_wanted.specs.ManifestReading.{stands_after}

-- each is what a manifest says of an event, and its event stands after the one before it, where
-- there is one
abbrev pub AreEventsAfter : Option EventId → List ManifestFields → Type 0
AreEventsAfter before [] = Unit {0}
AreEventsAfter before (m ∷ ms) =
    (IsManifestEvent m × (stands_after before m.event ≡ true))
    × AreEventsAfter (Some m.event) ms

-- as many events as four bytes count, in strictly ascending order of their identifiers
pub record IsManifest (ms : List ManifestFields) : Type 0 where
  pub count : IsBetween 0 (2 ^ 32 - 1) (length ms)
  pub events : AreEventsAfter None ms
