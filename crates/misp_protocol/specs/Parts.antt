-- The parts of a manifest.
use Rattle.std.specs.Prelude.{◌≡◌, ◌<◌, ◌^◌, ℕ, suc, List, [], ◌∷◌}
use Rattle.std.specs.List.{flat_map}
use Rattle.std.specs.List.Sorted.{IsStrictlySortedBy}
use Rattle.misp_lists.specs.Prelude.{Ordering, nat_cmp}
use Rattle.misp_elem.specs.Prelude.{AllByRecursion, EventId, IsUid}
use Rattle.misp_manifest.specs.Manifest.{IsKeysOfPart, IsManifestEvent}
use Rattle.misp_manifest.specs.declared.manifest.KeyStamp.{KeyStamp}
use Rattle.misp_manifest.specs.declared.manifest.ManifestFields.{ManifestFields}
use Rattle.misp_protocol.specs.declared.part_keys.PartKeysFields.{PartKeysFields}

-- ---- a part

-- a part of an event, as many as four bytes count, with the keys of one package
pub record IsPartKeys (p : PartKeysFields) : Type 0 where
  pub event : IsUid p.event.0
  pub part : p.part < 2 ^ 32
  pub keys : IsKeysOfPart p.event p.keys

-- ---- the parts of a manifest

-- lists of keys as parts of an event, numbered from here on
abbrev pub parts_from : EventId → ℕ → List (List KeyStamp) → List PartKeysFields
parts_from e n [] = []
parts_from e n (keys ∷ rest) =
    record { event = e; part = n; keys = keys } ∷ parts_from e (suc n) rest

-- of an event, numbered from 0
abbrev pub parts_of : ManifestFields → List PartKeysFields
parts_of m = parts_from m.event 0 m.parts

-- of each event, in their order
abbrev pub parts_listed : List ManifestFields → List PartKeysFields
parts_listed events = flat_map parts_of events

-- ---- what a manifest can list

-- by the identifier of the event
abbrev pub by_event : ManifestFields → ManifestFields → Ordering
by_event a b = nat_cmp a.event.0.0 b.event.0.0

-- they are the parts of events that ascend
pub record IsListed (parts : List PartKeysFields) : Type 0 where
  pub events : List ManifestFields
  pub listed : parts ≡ parts_listed events
  pub each : AllByRecursion IsManifestEvent events
  pub ascend : IsStrictlySortedBy by_event events
