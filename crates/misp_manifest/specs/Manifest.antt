-- What a manifest says of an event: the keys of its packages, and their stamps.
use Rattle.std.specs.Prelude.{◌-◌, ◌^◌, List, [], ◌∷◌, length, map, Option, Some, None}
use Rattle.misp_elem.specs.Prelude.{AllByRecursion, EventId, IsBetween, IsKey, IsStamp, IsUid}
use Rattle.misp_elem.specs.declared.key.KeyForm.{KeyForm}
use Rattle.misp_elem.specs.declared.row.RowFields.{RowFields}
use Rattle.misp_elem.specs.WireReading.{IsKeyAfter}
use Rattle.misp_manifest.specs.declared.manifest.KeyStamp.{KeyStamp}
use Rattle.misp_manifest.specs.declared.manifest.ManifestFields.{ManifestFields}

-- ---- what it says

-- of a row
abbrev pub key_stamp : RowFields → KeyStamp
key_stamp row = record { key = row.key; stamp = row.stamp }

-- of an event that is carried in packages of these rows
abbrev pub said_of : EventId → List (List RowFields) → ManifestFields
said_of e packages = record { event = e; parts = map (map key_stamp) packages }

-- of an event that is carried in no package it says nothing
abbrev pub manifest_event : EventId → List (List RowFields) → Option ManifestFields
manifest_event e [] = None
manifest_event e (p ∷ ps) = Some (said_of e (p ∷ ps))

-- ---- what can be said

-- each is a key of the event after the one before it, with its stamp; before all stands nothing,
-- and the event's own key comes first
abbrev pub AreStampedAfter : EventId → Option KeyForm → List KeyStamp → Type 0
AreStampedAfter e before [] = Unit {0}
AreStampedAfter e before (k ∷ ks) =
    ((IsKey k.key × IsKeyAfter e before k.key) × IsStamp k.stamp)
    × AreStampedAfter e (Some k.key) ks

-- the keys of one package: 1 to 65, of which the first is the event's own and which ascend
pub record IsKeysOfPart (e : EventId) (keys : List KeyStamp) : Type 0 where
  pub count : IsBetween 1 65 (length keys)
  pub stamped : AreStampedAfter e None keys

-- one package at least, and as many as four bytes count
pub record IsManifestEvent (m : ManifestFields) : Type 0 where
  pub event : IsUid m.event.0
  pub count : IsBetween 1 (2 ^ 32 - 1) (length m.parts)
  pub parts : AllByRecursion (IsKeysOfPart m.event) m.parts
