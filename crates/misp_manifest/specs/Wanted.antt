-- Which rows of a package are wanted.
use Rattle.std.specs.Prelude.{◌≡◌, ◌<◌, ◌^◌, List, [], ◌∷◌, length, Option, Some, None}
use Rattle.misp_elem.specs.Prelude.{EventId, IsBetween, IsKey, IsUid, event_of}
use Rattle.misp_elem.specs.declared.key.KeyForm.{KeyForm}
use Rattle.misp_elem.specs.WireReading.{IsKeyAfter}
use Rattle.misp_manifest.specs.declared.wanted.WantedFields.{WantedFields}

-- the key is one of the event, and stands after the one before it, where there is one
abbrev pub IsOwnKeyAfter : EventId → Option KeyForm → KeyForm → Type 0
IsOwnKeyAfter e None k = event_of k ≡ e
IsOwnKeyAfter e (Some before) k = IsKeyAfter e (Some before) k

-- each does so
abbrev pub AreOwnAfter : EventId → Option KeyForm → List KeyForm → Type 0
AreOwnAfter e before [] = Unit {0}
AreOwnAfter e before (k ∷ ks) =
    (IsKey k × IsOwnKeyAfter e before k) × AreOwnAfter e (Some k) ks

-- 1 to 65 keys of the event, which ascend
pub record IsWanted (w : WantedFields) : Type 0 where
  pub event : IsUid w.event.0
  pub part : w.part < 2 ^ 32
  pub count : IsBetween 1 65 (length w.keys)
  pub keys : AreOwnAfter w.event None w.keys
