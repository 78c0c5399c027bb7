-- Rows by their events, how many packages there are of each, and what a manifest says of it.
use Rattle.std.specs.Prelude.{◌≡◌, ◌-◌, ◌^◌, ℕ, zero, suc, List, Option, None, Some, Bool}
use Rattle.std.specs.List.Sorted.{IsNonDecreasingBy}
use Rattle.misp_elem.specs.Fields.{IsBetween}
use Rattle.misp_manifest.specs.Manifest.{IsManifestEvent}
use Rattle.misp_manifest.specs.declared.manifest.ManifestFields.{ManifestFields}
use Rattle.misp_model.specs.Machine.{event_number, event_rows}
use Rattle.misp_model.specs.Prelude.{EventId, Group, Inst, OrgId, Row}
use Rattle.misp_groups.specs.Audience.{carries}
use Rattle.misp_core.specs.declared.reply.EventParts.{EventParts}

-- the group carries what the organisation takes to the instance
abbrev pub carries_to : OrgId → Inst → Group → Bool
carries_to org dest group = carries group org dest

-- the rows rise by the numbers of their events
abbrev pub Rises : List Row → Type 0
Rises rows = IsNonDecreasingBy event_number rows

-- the list rises, and has of each event the same rows in the same order
pub record IsByEvent (list rows : List Row) : Type 0 where
  pub rises : Rises list
  pub same : (e : EventId) → event_rows e list ≡ event_rows e rows

-- it is of this event, and counts from one to as many as four bytes do
pub record IsCountOf (which : EventId) (e : EventParts) : Type 0 where
  pub event : e.event ≡ which
  pub parts : IsBetween 1 (2 ^ 32 - 1) e.parts

-- the event of a number
abbrev pub event_at : ℕ → EventId
event_at n = record { 0 = record { 0 = n } }

-- an event with so many packages, where there is one
abbrev pub parts_where : EventId → ℕ → Option EventParts
parts_where e zero = None
parts_where e (suc n) = Some (record { event = e; parts = suc n })

-- it says so of this event, in the form that its type keeps
pub record IsSaidOf (which : EventId) (m : ManifestFields) : Type 0 where
  pub event : m.event ≡ which
  pub fits : IsManifestEvent m
