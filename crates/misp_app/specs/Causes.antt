-- Why a run ends in a fault, and what it leaves as it was.
use Rattle.std.specs.Prelude.{◌≡◌, ◌≤◌, ℕ, ◌<◌, List, length, map, IfSome, Option, Some}
use Rattle.misp_outside.specs.Causes.{Rose, StaysUnless}
use Rattle.misp_effects.specs.KeeperStates.{OneFailed}
use Rattle.misp_net.specs.Prelude.{KeeperState}
use Rattle.misp_words.specs.Words.{CommandData, Check}
use Rattle.misp_app.specs.Limits.{source_limit}
use Rattle.misp_app.specs.Source.{described, HasFailed, IsUnsound, OthersStay}
use Rattle.misp_app.specs.Status.{HasDial, HasDoor, HasScript, IsStill, IsUnasked}
use Rattle.misp_app.specs.declared.status.Status.{Status}
use Rattle.misp_app.specs.declared.status.Status.TheVariants.{ReadFault, WriteFault, DoorFault, TooMuch, KeeperFault, BadRow}

-- how often what a run uses has failed
pub record Faults : Type 0 where
  pub source : ℕ
  pub sink : ℕ
  pub door : ℕ
  pub carry : ℕ
  pub dial : ℕ

abbrev pub faults : ℕ → ℕ → ℕ → ℕ → ℕ → Faults
faults source sink door carry dial =
    record { source = source; sink = sink; door = door; carry = carry; dial = dial }

-- A fault is told only where its count rose, a source that is too long only where it is, and a bad
-- row only where a keeper may hold one, as far as source and keepers report. No fault of the source
-- is told as anything else, and the counts of what carries and of the dial do not fall.
pub record HasCauses (source : Option (List ℕ)) (old new : List KeeperState)
    (before after : Faults) (status : Status) : Type 0 where
  pub read : status ≡ ReadFault → Rose before.source after.source
  pub write : status ≡ WriteFault → Rose before.sink after.sink
  pub door : status ≡ DoorFault → Rose before.door after.door
  pub too_much : status ≡ TooMuch → IfSome source (λ left. source_limit < length left)
  pub keeper : status ≡ KeeperFault → IfSome source (λ left. HasFailed (described left) old new)
  pub bad_row : status ≡ BadRow → IfSome source (λ left. IsUnsound (described left) new)
  pub stays : StaysUnless before.source after.source (status ≡ ReadFault)
  pub carry : before.carry ≤ after.carry
  pub dial : before.dial ≤ after.dial

-- neither source, sink, door nor a keeper failed
pub record IsFaultless (old new : List KeeperState) (before after : Faults) : Type 0 where
  pub source : Rose before.source after.source → ⊥
  pub sink : Rose before.sink after.sink → ⊥
  pub door : Rose before.door after.door → ⊥
  pub keepers : OneFailed old new → ⊥

-- Each keeper is in its place; and what the command has no use for, or was not come to, is as it
-- was.
pub record LeavesAlone {K C D L T : Type 0} (state : K → KeeperState)
    (command : Option CommandData) (source : Option (List ℕ)) (old new : List K)
    (carry carry_left : C) (door door_left : D) (dial dial_left : L) (clock clock_left : T)
    (status : Status) : Type 0 where
  pub places : length new ≡ length old
  pub others : IfSome source (λ left. OthersStay (described left) (map state old) (map state new))
  pub still : IsStill status → new ≡ old
  pub checked : command ≡ Some Check → new ≡ old
  pub untouched : (HasScript command → ⊥) → carry_left ≡ carry
  pub undialled : (HasDial command → ⊥) → dial_left ≡ dial
  pub unasked : IsUnasked status → dial_left ≡ dial
  pub indoors : (HasDoor command → ⊥) → (door_left ≡ door) × (clock_left ≡ clock)
