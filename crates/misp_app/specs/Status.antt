-- How a run ends.
use Rattle.std.specs.Prelude.{◌≡◌, ◌⊎◌, ℕ, ◌<◌, ◌≤◌, List, Option, Some}
use Rattle.std.specs.Io.KnownBytes.{Appends}
use Rattle.misp_http.specs.Streams.{AppendsSome}
use Rattle.misp_net.specs.declared.places.NetFault.{NetFault}
use Rattle.misp_words.specs.Words.{CommandData, Gen, Net, Serve, Sync}
use Rattle.misp_app.specs.Limits.{least_keepers}
use Rattle.misp_app.specs.declared.status.Status.{Status}
use Rattle.misp_app.specs.declared.status.Status.TheVariants.{Done, Stopped, Usage, ReadFault, WriteFault, BadDescription, NoSuchInstance, DoorFault, OutOfMemory, TooMuch, KeeperFault, BadRow}

-- how a run ends where the run of its script ends so
abbrev pub status_after : NetFault → Status
status_after NetFault.KeeperFault = KeeperFault
status_after NetFault.BadRow = BadRow
status_after NetFault.NoMemory = OutOfMemory

-- the exit status of the program
abbrev pub status_code : Status → ℕ
status_code Done = 0
status_code Stopped = 1
status_code Usage = 2
status_code ReadFault = 3
status_code WriteFault = 4
status_code BadDescription = 5
status_code NoSuchInstance = 6
status_code DoorFault = 7
status_code OutOfMemory = 8
status_code TooMuch = 9
status_code KeeperFault = 10
status_code BadRow = 11

-- nothing was written
abbrev pub IsSilent : Status → Type 0
IsSilent Usage = Unit {0}
IsSilent ReadFault = Unit {0}
IsSilent OutOfMemory = Unit {0}
IsSilent NoSuchInstance = Unit {0}
IsSilent TooMuch = Unit {0}
IsSilent KeeperFault = Unit {0}
IsSilent BadRow = Unit {0}
IsSilent status = ⊥

-- the same by command: where connections are served, lines may be written before memory runs out
abbrev pub WritesNothing : Option CommandData → Status → Type 0
WritesNothing (Some (Serve words)) OutOfMemory = ⊥
WritesNothing command status = IsSilent status

-- something was written: all of a text, or some of it
abbrev pub Writes : Status → Type 0
Writes Done = Unit {0}
Writes WriteFault = Unit {0}
Writes status = ⊥

-- the instances did not open
abbrev pub IsUnopened : Status → Type 0
IsUnopened KeeperFault = Unit {0}
IsUnopened BadRow = Unit {0}
IsUnopened status = ⊥

-- no keeper was asked
abbrev pub IsStill : Status → Type 0
IsStill Usage = Unit {0}
IsStill ReadFault = Unit {0}
IsStill BadDescription = Unit {0}
IsStill NoSuchInstance = Unit {0}
IsStill TooMuch = Unit {0}
IsStill status = ⊥

-- no peer was asked
abbrev pub IsUnasked : Status → Type 0
IsUnasked KeeperFault = Unit {0}
IsUnasked BadRow = Unit {0}
IsUnasked status = IsStill status

-- How a command may end where the source decides so: as decided; by a fault of the source or where
-- memory ran out, at any time; and by another fault only where it came that far.
abbrev pub EndsAs : Status → CommandData → Status → Type 0
EndsAs ReadFault command decided = Unit {0}
EndsAs OutOfMemory command decided = Unit {0}
EndsAs WriteFault command decided = (decided ≡ Done) ⊎ (decided ≡ BadDescription)
EndsAs KeeperFault command decided = decided ≡ Done
EndsAs BadRow command decided = decided ≡ Done
EndsAs DoorFault (Serve words) decided = decided ≡ Done
EndsAs Stopped (Sync words) decided = decided ≡ Done
EndsAs status command decided = status ≡ decided

-- a synchronisation was refused or stopped, and its line says by what
abbrev pub IsSyncStopped : CommandData → Status → Type 0
IsSyncStopped (Sync words) status = status ≡ Stopped
IsSyncStopped command status = ⊥

-- how a command ends where the source decides so, and nothing fails
abbrev pub Finishes : CommandData → Status → Status → Type 0
Finishes command decided status =
    (status ≡ OutOfMemory) ⊎ IsSyncStopped command status ⊎ (status ≡ decided)

-- connections are served
abbrev pub HasDoor : Option CommandData → Type 0
HasDoor (Some (Serve words)) = Unit {0}
HasDoor command = ⊥

-- a peer may be asked
abbrev pub HasDial : Option CommandData → Type 0
HasDial (Some (Sync words)) = Unit {0}
HasDial command = ⊥

-- a script is run
abbrev pub HasScript : Option CommandData → Type 0
HasScript (Some Net) = Unit {0}
HasScript (Some (Gen count)) = Unit {0}
HasScript command = ⊥

-- there are as many keepers as a description has instances at most, or one of the instance that
-- is served or synchronised
abbrev pub HasKeepers : Option CommandData → ℕ → Type 0
HasKeepers (Some (Serve words)) count = 0 < count
HasKeepers (Some (Sync words)) count = 0 < count
HasKeepers command count = least_keepers ≤ count

-- the line of a fault was written, where the description has one
abbrev pub TellsFault : Status → Type 0
TellsFault BadDescription = Unit {0}
TellsFault WriteFault = Unit {0}
TellsFault status = ⊥

-- this is what was written, all of it, or some where the sink failed
abbrev pub Wrote : Status → Option (List ℕ) → Option (List ℕ) → List ℕ → Type 0
Wrote WriteFault before after bytes = AppendsSome before after bytes
Wrote status before after bytes = Appends before after bytes
