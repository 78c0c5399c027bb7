-- What a source describes, and the line that tells where it does not.
use Rattle.std.specs.Prelude.{◌≡◌, ◌≤◌, ℕ, true, List, map, length, take, drop, nat_lt, Ok, Err, if◌then◌else◌, Option, Some, option_map}
use Rattle.std.specs.Option.{option_map_or}
use Rattle.misp_script.specs.declared.fault.DescFault.{DescFault}
use Rattle.misp_script.specs.Faults.{Reading}
use Rattle.misp_script.specs.Directory.{directory_of, place_of, roster_names}
use Rattle.misp_script.specs.Source.{description_part}
use Rattle.misp_effects.specs.KeeperStates.{told, OneFailed}
use Rattle.misp_store.specs.Sharing.{may_be_unsound}
use Rattle.misp_net.specs.Prelude.{Description, Host, KeeperState, described_hosts, description_at, host_at, nothing_held}
use Rattle.misp_app.specs.declared.status.Status.{Status}
use Rattle.misp_app.specs.declared.status.Status.TheVariants.{Done, BadDescription, NoSuchInstance, TooMuch}
use Rattle.misp_words.specs.Words.{CommandData, Gen, Serve, Sync}
use Rattle.misp_generated.specs.Script.{source_text}
use Rattle.misp_app.specs.Limits.{source_limit}
use Rattle.misp_app.specs.Streams.{fault_line}

-- what is described by the text before the script, or its first fault
abbrev pub described : List ℕ → Reading Description
described source = description_at (description_part source)

abbrev pub described_status : Reading Description → Status
described_status (Ok net) = Done
described_status (Err fault) = BadDescription

-- the instance of this name, if there is one
abbrev pub host_named : List ℕ → Description → Option Host
host_named name net =
    option_map (λ place. host_at place (described_hosts net))
    (place_of (roster_names (directory_of net)) name)

abbrev pub net_status : List ℕ → Description → Status
net_status name net = option_map_or (λ host. Done) (host_named name net) NoSuchInstance

abbrev pub served_status : List ℕ → Reading Description → Status
served_status name (Ok net) = net_status name net
served_status name (Err fault) = BadDescription

-- the source of a run: that of the generated network, or what is read
abbrev pub source_of : Option CommandData → Option (List ℕ) → Option (List ℕ)
source_of (Some (Gen count)) left = Some (source_text count)
source_of command left = left

-- how a command ends over what is described, unless a fault stops it or memory runs out
abbrev pub status_over : CommandData → Reading Description → Status
status_over (Serve words) read = served_status words.name read
status_over (Sync words) read = served_status words.name read
status_over command read = described_status read

-- the same over this source; one that is generated is never too long
abbrev pub status_of : CommandData → List ℕ → Status
status_of (Gen count) source = described_status (described source)
status_of command source =
    if nat_lt source_limit (length source) then TooMuch else status_over command (described source)

-- a source that is read is not too long
abbrev pub IsWithin : CommandData → List ℕ → Type 0
IsWithin (Gen count) source = Unit {0}
IsWithin command source = length source ≤ source_limit

-- of a description that has a fault, the line of its first fault was written so
abbrev pub IsTold : Reading Description → (List ℕ → Type 0) → Type 0
IsTold (Ok net) Writes = Unit {0}
IsTold (Err (DescFault.Bad path need)) Writes = Writes (fault_line path need)
IsTold (Err DescFault.NoMemory) Writes = ⊥

-- the source describes a network, and as far as the keepers of its instances report, one of them
-- holds a row that is none
abbrev pub IsUnsound : Reading Description → List KeeperState → Type 0
IsUnsound (Ok net) new = may_be_unsound (take (length net.instances) new) ≡ true
IsUnsound (Err fault) new = ⊥

-- the source describes a network, and the count of faults of a keeper of its instances rose
abbrev pub HasFailed : Reading Description → List KeeperState → List KeeperState → Type 0
HasFailed (Ok net) old new =
    OneFailed (take (length net.instances) old) (take (length net.instances) new)
HasFailed (Err fault) old new = ⊥

-- the keepers after those of the instances are as they were
abbrev pub OthersStay : Reading Description → List KeeperState → List KeeperState → Type 0
OthersStay (Ok net) old new = drop (length net.instances) new ≡ drop (length net.instances) old
OthersStay (Err fault) old new = new ≡ old

-- all of them report that they hold nothing
abbrev pub HoldNothing : List KeeperState → Type 0
HoldNothing old = told old ≡ map (λ state. Some nothing_held) old
