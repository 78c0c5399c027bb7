-- The statuses with which a part of a run ends.
use Rattle.misp_app.specs.declared.status.Status.{Status}
use Rattle.misp_app.specs.declared.status.Status.TheVariants.{Done, Stopped, ReadFault, WriteFault, BadDescription, NoSuchInstance, DoorFault, OutOfMemory, TooMuch, KeeperFault, BadRow}
use Rattle.misp_app.specs.Status.{Writes}

-- the statuses with which reading ends
abbrev pub IsReadEnd : Status → Type 0
IsReadEnd ReadFault = Unit {0}
IsReadEnd OutOfMemory = Unit {0}
IsReadEnd TooMuch = Unit {0}
IsReadEnd status = ⊥

-- the statuses with which writing ends
abbrev pub IsPutEnd : Status → Type 0
IsPutEnd OutOfMemory = Unit {0}
IsPutEnd status = Writes status

-- the statuses with which the telling of a fault ends
abbrev pub IsFaultEnd : Status → Type 0
IsFaultEnd WriteFault = Unit {0}
IsFaultEnd BadDescription = Unit {0}
IsFaultEnd OutOfMemory = Unit {0}
IsFaultEnd status = ⊥

-- the statuses with which a check ends that has read its source
abbrev pub IsSourceEnd : Status → Type 0
IsSourceEnd Done = Unit {0}
IsSourceEnd status = IsFaultEnd status

-- the same of a run
abbrev pub IsRunEnd : Status → Type 0
IsRunEnd KeeperFault = Unit {0}
IsRunEnd BadRow = Unit {0}
IsRunEnd status = IsSourceEnd status

-- the statuses with which serving ends
abbrev pub IsServeEnd : Status → Type 0
IsServeEnd Done = Unit {0}
IsServeEnd WriteFault = Unit {0}
IsServeEnd DoorFault = Unit {0}
IsServeEnd OutOfMemory = Unit {0}
IsServeEnd status = ⊥

-- the same of an instance that is first opened
abbrev pub IsHostEnd : Status → Type 0
IsHostEnd KeeperFault = Unit {0}
IsHostEnd BadRow = Unit {0}
IsHostEnd status = IsServeEnd status

-- the same of an instance that is first found in a description
abbrev pub IsNetServed : Status → Type 0
IsNetServed NoSuchInstance = Unit {0}
IsNetServed status = IsHostEnd status

-- the same where the description is first read
abbrev pub IsSourceServed : Status → Type 0
IsSourceServed BadDescription = Unit {0}
IsSourceServed status = IsNetServed status

-- the statuses with which the writing of the line of a synchronisation ends
abbrev pub IsTellEnd : Status → Type 0
IsTellEnd Stopped = Unit {0}
IsTellEnd status = IsPutEnd status

-- the same where an instance is first opened
abbrev pub IsSyncEnd : Status → Type 0
IsSyncEnd KeeperFault = Unit {0}
IsSyncEnd BadRow = Unit {0}
IsSyncEnd status = IsTellEnd status

-- the same of an instance that is first found in a description
abbrev pub IsNetSynced : Status → Type 0
IsNetSynced NoSuchInstance = Unit {0}
IsNetSynced status = IsSyncEnd status

-- the same where the description is first read
abbrev pub IsSourceSynced : Status → Type 0
IsSourceSynced BadDescription = Unit {0}
IsSourceSynced status = IsNetSynced status
