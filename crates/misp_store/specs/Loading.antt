-- Why what a keeper holds is not loaded.
use Rattle.std.specs.Prelude.{◌≡◌, ℕ, List, Result, Err}
use Rattle.misp_outside.specs.declared.fault.KeeperFault.{KeeperFault}
use Rattle.misp_store.specs.declared.fault.RowFault.{RowFault}
use Rattle.misp_store.specs.declared.fault.LoadFault.{LoadFault}

-- where the fault is a row that does not decode, it is the first such row
abbrev pub NamesFault : {A : Type 0} → Result A (List ℕ) → LoadFault → Type 0
NamesFault read (LoadFault.BadRow name) = read ≡ Err name
NamesFault read LoadFault.KeeperFault = Unit {0}
NamesFault read LoadFault.NoMemory = Unit {0}

-- a keeper that stopped, as a fault of loading
abbrev pub stopped : KeeperFault → LoadFault
stopped KeeperFault.Failed = LoadFault.KeeperFault
stopped KeeperFault.NoMemory = LoadFault.NoMemory

-- rows that were not read, as a fault of loading
abbrev pub unread : RowFault → LoadFault
unread (RowFault.BadRow name) = LoadFault.BadRow name
unread RowFault.NoMemory = LoadFault.NoMemory
