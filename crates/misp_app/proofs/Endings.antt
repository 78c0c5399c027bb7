-- How a command ends, by where it came to an end.
use Rattle.std.proofs.Common.{◌≡◌, ℕ, List, true, Option, None, Some, Ok, Err, IfSome, IfOk, inl, inr, refl, sym, subst}
use Rattle.std.specs.Io.KnownBytes.{Appends}
use Rattle.misp_script.specs.Faults.{Reading}
use Rattle.misp_effects.specs.KeeperStates.{OneFailed}
use Rattle.misp_store.specs.Sharing.{may_be_unsound}
use Rattle.misp_net.specs.Lines.{Line}
use Rattle.misp_net.specs.Opening.{IsStoppedBy}
use Rattle.misp_net.specs.Passing.{Trail}
use Rattle.misp_net.specs.Prelude.{Description, Host, KeeperState}
use Rattle.misp_net.specs.declared.places.NetFault.{NetFault}
use Rattle.misp_words.specs.Words.{CommandData, Gen, Net, Serve, ServeData, Sync, SyncData}
use Rattle.misp_app.specs.Checking.{EndsCheck, ok_line}
use Rattle.misp_app.specs.Ends.{IsFaultEnd, IsHostEnd, IsPutEnd, IsSyncEnd}
use Rattle.misp_app.specs.Source.{described, host_named, net_status, source_of, status_of}
use Rattle.misp_app.specs.Status.{EndsAs, Wrote, status_after}
use Rattle.misp_app.specs.Synchronising.{Dialled, EndsSync, HasSyncLine, HasSynced, IsCutSync}
use Rattle.misp_app.specs.declared.status.Status.{Status}

-- ---- by what the source decides

module _ (command : CommandData) (decided : Status) where
  -- where something was written
  pub put_ends : (status : Status) → IsPutEnd status → decided ≡ Status.Done → EndsAs status command decided
  put_ends Status.Done end is = sym is
  put_ends Status.WriteFault end is = inl is
  put_ends Status.OutOfMemory end is = tt
  put_ends Status.Stopped end is = absurd end
  put_ends Status.Usage end is = absurd end
  put_ends Status.ReadFault end is = absurd end
  put_ends Status.BadDescription end is = absurd end
  put_ends Status.NoSuchInstance end is = absurd end
  put_ends Status.DoorFault end is = absurd end
  put_ends Status.TooMuch end is = absurd end
  put_ends Status.KeeperFault end is = absurd end
  put_ends Status.BadRow end is = absurd end

  -- where the fault of a description was told
  pub fault_ends : (status : Status) → IsFaultEnd status → decided ≡ Status.BadDescription → EndsAs status command decided
  fault_ends Status.BadDescription end is = sym is
  fault_ends Status.WriteFault end is = inr is
  fault_ends Status.OutOfMemory end is = tt
  fault_ends Status.Done end is = absurd end
  fault_ends Status.Stopped end is = absurd end
  fault_ends Status.Usage end is = absurd end
  fault_ends Status.ReadFault end is = absurd end
  fault_ends Status.NoSuchInstance end is = absurd end
  fault_ends Status.DoorFault end is = absurd end
  fault_ends Status.TooMuch end is = absurd end
  fault_ends Status.KeeperFault end is = absurd end
  fault_ends Status.BadRow end is = absurd end

  -- where the run of a script was stopped
  pub after_ends : (fault : NetFault) (status : Status) → status ≡ status_after fault → decided ≡ Status.Done → EndsAs status command decided
  after_ends NetFault.KeeperFault status same is = subst (λ s. EndsAs s command decided) (sym same) is
  after_ends NetFault.BadRow status same is = subst (λ s. EndsAs s command decided) (sym same) is
  after_ends NetFault.NoMemory status same is = subst (λ s. EndsAs s command decided) (sym same) tt

-- where an instance was served
pub host_ends : (words : ServeData) (decided status : Status) → IsHostEnd status → decided ≡ Status.Done → EndsAs status (Serve words) decided
host_ends words decided Status.Done end is = sym is
host_ends words decided Status.WriteFault end is = inl is
host_ends words decided Status.OutOfMemory end is = tt
host_ends words decided Status.DoorFault end is = is
host_ends words decided Status.KeeperFault end is = is
host_ends words decided Status.BadRow end is = is
host_ends words decided Status.Stopped end is = absurd end
host_ends words decided Status.Usage end is = absurd end
host_ends words decided Status.ReadFault end is = absurd end
host_ends words decided Status.BadDescription end is = absurd end
host_ends words decided Status.NoSuchInstance end is = absurd end
host_ends words decided Status.TooMuch end is = absurd end

-- where it was synchronised
pub sync_ends : (words : SyncData) (decided status : Status) → IsSyncEnd status → decided ≡ Status.Done → EndsAs status (Sync words) decided
sync_ends words decided Status.Done end is = sym is
sync_ends words decided Status.Stopped end is = is
sync_ends words decided Status.WriteFault end is = inl is
sync_ends words decided Status.OutOfMemory end is = tt
sync_ends words decided Status.KeeperFault end is = is
sync_ends words decided Status.BadRow end is = is
sync_ends words decided Status.Usage end is = absurd end
sync_ends words decided Status.ReadFault end is = absurd end
sync_ends words decided Status.BadDescription end is = absurd end
sync_ends words decided Status.NoSuchInstance end is = absurd end
sync_ends words decided Status.DoorFault end is = absurd end
sync_ends words decided Status.TooMuch end is = absurd end

-- the instance of a name is there
pub named_done : (name : List ℕ) (net : Description) (host : Host) → Some host ≡ host_named name net → net_status name net ≡ Status.Done
named_done name net host is = rw (← is) refl

-- what is generated is run as a script is
pub generated_ends : (count : ℕ) (decided status : Status) → EndsAs status Net decided → EndsAs status (Gen count) decided
generated_ends count decided Status.Done end = end
generated_ends count decided Status.Stopped end = end
generated_ends count decided Status.Usage end = end
generated_ends count decided Status.ReadFault end = end
generated_ends count decided Status.WriteFault end = end
generated_ends count decided Status.BadDescription end = end
generated_ends count decided Status.NoSuchInstance end = end
generated_ends count decided Status.DoorFault end = end
generated_ends count decided Status.OutOfMemory end = end
generated_ends count decided Status.TooMuch end = end
generated_ends count decided Status.KeeperFault end = end
generated_ends count decided Status.BadRow end = end

-- ---- memory ran out

memory_ends : (command : CommandData) (source : Option (List ℕ)) → IfSome source (λ left. EndsAs Status.OutOfMemory command (status_of command left))
memory_ends command None = tt
memory_ends command (Some left) = tt

pub out_of_memory : (o : Option CommandData) (source : Option (List ℕ)) → IfSome o (λ command. IfSome (source_of (Some command) source) (λ left. EndsAs Status.OutOfMemory command (status_of command left)))
out_of_memory None source = tt
out_of_memory (Some command) source = memory_ends command (source_of (Some command) source)

-- ---- why a script was not run to its end

module _ (hosts : List Host) (lines : List Line) (old new : List KeeperState) (before after : Option Trail) where
  -- only a keeper's fault is told as one
  pub by_keeper : (fault : NetFault) (status : Status) → status ≡ status_after fault → IsStoppedBy hosts lines old new before after fault → status ≡ Status.KeeperFault → OneFailed old new
  by_keeper NetFault.KeeperFault status same stopped is = stopped
  by_keeper NetFault.BadRow status same stopped is = absurd (let no_ : Status.KeeperFault ≡ Status.BadRow = cc in cc)
  by_keeper NetFault.NoMemory status same stopped is = absurd (let no_ : Status.KeeperFault ≡ Status.OutOfMemory = cc in cc)

  -- and only a bad row
  pub by_row : (fault : NetFault) (status : Status) → status ≡ status_after fault → IsStoppedBy hosts lines old new before after fault → status ≡ Status.BadRow → may_be_unsound new ≡ true
  by_row NetFault.KeeperFault status same stopped is = absurd (let no_ : Status.BadRow ≡ Status.KeeperFault = cc in cc)
  by_row NetFault.BadRow status same stopped is = stopped
  by_row NetFault.NoMemory status same stopped is = absurd (let no_ : Status.BadRow ≡ Status.OutOfMemory = cc in cc)

-- ---- by how it ended

pub check_ended : (status : Status) (source : Option (List ℕ)) (written behind : Option (List ℕ)) → (status ≡ Status.Done → Appends written behind ok_line)
    → (status ≡ Status.WriteFault → IfSome source (λ left. IfOk (described left) (λ _. Wrote status written behind ok_line))) → EndsCheck status source written behind
check_ended Status.Done source written behind whole part = whole refl
check_ended Status.WriteFault source written behind whole part = part refl
check_ended Status.OutOfMemory source written behind whole part = tt
check_ended Status.Stopped source written behind whole part = tt
check_ended Status.Usage source written behind whole part = tt
check_ended Status.ReadFault source written behind whole part = tt
check_ended Status.BadDescription source written behind whole part = tt
check_ended Status.NoSuchInstance source written behind whole part = tt
check_ended Status.DoorFault source written behind whole part = tt
check_ended Status.TooMuch source written behind whole part = tt
check_ended Status.KeeperFault source written behind whole part = tt
check_ended Status.BadRow source written behind whole part = tt

module _ (asked : SyncData) (old new : List KeeperState) (before after : Dialled) (written behind : Option (List ℕ)) where
  -- of the instance that the words name
  abbrev OfNamed : Option (List ℕ) → (Host → Description → Type 0) → Type 0
  OfNamed source P = IfSome source (λ left. IfOk (described left) (λ net. IfSome (host_named asked.name net) (λ host. P host net)))

  named_any : (o : Option Host) → IfSome o (λ host. Unit {0})
  named_any None = tt
  named_any (Some host) = tt

  read_any : (read : Reading Description) → IfOk read (λ net. IfSome (host_named asked.name net) (λ host. Unit {0}))
  read_any (Ok net) = named_any (host_named asked.name net)
  read_any (Err fault) = tt

  any : (source : Option (List ℕ)) → OfNamed source (λ host net. Unit {0})
  any None = tt
  any (Some left) = read_any (described left)

  pub sync_ended : (status : Status) (source : Option (List ℕ))
      → (HasSyncLine status → OfNamed source (λ host net. HasSynced host asked net.instances old new before after written behind status))
      → (status ≡ Status.OutOfMemory → OfNamed source (λ host net. IsCutSync host asked net.instances old new before after))
      → OfNamed source (λ host net. EndsSync status host asked net.instances old new before after written behind)
  sync_ended Status.Done source line cut = line tt
  sync_ended Status.Stopped source line cut = line tt
  sync_ended Status.WriteFault source line cut = line tt
  sync_ended Status.OutOfMemory source line cut = cut refl
  sync_ended Status.Usage source line cut = any source
  sync_ended Status.ReadFault source line cut = any source
  sync_ended Status.BadDescription source line cut = any source
  sync_ended Status.NoSuchInstance source line cut = any source
  sync_ended Status.DoorFault source line cut = any source
  sync_ended Status.TooMuch source line cut = any source
  sync_ended Status.KeeperFault source line cut = any source
  sync_ended Status.BadRow source line cut = any source
