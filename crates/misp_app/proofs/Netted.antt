-- A script that was run, or not to its end.
use Rattle.std.proofs.Common.{◌≡◌, ℕ, List, length, take, inl, inr, refl, sym, subst, Option, Some, None, Ok, Err, IfOk, IfSome}
use Rattle.misp_script.specs.Directory.{directory_of}
use Rattle.misp_script.specs.Faults.{Reading}
use Rattle.misp_script.specs.Source.{script_part}
use Rattle.misp_effects.proofs.KeeperStates.{all_kept}
use Rattle.misp_store.specs.Sharing.{WereSound}
use Rattle.misp_net.specs.Carrying.{Carried}
use Rattle.misp_net.specs.Opening.{AreOpened, IsStoppedBy, opened_states}
use Rattle.misp_net.specs.Prelude.{AreDistinct, Description, Host, KeeperState, described_hosts, lines_of}
use Rattle.misp_net.specs.Promise.{IsNetRun}
use Rattle.misp_net.specs.declared.places.NetFault.{NetFault}
use Rattle.misp_net.proofs.Openings.{kept_or_opened}
use Rattle.misp_net.proofs.Scripts.{all_ran}
use Rattle.misp_app.specs.Ends.{IsPutEnd, IsReadEnd}
use Rattle.misp_app.specs.Net.{EndsTold}
use Rattle.misp_app.specs.Source.{described}
use Rattle.misp_app.specs.Status.{Writes, Wrote, status_after}
use Rattle.misp_app.specs.declared.status.Status.{Status}

module _ (tells : List ℕ → List ℕ) (net : Description) (script : List ℕ) (old new : List KeeperState) (before after : Carried) (written behind : Option (List ℕ)) where
  -- its lines were run, and what tells of them was written so
  pub ran_ends : (lines : List ℕ) (status : Status) → AreDistinct (described_hosts net) → WereSound (take (length net.instances) old) (take (length net.instances) new)
      → ((hosts : List Host) × AreOpened (described_hosts net) (opened_states (take (length net.instances) old)) (take (length net.instances) new) hosts
      × IsNetRun hosts (lines_of (directory_of net) script) (opened_states (take (length net.instances) old)) (take (length net.instances) new) before after lines)
      → IsPutEnd status → (Writes status → Wrote status written behind (tells lines)) → EndsTold tells status net script old new before after written behind
  ran_ends lines Status.Done distinct sound ran end wrote = record { lines = lines; distinct = distinct; sound = sound; hosts = ran.0; opened = ran.1; ran = ran.2; written = wrote tt }
  ran_ends lines Status.WriteFault distinct sound ran end wrote = record { lines = lines; distinct = distinct; sound = sound; hosts = ran.0; opened = ran.1; ran = ran.2; written = wrote tt }
  ran_ends lines Status.OutOfMemory distinct sound ran end wrote = inr (ran.0, ran.1, all_ran _ _ _ _ before after lines ran.2.run)
  ran_ends lines Status.Stopped distinct sound ran end wrote = tt
  ran_ends lines Status.Usage distinct sound ran end wrote = tt
  ran_ends lines Status.ReadFault distinct sound ran end wrote = tt
  ran_ends lines Status.BadDescription distinct sound ran end wrote = tt
  ran_ends lines Status.NoSuchInstance distinct sound ran end wrote = tt
  ran_ends lines Status.DoorFault distinct sound ran end wrote = tt
  ran_ends lines Status.TooMuch distinct sound ran end wrote = tt
  ran_ends lines Status.KeeperFault distinct sound ran end wrote = tt
  ran_ends lines Status.BadRow distinct sound ran end wrote = tt

  -- it was stopped
  pub stopped_ends : (fault : NetFault) (status : Status) → status ≡ status_after fault
      → IsStoppedBy (described_hosts net) (lines_of (directory_of net) script) (take (length net.instances) old) (take (length net.instances) new) before.passed after.passed fault
      → EndsTold tells status net script old new before after written behind
  stopped_ends NetFault.KeeperFault status is stopped = subst (λ s. EndsTold tells s net script old new before after written behind) (sym is) tt
  stopped_ends NetFault.BadRow status is stopped = subst (λ s. EndsTold tells s net script old new before after written behind) (sym is) tt
  stopped_ends NetFault.NoMemory status is stopped = subst (λ s. EndsTold tells s net script old new before after written behind) (sym is) stopped

-- ---- where it was not begun

module _ (tells : List ℕ → List ℕ) (old : List KeeperState) (carry : Carried) (written behind : Option (List ℕ)) where
  none_ends : (net : Description) (script : List ℕ) → EndsTold tells Status.OutOfMemory net script old old carry carry written behind
  none_ends net script = inl (kept_or_opened _ _ (all_kept (take (length net.instances) old)), refl)

  -- memory ran out while it was described
  pub undescribed : (read : Reading Description) (script : List ℕ) → IfOk read (λ net. EndsTold tells Status.OutOfMemory net script old old carry carry written behind)
  undescribed (Ok net) script = none_ends net script
  undescribed (Err fault) script = tt

  none_said : (read : Reading Description) → IfOk read (λ net. Unit {0})
  none_said (Ok net) = tt
  none_said (Err fault) = tt

  -- its source was not read to its end
  pub unread : (status : Status) (read : Reading Description) (script : List ℕ) → IsReadEnd status → IfOk read (λ net. EndsTold tells status net script old old carry carry written behind)
  unread Status.ReadFault read script end = none_said read
  unread Status.TooMuch read script end = none_said read
  unread Status.OutOfMemory read script end = undescribed read script
  unread Status.Done read script end = absurd end
  unread Status.Stopped read script end = absurd end
  unread Status.Usage read script end = absurd end
  unread Status.WriteFault read script end = absurd end
  unread Status.BadDescription read script end = absurd end
  unread Status.NoSuchInstance read script end = absurd end
  unread Status.DoorFault read script end = absurd end
  unread Status.KeeperFault read script end = absurd end
  unread Status.BadRow read script end = absurd end

  -- whatever it had left
  pub read_ended : (status : Status) (source : Option (List ℕ)) → IsReadEnd status
      → IfSome source (λ left. IfOk (described left) (λ net. EndsTold tells status net (script_part left) old old carry carry written behind))
  read_ended status None end = tt
  read_ended status (Some left) end = unread status (described left) (script_part left) end
