-- What passed between the instances for the lines of a script, as bytes in their order.
use Rattle.std.specs.Prelude.{◌≡◌, ℕ, ◌==◌, Bool, true, false, List, [], ◌∷◌, Option, option_map}
use Rattle.misp_script.specs.Step.{SyncData}
use Rattle.misp_effects.specs.KeeperStates.{AreKept, state_at}
use Rattle.misp_core.specs.Prelude.{Held, Host, KeeperState, Standing}
use Rattle.misp_core.specs.Standing.{standing}
use Rattle.misp_dialogue.specs.Parties.{GrowsBy}
use Rattle.misp_sync.specs.Synchronised.{IsTrailOver}
use Rattle.misp_sync.specs.declared.reply.SyncReply.{SyncReply}
use Rattle.misp_net.specs.Acts.{Deed, Done, Syncs}
use Rattle.misp_net.specs.Hosts.{host_at}
use Rattle.misp_net.specs.Links.{link_at, place_of_peer}
use Rattle.misp_net.specs.Run.{IsDone}
use Rattle.misp_net.specs.Walk.{hosts_done}
use Rattle.misp_net.specs.declared.line.Output.{Output}
use Rattle.misp_net.specs.declared.line.Output.TheVariants.{Synced}

-- the byte strings that carried what an act asked and was answered
abbrev pub Trail : Type 0
Trail = List (List ℕ)

-- who the instance of a place is, and what its keeper holds, where it reports that
abbrev pub told_at : List Host → List KeeperState → ℕ → Option (Host × Held)
told_at hosts states place =
    option_map (λ held. (host_at place hosts, held)) (state_at place states).held

-- the instance of a place, as it stands over its keeper
abbrev pub stands_at : List Host → List KeeperState → ℕ → Standing
stands_at hosts states place =
    let host : Host = host_at place hosts in
    let keeper : KeeperState = state_at place states in
    standing host.name host.admin keeper.held keeper.faults

-- where a link leads to no other instance, nothing passed
abbrev pub UnlessHere : Bool → (Trail → Type 0) → Trail → Type 0
UnlessHere true P trail = trail ≡ []
UnlessHere false P trail = P trail

-- For a synchronisation its requests and their replies passed, each once, from the first on, and
-- all of them where it is done. These keepers were there before it, and these after it.
abbrev pub IsSyncPassed : List Host → List KeeperState → List KeeperState → SyncData → SyncReply
    → Trail → Type 0
IsSyncPassed hosts old new line reply trail =
    UnlessHere (place_of_peer hosts line.at line.link == line.at)
    (IsTrailOver line.direction (link_at hosts line.at line.link) (stands_at hosts old line.at)
    (state_at line.at new).held (told_at hosts old (place_of_peer hosts line.at line.link))
    (told_at hosts new (place_of_peer hosts line.at line.link)) reply)
    trail

-- for any other deed nothing passed
abbrev pub IsPassed : List Host → List KeeperState → List KeeperState → Deed → Output → Trail
    → Type 0
IsPassed hosts old new (Syncs line) (Synced reply) trail =
    IsSyncPassed hosts old new line reply trail
IsPassed hosts old new deed output trail = trail ≡ []

abbrev pub IsPassedFor : List Host → List KeeperState → List KeeperState → Done → Trail → Type 0
IsPassedFor hosts old new (Done.One act output) trail =
    IsPassed hosts old new act.deed output trail
IsPassedFor hosts old new (Done.Session time word at reads replies end) trail = trail ≡ []

-- One line after another was done over what the one before it left, and these byte strings passed
-- for it. What is held at the end is what the last of them left.
abbrev pub Passes : List Host → List Done → List KeeperState → List KeeperState
    → Option Trail → Option Trail → Type 0
Passes hosts [] old new before after = AreKept old new × (after ≡ before)
Passes hosts (d ∷ dones) old new before after =
    (left : List KeeperState) × (between : Option Trail) × IsDone hosts d old left
    × GrowsBy before between (IsPassedFor hosts old left d)
    × Passes (hosts_done hosts d) dones left new between after
