-- What commands need to be permitted, and what they come to.
use Rattle.std.specs.Prelude.{ℕ, Bool, true, false, if◌then◌else◌}
use Rattle.misp_orgs.specs.Roles.{permits}
use Rattle.misp_orgs.specs.declared.role.Perm.{Perm}
use Rattle.misp_model.specs.Machine.{pulls}
use Rattle.misp_model.specs.Permission.{permission_of, no_permission}
use Rattle.misp_core.specs.HandedGroups.{groups_put}
use Rattle.misp_core.specs.Managing.{managed}
use Rattle.misp_core.specs.Prelude.{Caller, Effect, Host, IsBuilt, Refusal, Seen, administered, asked_where, refused}
use Rattle.misp_core.specs.Sound.{syncs}
use Rattle.misp_core.specs.Taking.{groups_taken}
use Rattle.misp_core.specs.declared.reply.Reply.{Reply}
use Rattle.misp_api.specs.declared.command.Command.{Command}

-- a command, and whose it is
abbrev pub Commanded : Type 0
Commanded = Caller × Command

-- what it asks is built
abbrev pub AsksBuilt : Command → Type 0
AsksBuilt (Command.Asks ask) = IsBuilt ask
AsksBuilt (Command.TakesGroups groups) = Unit {0}
AsksBuilt (Command.Shares add g) = Unit {0}
AsksBuilt (Command.Manages ask) = Unit {0}

-- ---- roles

-- what is to be permitted for a command
abbrev pub permission_needed : Command → Perm
permission_needed (Command.Asks ask) = permission_of ask
permission_needed (Command.TakesGroups groups) = Perm.Sync
permission_needed (Command.Shares add g) = Perm.Group
permission_needed (Command.Manages ask) = Perm.Admin

-- the role of its caller permits it
abbrev pub is_allowed : Commanded → Bool
is_allowed it = permits it.0.role (permission_needed it.1)

-- the refusal of a command that is not permitted
abbrev pub barred : Command → Refusal
barred command = no_permission (permission_needed command)

-- ---- pulls and pushes

-- whether it is what a pull asks
abbrev pub is_pulling : Command → Bool
is_pulling (Command.Asks ask) = pulls ask
is_pulling (Command.TakesGroups groups) = false
is_pulling (Command.Shares add g) = false
is_pulling (Command.Manages ask) = false

-- whether it is what a synchronisation asks
abbrev pub is_syncing : Command → Bool
is_syncing (Command.Asks ask) = syncs ask
is_syncing (Command.TakesGroups groups) = true
is_syncing (Command.Shares add g) = false
is_syncing (Command.Manages ask) = false

-- ---- what commands come to

-- what a command of this caller comes to, where this is seen: of groups that are handed in those
-- are put that are taken, one that is added or edited is administered by the caller's organisation,
-- and what a site administrator asks is looked for in the administration of the moment
abbrev pub command_effect : Host → ℕ → Caller → Command → Seen → Effect Reply
command_effect host now caller (Command.Asks ask) seen = asked_where host now (caller, ask) seen
command_effect host now caller (Command.TakesGroups coming) seen =
    groups_put (groups_taken seen.groups coming)
command_effect host now caller (Command.Shares add g) seen =
    administered now caller.org add g seen.groups
command_effect host now caller (Command.Manages ask) seen = managed host.admin ask

-- the same, where the role of the caller must permit it
abbrev pub commanded : Host → ℕ → Commanded → Seen → Effect Reply
commanded host now it seen =
    if is_allowed it then command_effect host now it.0 it.1 seen else refused (barred it.1)
