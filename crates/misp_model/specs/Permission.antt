-- What a role has to permit for an ask, and the refusal where it does not.
use Rattle.std.specs.Prelude.{Bool}
use Rattle.misp_ids.specs.declared.refusal.Refusal.{Refusal}
use Rattle.misp_ids.specs.declared.refusal.RuleName.{RuleName}
use Rattle.misp_orgs.specs.Keys.{CallerFields as Caller}
use Rattle.misp_orgs.specs.declared.role.Perm.{Perm}
use Rattle.misp_orgs.specs.Roles.{permits, perm_name}
use Rattle.misp_model.specs.Prelude.{Ask, Change}

-- to release an event is a permission of its own, and every other change is writing
abbrev pub change_permission : Change → Perm
change_permission (Change.Publish event) = Perm.Publish
change_permission (Change.AddEvent submission) = Perm.Write
change_permission (Change.AddParts event parts) = Perm.Write
change_permission (Change.EditEvent event edit) = Perm.Write
change_permission (Change.EditAttribute event place edit) = Perm.Write
change_permission (Change.EditObject event object edit) = Perm.Write
change_permission (Change.Delete event place) = Perm.Write
change_permission (Change.DeleteReference event object reference) = Perm.Write
change_permission (Change.Tag event place tag) = Perm.Write
change_permission (Change.Untag event place name) = Perm.Write
change_permission (Change.DeleteEvent event) = Perm.Write

-- what is to be permitted for an ask
abbrev pub permission_of : Ask → Perm
permission_of (Ask.View event owner) = Perm.Read
permission_of (Ask.Index page) = Perm.Read
permission_of (Ask.Search filter whole) = Perm.Read
permission_of Ask.Groups = Perm.Read
permission_of (Ask.Change change) = change_permission change
permission_of (Ask.Propose draft) = Perm.Propose
permission_of (Ask.Judge event proposal accept) = Perm.Write
permission_of (Ask.Sight event target draft) = Perm.Sight
permission_of Ask.SyncGroups = Perm.Sync
permission_of Ask.SyncEvents = Perm.Sync
permission_of (Ask.SyncPart event part) = Perm.Sync
permission_of Ask.SyncManifest = Perm.Sync
permission_of (Ask.SyncRows wanted) = Perm.Sync
permission_of (Ask.TakePart part) = Perm.Sync

-- the role of the caller permits the ask
abbrev pub is_permitted : Caller → Ask → Bool
is_permitted caller ask = permits caller.role (permission_of ask)

-- the refusal of what a role does not permit
abbrev pub no_permission : Perm → Refusal
no_permission perm = record { name = RuleName.NoPermission; place = perm_name perm }

-- the refusal of an ask that is not permitted
abbrev pub forbidden : Ask → Refusal
forbidden ask = no_permission (permission_of ask)
