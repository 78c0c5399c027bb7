-- Groups that callers add and edit, and what it comes to.
use Rattle.std.specs.Prelude.{Bool, List, if◌then◌else◌}
use Rattle.misp_groups.specs.Prelude.{Stamp}
use Rattle.misp_orgs.specs.Keys.{CallerFields as Caller}
use Rattle.misp_orgs.specs.Roles.{permits}
use Rattle.misp_orgs.specs.declared.role.Perm.{Perm}
use Rattle.misp_model.specs.Permission.{no_permission}
use Rattle.misp_store.specs.Prelude.{Effect, Group}
use Rattle.misp_core.specs.Administering.{administered}
use Rattle.misp_core.specs.Effects.{refused}
use Rattle.misp_core.specs.Keeping.{caller_at}
use Rattle.misp_core.specs.Standing.{Host}
use Rattle.misp_core.specs.declared.reply.Reply.{Reply}
use Rattle.misp_history.specs.Acts as model

-- the group that a caller adds or edits, where these are the groups: the role of the caller must
-- permit it, and it is administered by the organisation of the caller
abbrev pub group_shared : Stamp → Caller → Bool → Group → List Group → Effect Reply
group_shared now caller add g groups =
    if permits caller.role Perm.Group then administered now caller.org add g groups
    else refused (no_permission Perm.Group)

-- a group that a caller adds or edits there, as an act
abbrev pub act_sharing : Host → Stamp → Caller → Bool → Group → model.Act
act_sharing host now caller add g =
    record {
      at = host.name;
      now = now;
      command = model.Shares (caller_at host.admin caller) add g;
    }
