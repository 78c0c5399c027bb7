-- Groups that a caller hands in, and what it comes to.
use Rattle.std.specs.Prelude.{List, [], ◌∷◌, length, if◌then◌else◌}
use Rattle.misp_groups.specs.Prelude.{Stamp}
use Rattle.misp_orgs.specs.Keys.{CallerFields as Caller}
use Rattle.misp_orgs.specs.Roles.{permits}
use Rattle.misp_orgs.specs.declared.role.Perm.{Perm}
use Rattle.misp_model.specs.Permission.{no_permission}
use Rattle.misp_effects.specs.Batches.{batch}
use Rattle.misp_effects.specs.Effect.{effect}
use Rattle.misp_store.specs.Prelude.{Batch, Effect, Group}
use Rattle.misp_core.specs.Effects.{refused}
use Rattle.misp_core.specs.Keeping.{caller_at}
use Rattle.misp_core.specs.Standing.{Host}
use Rattle.misp_core.specs.Taking.{groups_taken}
use Rattle.misp_core.specs.declared.reply.Answer.{Answer}
use Rattle.misp_core.specs.declared.reply.Reply.{Reply}
use Rattle.misp_history.specs.Acts as model

-- groups are one batch, and no groups are none
abbrev pub group_batches : List Group → List Batch
group_batches [] = []
group_batches (group ∷ groups) = batch [] (group ∷ groups) ∷ []

-- these groups are put, and it is told how many they are
abbrev pub groups_put : List Group → Effect Reply
groups_put groups = effect (Reply.Ok (Answer.Taken (length groups))) (group_batches groups)

-- the groups that a caller hands in, where these are the groups: the role of the caller must permit
-- to synchronise, and those are put that are taken
abbrev pub groups_handed : Caller → List Group → List Group → Effect Reply
groups_handed caller coming groups =
    if permits caller.role Perm.Sync then groups_put (groups_taken groups coming)
    else refused (no_permission Perm.Sync)

-- groups that are handed in there, as an act
abbrev pub act_handing : Host → Stamp → Caller → List Group → model.Act
act_handing host now caller coming =
    record {
      at = host.name;
      now = now;
      command = model.Takes_groups (caller_at host.admin caller) coming;
    }
