-- What a request of a site administrator comes to, and what it leaves of the administration.
use Rattle.std.specs.Prelude.{◌≡◌, List, [], ◌∷◌, Option, None, Some, Result, Ok, Err, if◌then◌else◌}
use Rattle.misp_orgs.specs.Keys.{CallerFields as Caller}
use Rattle.misp_orgs.specs.Roles.{permits}
use Rattle.misp_orgs.specs.declared.role.Perm.{Perm}
use Rattle.misp_groups.specs.Prelude.{Stamp, bare}
use Rattle.misp_admins.specs.Asks.{item_of, why_not}
use Rattle.misp_admins.specs.Made.{put_item}
use Rattle.misp_admins.specs.declared.ask.AdminAsk.{AdminAsk}
use Rattle.misp_admins.specs.declared.item.Item.{Item}
use Rattle.misp_effects.specs.Batches.{item_batch}
use Rattle.misp_effects.specs.Effect.{effect}
use Rattle.misp_model.specs.Permission.{no_permission}
use Rattle.misp_store.specs.Prelude.{Admin, Effect, RuleName}
use Rattle.misp_core.specs.Effects.{refused}
use Rattle.misp_core.specs.Keeping.{caller_at}
use Rattle.misp_core.specs.Planning.{Refuses}
use Rattle.misp_core.specs.Standing.{Host}
use Rattle.misp_core.specs.declared.planning.NoPlan.{NoPlan}
use Rattle.misp_core.specs.declared.reply.Answer.{Answer}
use Rattle.misp_core.specs.declared.reply.Reply.{Reply}
use Rattle.misp_history.specs.Acts as model

-- ---- what it comes to

-- the item is put, and one was taken
abbrev pub item_made : Item → Effect Reply
item_made item = effect (Reply.Ok (Answer.Taken 1)) (item_batch item ∷ [])

-- what it comes to where this is the first rule against it, if there is one, and this is made
abbrev pub managed_by : Option RuleName → Option Item → Effect Reply
managed_by None (Some item) = item_made item
managed_by None None = refused (bare RuleName.NoRoute)
managed_by (Some rule) item = refused (bare rule)

-- an ask, where this is the administration
abbrev pub managed : Admin → AdminAsk → Effect Reply
managed admin ask = managed_by (why_not admin ask) (item_of admin ask)

-- the ask of a caller, whose role must permit it
abbrev pub asked_managed : Admin → Caller → AdminAsk → Effect Reply
asked_managed admin caller ask =
    if permits caller.role Perm.Admin then managed admin ask
    else refused (no_permission Perm.Admin)

-- this is planned, or refused: the item that is made, if there is one
abbrev pub PlansItem : Result Item NoPlan → Effect Reply → Type 0
PlansItem (Ok item) e = e ≡ item_made item
PlansItem (Err (NoPlan.Refused refusal)) e = Refuses refusal e
PlansItem (Err NoPlan.KeeperFault) e = ⊥
PlansItem (Err NoPlan.NoMemory) e = Unit {0}

-- ---- what it leaves

-- the administration with this, if there is something
abbrev pub put_made : Option Item → Admin → Admin
put_made None admin = admin
put_made (Some item) admin = put_item item admin

-- the administration after the ask was replied so
abbrev pub managed_after : AdminAsk → Admin → Reply → Admin
managed_after ask admin (Reply.Ok answer) = put_made (item_of admin ask) admin
managed_after ask admin (Reply.Refused refusal) = admin

-- what a caller made there, as an act
abbrev pub act_making : Host → Stamp → Caller → Item → model.Act
act_making host now caller item =
    record {
      at = host.name;
      now = now;
      command = model.Makes (caller_at host.admin caller) item;
    }
