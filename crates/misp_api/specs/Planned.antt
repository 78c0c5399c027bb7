-- What a command is planned to do.
use Rattle.std.specs.Prelude.{◌≡◌, Some, Result, Ok, Err}
use Rattle.misp_admins.specs.Asks.{item_of}
use Rattle.misp_admins.specs.Made.{put_item}
use Rattle.misp_admins.specs.declared.item.Item.{Item}
use Rattle.misp_core.specs.Managing.{item_made}
use Rattle.misp_core.specs.Planning.{IsPlan, Refuses}
use Rattle.misp_core.specs.Prelude.{Admin, Effect}
use Rattle.misp_core.specs.Sound.{IsSoundAnswer}
use Rattle.misp_core.specs.declared.planning.NoPlan.{NoPlan}
use Rattle.misp_core.specs.declared.reply.Reply.{Reply}
use Rattle.misp_api.specs.declared.command.Command.{Command}
use Rattle.misp_api.specs.declared.planned.Planned.{Planned}

-- what is planned in this form, as what is planned of a command
abbrev pub planned_as : {A : Type 0} → (A → Planned) → Result A NoPlan → Result Planned NoPlan
planned_as form (Ok x) = Ok (form x)
planned_as form (Err why) = Err why

-- it has this effect
abbrev pub HasEffect : Planned → Effect Reply → Type 0
HasEffect (Planned.Rows plan) e = IsPlan plan e
HasEffect (Planned.Made item) e = e ≡ item_made item

-- it has this effect, or is this refusal; a keeper's fault and running out of memory say nothing
abbrev pub PlansCommand : Result Planned NoPlan → Effect Reply → Type 0
PlansCommand (Ok planned) e = HasEffect planned e
PlansCommand (Err (NoPlan.Refused refusal)) e = Refuses refusal e
PlansCommand (Err _) e = Unit {0}

-- what is answered can be read back from its text
abbrev pub IsSoundPlan : Planned → Type 0
IsSoundPlan (Planned.Rows plan) = IsSoundAnswer plan.answer
IsSoundPlan (Planned.Made item) = Unit {0}

-- an item is planned where a site administrator asks for it, and no other command makes one
abbrev pub IsAskedFor : Admin → Command → Planned → Type 0
IsAskedFor admin (Command.Manages ask) (Planned.Made item) = item_of admin ask ≡ Some item
IsAskedFor admin (Command.Manages ask) (Planned.Rows plan) = ⊥
IsAskedFor admin command (Planned.Made item) = ⊥
IsAskedFor admin command (Planned.Rows plan) = Unit {0}

-- the administration after an item was replied so
abbrev pub made_after : Item → Admin → Reply → Admin
made_after item admin (Reply.Ok answer) = put_item item admin
made_after item admin (Reply.Refused refusal) = admin

-- the same after what was planned
abbrev pub planned_after : Result Planned NoPlan → Admin → Reply → Admin
planned_after (Ok (Planned.Made item)) admin reply = made_after item admin reply
planned_after planned admin reply = admin
