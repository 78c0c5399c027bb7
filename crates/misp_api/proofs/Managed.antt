-- What a request leaves of the administration, and that what it makes is put.
use Rattle.std.proofs.Common.{◌≡◌, ◌<◌, ◌≤◌, Bool, true, false, length, Option, refl, sym, ◌∙◌, ap, subst, inl, inr, arith, Some, Result, Ok, Err, IfOk, IfErr, OnErr}
use Rattle.misp_ids.specs.declared.refusal.Refusal.{Refusal}
use Rattle.misp_outside.specs.Held.{with_batch}
use Rattle.misp_outside.specs.Reporting.{WhereReported}
use Rattle.misp_outside.proofs.Reporting.{reported_so}
use Rattle.misp_admins.specs.Asks.{item_of}
use Rattle.misp_admins.specs.declared.ask.AdminAsk.{AdminAsk}
use Rattle.misp_admins.specs.Made.{IsItem}
use Rattle.misp_admins.specs.declared.item.Item.{Item}
use Rattle.misp_effects.specs.Batches.{item_batch}
use Rattle.misp_core.specs.Managing.{item_made, managed_after, put_made}
use Rattle.misp_core.specs.Planning.{IsBarred, unplanned}
use Rattle.misp_core.specs.Text.{reply_text}
use Rattle.misp_core.specs.Prelude.{Did, Held, spelled}
use Rattle.misp_core.specs.declared.planning.NoPlan.{NoPlan}
use Rattle.misp_core.specs.declared.reply.Answer.{Answer}
use Rattle.misp_core.proofs.Carried.{DidThere}
use Rattle.misp_api.specs.Prelude.{Admin, AskFault, Command, Commanded, Reading, Reply, RequestData, Standing, barred, fault_reply, form_of, is_allowed, read_of}
use Rattle.misp_api.specs.Answering.{IsSync, admin_after, command_after, permitted}
use Rattle.misp_api.specs.Commands.{is_syncing}
use Rattle.misp_api.specs.Planned.{IsAskedFor, made_after, planned_after}
use Rattle.misp_api.specs.declared.TheConstants.{CHANGE_TEXT}
use Rattle.misp_api.specs.declared.planned.Planned.{Planned}
use Rattle.misp_api.proofs.Forms.{allowed}
use Rattle.misp_effects.specs.Effect as effects

-- ---- it stays

command_refused : (command : Command) (admin : Admin) (refusal : Refusal) → command_after command admin (Reply.Refused refusal) ≡ admin
command_refused (Command.Asks ask) admin refusal = refl
command_refused (Command.TakesGroups groups) admin refusal = refl
command_refused (Command.Shares add g) admin refusal = refl
command_refused (Command.Manages ask) admin refusal = refl

-- a refusal leaves it as it is
pub after_refusal : (form : Reading Commanded) (admin : Admin) (refusal : Refusal) → admin_after form admin (Reply.Refused refusal) ≡ admin
after_refusal (Ok it) admin refusal = command_refused it.1 admin refusal
after_refusal (Err other) admin refusal = refl

after_unplanned : (form : Reading Commanded) (admin : Admin) (why : NoPlan) → admin_after form admin (unplanned why) ≡ admin
after_unplanned form admin (NoPlan.Refused refusal) = after_refusal form admin refusal
after_unplanned form admin NoPlan.KeeperFault = after_refusal form admin _
after_unplanned form admin NoPlan.NoMemory = after_refusal form admin _

-- so does what was not read
pub after_unread : (form : Reading Commanded) (admin : Admin) (fault : AskFault) → admin ≡ admin_after form admin (fault_reply fault)
after_unread form admin (AskFault.Refused refusal) = sym (after_refusal form admin refusal)
after_unread form admin AskFault.NoMemory = sym (after_refusal form admin _)

-- and what a synchronisation asks
command_synced : (command : Command) (admin : Admin) (reply : Reply) → is_syncing command ≡ true → command_after command admin reply ≡ admin
command_synced (Command.Asks ask) admin reply is = refl
command_synced (Command.TakesGroups groups) admin reply is = refl
command_synced (Command.Shares add g) admin reply is = refl
command_synced (Command.Manages ask) admin reply is = absurd cc

after_sync : (form : Reading Commanded) (admin : Admin) (reply : Reply) → IsSync form → admin_after form admin reply ≡ admin
after_sync (Ok it) admin reply is = command_synced it.1 admin reply is
after_sync (Err refusal) admin reply is = refl

-- whether memory runs out for its text or not
pub sync_stays : {E : Type 0} (r : Result Reply E) (form : Reading Commanded) (old new : Admin) → IfOk r (λ reply. new ≡ admin_after form old reply)
    → (IfOk r (λ reply. CHANGE_TEXT < length (reply_text reply)) → new ≡ old) → IsSync form → new ≡ old
sync_stays (Ok reply) form old new left unchanged is = left ∙ after_sync form old reply is
sync_stays (Err short) form old new left unchanged is = unchanged tt

-- ---- what was planned

item_after : (admin : Admin) (ask : AdminAsk) (item : Item) (reply : Reply) → item_of admin ask ≡ Some item → made_after item admin reply ≡ managed_after ask admin reply
item_after admin ask item (Reply.Ok answer) is = sym (ap (λ made. put_made made admin) is)
item_after admin ask item (Reply.Refused refusal) is = refl

plan_after : (admin : Admin) (command : Command) (planned : Planned) (reply : Reply) → IsAskedFor admin command planned → planned_after (Ok planned) admin reply ≡ command_after command admin reply
plan_after admin (Command.Manages ask) (Planned.Made item) reply is = item_after admin ask item reply is
plan_after admin (Command.Manages ask) (Planned.Rows plan) reply is = absurd is
plan_after admin (Command.Asks ask) (Planned.Made item) reply is = absurd is
plan_after admin (Command.Asks ask) (Planned.Rows plan) reply is = refl
plan_after admin (Command.TakesGroups groups) (Planned.Made item) reply is = absurd is
plan_after admin (Command.TakesGroups groups) (Planned.Rows plan) reply is = refl
plan_after admin (Command.Shares add g) (Planned.Made item) reply is = absurd is
plan_after admin (Command.Shares add g) (Planned.Rows plan) reply is = refl

-- what the role forbids is not planned
plans_none : {refusal : Refusal} {old new : Standing} (planned : Result Planned NoPlan) (p : Planned) → IsBarred refusal old new planned → planned ≡ Ok p → ⊥
plans_none planned p bars is = elim bars.just [
  | inl e ↦ absurd cc
  | inr e ↦ absurd cc
]

by_role : (may : Bool) (it : Commanded) (planned : Result Planned NoPlan) (admin : Admin) (reply : Reply) → (may ≡ false → (p : Planned) → planned ≡ Ok p → ⊥) → IfOk planned (IsAskedFor admin it.1)
    → IfErr planned (λ why. reply ≡ unplanned why) → planned_after planned admin reply ≡ admin_after (allowed may it) admin reply
by_role true it (Ok p) admin reply bars asked none = plan_after admin it.1 p reply asked
by_role false it (Ok p) admin reply bars asked none = absurd (bars refl p refl)
by_role may it (Err why) admin reply bars asked none = sym (subst (λ r. admin_after (allowed may it) admin r ≡ admin) (sym none) (after_unplanned (allowed may it) admin why))

-- what was planned for a request that was read is left as its form says
pub admin_told : {E : Type 0} (r : Result Reply E) (old mid new : Standing) (request : RequestData) (it : Commanded) (planned : Result Planned NoPlan) → read_of old.admin request ≡ Ok it
    → (is_allowed it ≡ false → IsBarred (barred it.1) old mid planned) → IfOk planned (IsAskedFor old.admin it.1) → IfErr planned (λ why. IfOk r (λ reply. reply ≡ unplanned why))
    → mid.admin ≡ old.admin → IfOk r (λ reply. new.admin ≡ planned_after planned mid.admin reply) → IfOk r (λ reply. new.admin ≡ admin_after (form_of old.admin request) old.admin reply)
admin_told (Ok reply) old mid new request it planned is bars asked none same left =
    left
    ∙ ap (λ admin. planned_after planned admin reply) same
    ∙ by_role (is_allowed it) it planned old.admin reply (λ not_ p found. plans_none planned p (bars not_) found) asked none
    ∙ ap (λ read. admin_after (permitted read) old.admin reply) (sym is)
admin_told (Err short) old mid new request it planned is bars asked none same left = tt

-- ---- what is put

made_one : (item : Item) (held now : Held) → IsItem item → now ≡ with_batch (spelled (item_batch item)) held → Did (item_made item) held (Reply.Ok (Answer.Taken 1)) now
made_one item held now is put = record {
  outcome = effects.Went;
  agree = refl;
  reply_is = refl;
  held_is = put;
  fits = (record { rows = tt; groups = tt; items = (is, tt) }, tt);
}

-- an item that is put was made
pub made_did : (item : Item) (old new : Option Held) → IsItem item → WhereReported old new (λ held now. now ≡ with_batch (spelled (item_batch item)) held)
    → DidThere (item_made item) old (Reply.Ok (Answer.Taken 1)) new
made_did item old new is = reported_so old new _ _ (λ held now put. made_one item held now is put)

-- where the text is short, the instance is as it was only where memory ran out for it
pub short_kept : {E : Type 0} (r : Result Reply E) (old new : Standing) {P : Type 0} → (new ≡ old → P) → IfOk r (λ reply. length (reply_text reply) ≤ CHANGE_TEXT) → OnErr r (new ≡ old)
    → IfOk r (λ reply. CHANGE_TEXT < length (reply_text reply)) → P
short_kept (Ok reply) old new follows short same long = absurd (omega (arith, short, long))
short_kept (Err stop) old new follows short same long = follows same
