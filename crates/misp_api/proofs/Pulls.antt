-- What a pull asks changes nothing that is held, and what a synchronisation is replied is sound.
use Rattle.std.proofs.Common.{◌≡◌, ◌<◌, ℕ, Bool, true, false, List, [], map, length, refl, sym, ap, ◌∙◌, subst, inl, inr, cond, Option, Result, Ok, Err, IfOk}
use Rattle.misp_outside.specs.Reporting.{StaysHeld, WhereReported}
use Rattle.misp_outside.proofs.Reporting.{reported_so}
use Rattle.misp_model.specs.Machine.{pulls}
use Rattle.misp_model.specs.Answers.{brings, is_accepted}
use Rattle.misp_model.specs.Scene.{Scene}
use Rattle.misp_effects.specs.Batches.{put_batches}
use Rattle.misp_effects.specs.Effect.{Outcome, Stopped, Went, left, under}
use Rattle.misp_core.specs.Answers.{writes_in}
use Rattle.misp_core.specs.Effects.{asked_over, read_where, row_batches, telling}
use Rattle.misp_core.specs.Planning.{IsBarred, unplanned}
use Rattle.misp_core.specs.Prelude.{Row, spelled}
use Rattle.misp_core.specs.Sound.{IsSound}
use Rattle.misp_core.specs.Text.{reply_text}
use Rattle.misp_core.specs.declared.planning.NoPlan.{NoPlan}
use Rattle.misp_store.specs.Seen.{Seen}
use Rattle.misp_api.specs.Commands.{is_pulling, is_syncing}
use Rattle.misp_api.specs.Prelude.{Ask, Asked, AskFault, Caller, Command, Commanded, Effect, Group, Held, Host, Reading, Reply, RequestData, Standing, barred, command_effect, fault_reply, form_of, is_allowed, read_of, replied, seen_in}
use Rattle.misp_api.specs.Answering.{IsPull, IsReplied, IsSync, permitted}
use Rattle.misp_api.specs.Planned.{IsSoundPlan}
use Rattle.misp_api.specs.declared.TheConstants.{CHANGE_TEXT}
use Rattle.misp_api.specs.declared.planned.Planned.{Planned}
use Rattle.misp_api.proofs.Forms.{allowed}

-- ---- what is held stays

nothing : (accepted : Bool) (rows : List Row) → rows ≡ [] → cond accepted rows [] ≡ []
nothing true rows none = none
nothing false rows none = refl

writes_none : (s : Scene) (ask : Ask) → pulls ask ≡ true → writes_in s ask ≡ []
unfolding pulls writes_in brings
writes_none s Ask.SyncGroups is = nothing (is_accepted s Ask.SyncGroups) [] refl
writes_none s Ask.SyncEvents is = nothing (is_accepted s Ask.SyncEvents) [] refl
writes_none s (Ask.SyncPart e n) is = nothing (is_accepted s (Ask.SyncPart e n)) [] refl
writes_none s Ask.SyncManifest is = nothing (is_accepted s Ask.SyncManifest) [] refl
writes_none s (Ask.SyncRows w) is = nothing (is_accepted s (Ask.SyncRows w)) [] refl
writes_none s (Ask.View e owner) is = absurd cc
writes_none s (Ask.Change c) is = absurd cc
writes_none s (Ask.Propose d) is = absurd cc
writes_none s (Ask.Judge e n accept) is = absurd cc
writes_none s (Ask.Sight e t d) is = absurd cc
writes_none s (Ask.Index page) is = absurd cc
writes_none s (Ask.Search filter whole) is = absurd cc
writes_none s Ask.Groups is = absurd cc
writes_none s (Ask.TakePart p) is = absurd cc

over_none : (host : Host) (now : ℕ) (it : Asked) (groups : List Group) (read : Result (List Row) (List ℕ)) → pulls it.1 ≡ true → (asked_over host now it groups read).batches ≡ []
over_none host now it groups (Ok rows) is = ap row_batches (writes_none _ it.1 is)
over_none host now it groups (Err name) is = refl

command_none : (host : Host) (now : ℕ) (caller : Caller) (command : Command) (seen : Seen) → is_pulling command ≡ true → (command_effect host now caller command seen).batches ≡ []
command_none host now caller (Command.Asks ask) seen is = over_none host now (caller, ask) seen.groups (read_where host now (caller, ask) seen) is
command_none host now caller (Command.TakesGroups groups) seen is = absurd cc
command_none host now caller (Command.Shares add g) seen is = absurd cc
command_none host now caller (Command.Manages ask) seen is = absurd cc

replied_none : (host : Host) (now : ℕ) (form : Reading Commanded) (seen : Seen) → IsPull form → (replied host now form seen).batches ≡ []
replied_none host now (Ok it) seen is = command_none host now it.0 it.1 seen is
replied_none host now (Err refusal) seen is = refl

left_same : (outcome : Outcome) (e : Effect Reply) (held : Held) → e.batches ≡ [] → left spelled (under telling outcome e) held ≡ held
left_same Went e held none = ap (λ batches. put_batches (map spelled batches) held) none
left_same (Stopped stop n lost) e held none = refl

pub stays : {E : Type 0} (r : Result Reply E) (host : Host) (now : ℕ) (form : Reading Commanded) (old new : Option Held)
    → IfOk r (λ reply. WhereReported old new (λ held left. IsReplied host now form held reply left))
    → (IfOk r (λ reply. CHANGE_TEXT < length (reply_text reply)) → StaysHeld old new) → IsPull form → StaysHeld old new
stays (Ok reply) host now form old new replies kept is = reported_so old new _ _ (λ held left did.
    did.held_is ∙ left_same did.outcome (replied host now form (seen_in held)) held (replied_none host now form (seen_in held) is)) replies
stays (Err short) host now form old new replies kept is = kept tt

-- ---- what is replied is sound

pub sound_unplanned : (why : NoPlan) → IsSound (unplanned why)
sound_unplanned (NoPlan.Refused refusal) = tt
sound_unplanned NoPlan.KeeperFault = tt
sound_unplanned NoPlan.NoMemory = tt

pub sound_unread : (fault : AskFault) → IsSound (fault_reply fault)
sound_unread (AskFault.Refused refusal) = tt
sound_unread AskFault.NoMemory = tt

abbrev PlansSound : Result Planned NoPlan → Type 0
PlansSound planned = IfOk planned IsSoundPlan

barred_sound : (refusal : _) (old new : Standing) (planned : Result Planned NoPlan) → IsBarred refusal old new planned → PlansSound planned
barred_sound refusal old new planned bars = elim bars.just [
  | inl e ↦ subst PlansSound (sym e) tt
  | inr e ↦ subst PlansSound (sym e) tt
]

by_role : (may : Bool) (it : Commanded) (planned : Result Planned NoPlan) → (may ≡ false → PlansSound planned) → (is_syncing it.1 ≡ true → PlansSound planned) → IsSync (allowed may it) → PlansSound planned
by_role true it planned bars sound is = sound is
by_role false it planned bars sound is = bars refl

pub sound_told : {E : Type 0} (r : Result Reply E) (old mid : Standing) (request : RequestData) (it : Commanded) (planned : Result Planned NoPlan) → read_of old.admin request ≡ Ok it
    → (is_allowed it ≡ false → IsBarred (barred it.1) old mid planned) → (is_syncing it.1 ≡ true → PlansSound planned)
    → (PlansSound planned → IfOk r IsSound) → IsSync (form_of old.admin request) → IfOk r IsSound
sound_told r old mid request it planned read bars sound told is =
    told (by_role (is_allowed it) it planned (λ not_. barred_sound (barred it.1) old mid planned (bars not_)) sound
    (subst (λ form. IsSync (permitted form)) read is))
