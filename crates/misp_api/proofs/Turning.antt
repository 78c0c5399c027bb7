-- What is refused by its form is refused just so.
use Rattle.std.proofs.Common.{◌≡◌, Bool, true, false, refl, sym, subst, ◌∙◌, inl, inr, Result, Ok, Err, IfErr, OnErr}
use Rattle.std.proofs.lemmas.Result.{IfErr-at_err}
use Rattle.misp_core.specs.Planning.{unplanned, IsBarred}
use Rattle.misp_core.specs.declared.planning.NoPlan.{NoPlan}
use Rattle.misp_api.specs.Prelude.{AskFault, Command, Commanded, Gives, Reading, Reply, RequestData, RuleName, Standing, barred, by_keeper, fault_reply, form_of, is_allowed, read_of, refused_by, stop_in}
use Rattle.misp_api.specs.Refusing.{IsTurnedAway, TurnsAway}
use Rattle.misp_api.specs.Answering.{permitted}
use Rattle.misp_api.proofs.Forms.{allowed}
use Rattle.misp_api.proofs.Replying.{ByForm, read_by_form, no_keeper_in}

-- ---- what was not read

-- memory may run out whatever the form
pub out_of_memory : {A : Type 0} (i : Standing) (read : Reading A) → TurnsAway read i i (fault_reply AskFault.NoMemory)
out_of_memory i (Ok x) = tt
out_of_memory i (Err refusal) = record { just = inr refl; no_fault = λ is. absurd cc; still = refl }

pub turned_by_fault : {A : Type 0} (i : Standing) (read : Reading A) (fault : AskFault) → Gives (Err fault) read → ByForm read → TurnsAway read i i (fault_reply fault)
turned_by_fault i read (AskFault.Refused refusal) given formed =
    subst (λ r. TurnsAway r i i (fault_reply (AskFault.Refused refusal))) (sym given)
    (record { just = inl refl; no_fault = no_keeper_in refusal (subst ByForm given formed); still = refl })
turned_by_fault i read AskFault.NoMemory given formed = out_of_memory i read

-- what was not read is turned away by its form
pub turned_unread : (i : Standing) (request : RequestData) (fault : AskFault) → Gives (Err fault) (read_of i.admin request)
    → TurnsAway (form_of i.admin request) i i (fault_reply fault)
turned_unread i request (AskFault.Refused refusal) given =
    subst (λ read. TurnsAway (permitted read) i i (fault_reply (AskFault.Refused refusal))) (sym given)
    (record { just = inl refl; no_fault = no_keeper_in refusal (subst ByForm given (read_by_form i.admin request)); still = refl })
turned_unread i request AskFault.NoMemory given = out_of_memory i (form_of i.admin request)

-- ---- what was read

not_barred : (command : Command) → stop_in (Reply.Refused (barred command)) ≡ by_keeper → ⊥
not_barred command is = absurd cc

no_memory : stop_in (refused_by RuleName.NoMemory) ≡ by_keeper → ⊥
no_memory is = absurd cc

-- what the role forbids is refused just so
pub turned_there : {A : Type 0} (old mid new : Standing) (command : Command) (planned : Result A NoPlan) (reply : Reply) → IsBarred (barred command) old mid planned
    → IfErr planned (λ no. reply ≡ unplanned no) → OnErr planned (new ≡ mid) → IsTurnedAway (barred command) old new reply
turned_there old mid new command planned reply bars is still = elim bars.just [
  | inl e ↦
      let just : reply ≡ Reply.Refused (barred command) = IfErr-at_err (λ no. reply ≡ unplanned no) e is in
      record { just = inl just; no_fault = λ told. not_barred command (subst (λ r. stop_in r ≡ by_keeper) just told); still = IfErr-at_err (λ no. new ≡ mid) e still ∙ bars.still }
  | inr e ↦
      let just : reply ≡ refused_by RuleName.NoMemory = IfErr-at_err (λ no. reply ≡ unplanned no) e is in
      record { just = inr just; no_fault = λ told. no_memory (subst (λ r. stop_in r ≡ by_keeper) just told); still = IfErr-at_err (λ no. new ≡ mid) e still ∙ bars.still }
]

-- and where memory runs out for its text, it stands as it stood
pub lost_there : {A : Type 0} (old mid new : Standing) (command : Command) (planned : Result A NoPlan) → IsBarred (barred command) old mid planned
    → OnErr planned (new ≡ mid) → IsTurnedAway (barred command) old new (refused_by RuleName.NoMemory)
lost_there old mid new command planned bars still = elim bars.just [
  | inl e ↦ record { just = inr refl; no_fault = no_memory; still = IfErr-at_err (λ no. new ≡ mid) e still ∙ bars.still }
  | inr e ↦ record { just = inr refl; no_fault = no_memory; still = IfErr-at_err (λ no. new ≡ mid) e still ∙ bars.still }
]

by_role : (may : Bool) (it : Commanded) (old new : Standing) (reply : Reply) → (may ≡ false → IsTurnedAway (barred it.1) old new reply) → TurnsAway (allowed may it) old new reply
by_role true it old new reply turned = tt
by_role false it old new reply turned = turned refl

pub turned_by_step : (old new : Standing) (request : RequestData) (it : Commanded) (reply : Reply) → read_of old.admin request ≡ Ok it
    → (is_allowed it ≡ false → IsTurnedAway (barred it.1) old new reply) → TurnsAway (form_of old.admin request) old new reply
turned_by_step old new request it reply is turned =
    subst (λ read. TurnsAway (permitted read) old new reply) (sym is) (by_role (is_allowed it) it old new reply turned)

-- what was read is not turned away
pub not_turned : {A : Type 0} (old new : Standing) (read : Reading A) (x : A) (reply : Reply) → read ≡ Ok x → TurnsAway read old new reply
not_turned old new read x reply is = subst (λ r. TurnsAway r old new reply) (sym is) tt
