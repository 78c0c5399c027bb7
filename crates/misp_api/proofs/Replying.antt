-- The reply to a request by its form.
use Rattle.std.proofs.Common.{◌≡◌, ◌⊎◌, ℕ, Bool, true, false, List, refl, sym, ◌∙◌, subst, inl, inr, Option, Some, None, Result, Ok, Err, bytes_eq, if◌then◌else◌}
use Rattle.misp_outside.specs.Reporting.{WhereReported}
use Rattle.misp_outside.proofs.Reporting.{reported_so}
use Rattle.misp_effects.specs.declared.stop.Side.TheVariants.{Here}
use Rattle.misp_effects.specs.Effect.{Stopped}
use Rattle.misp_core.specs.Prelude.{Did, Refusal, bare, host_of, refused}
use Rattle.misp_api.specs.Prelude.{Admin, AskFault, Caller, Command, Commanded, Effect, FormatFault, Gives, Held, Host, Reading, Reply, RequestData, Route, RuleName, Standing, Stop, barred, command_of}
use Rattle.misp_api.specs.Prelude.{by_keeper, caller_in, command_effect, commanded, fault_reply, form_of, formed, is_allowed, read_of, replied, route_of, seen_in, stop_in}
use Rattle.misp_api.specs.Route.{method_of, route_at, by_method}
use Rattle.misp_api.proofs.Built.{command_is}
use Rattle.misp_api.proofs.Forms.{allowed}
use Rattle.misp_api.specs.Answering.{by_body, by_route, permitted, IsReplied}
use Rattle.misp_effects.specs.Effect as effects

-- what an instance comes to by a command is what its form comes to, by whether the role permits it
command_replied : (host : Host) (now : ℕ) (it : Commanded) (may : Bool) (held : Held)
    → replied host now (allowed may it) (seen_in held)
    ≡ (if may then command_effect host now it.0 it.1 (seen_in held) else refused (barred it.1))
command_replied host now it true held = refl
command_replied host now it false held = refl

-- a command is answered by the instance
pub by_step : (i : Standing) (now : ℕ) (request : RequestData) (it : Commanded) (reply : Reply) (old new : Option Held)
    → read_of i.admin request ≡ Ok it → WhereReported old new (λ held left. Did (commanded (host_of i) now it (seen_in held)) held reply left)
    → WhereReported old new (λ held left. IsReplied (host_of i) now (form_of i.admin request) held reply left)
by_step i now request it reply old new is = reported_so old new _ _ (λ held left did.
    subst (λ read. IsReplied (host_of i) now (permitted read) held reply left) (sym is)
    (subst (λ e. Did e held reply left) (sym (command_replied (host_of i) now it (is_allowed it) held)) did))

-- a refusal by the form of a request comes from no keeper, and from memory only where memory ran out
abbrev pub IsFormal : Refusal → Type 0
IsFormal refusal = (stop_in (Reply.Refused refusal) ≡ None) ⊎ (refusal ≡ bare RuleName.NoMemory)

abbrev pub ByForm : {A : Type 0} → Reading A → Type 0
ByForm (Ok x) = Unit {0}
ByForm (Err refusal) = IsFormal refusal

pub formed_by_form : {A : Type 0} (read : Result A FormatFault) → ByForm (formed read)
formed_by_form (Ok x) = tt
formed_by_form (Err FormatFault.NoJson) = inl refl
formed_by_form (Err (FormatFault.BadField path need)) = inl refl
formed_by_form (Err (FormatFault.BinaryType path)) = inl refl
formed_by_form (Err FormatFault.NoMemory) = inr refl

command_by_form : (here : List ℕ) (route : Route) (body : List ℕ) (word : ℕ) → ByForm (command_of here route body word)
command_by_form = command_is ByForm (λ ask built. tt) (λ read built. formed_by_form read)

body_by_form : (caller : Caller) (read : Reading Command) → ByForm read → ByForm (by_body caller read)
body_by_form caller (Ok command) formed = tt
body_by_form caller (Err refusal) formed = formed

-- the rule of a path that is none, or of another method, stops no request
abbrev ByRoute : Result Route RuleName → Type 0
ByRoute (Ok route) = Unit {0}
ByRoute (Err rule) = IsFormal (bare rule)

method_by_form : (same : Bool) (route : Route) → ByRoute (if same then Ok route else Err RuleName.NoMethod)
method_by_form true route = tt
method_by_form false route = inl refl

path_by_form : (method : List ℕ) (route : Option Route) → ByRoute (by_method method route)
path_by_form method None = inl refl
path_by_form method (Some route) = method_by_form (bytes_eq method (method_of route)) route

target_by_form : (method target : List ℕ) → ByRoute (route_of method target)
unfolding route_of
target_by_form method target = path_by_form method (route_at method target)

route_by_form : (here : List ℕ) (route : Result Route RuleName) (caller : Option Caller) (body : List ℕ) (word : ℕ) → ByRoute route → ByForm (by_route here route caller body word)
route_by_form here (Err rule) caller body word formed = formed
route_by_form here (Ok route) None body word formed = inl refl
route_by_form here (Ok route) (Some caller) body word formed = body_by_form caller (command_of here route body word) (command_by_form here route body word)

pub read_by_form : (admin : Admin) (request : RequestData) → ByForm (read_of admin request)
unfolding read_of
read_by_form admin request = route_by_form request.here (route_of request.method request.target) (caller_in admin request.key) request.body request.word (target_by_form request.method request.target)

-- where memory ran out, nothing is left
pub out_of_memory : (e : Effect Reply) (held : Held) → Did e held (fault_reply AskFault.NoMemory) held
out_of_memory e held = record { outcome = Stopped (Stop.Memory Here) 0 false; agree = refl; reply_is = refl; held_is = refl; fits = tt }

-- such a refusal is the stated one
formal_reply : (held : Held) (refusal : Refusal) → IsFormal refusal → Did (refused refusal) held (Reply.Refused refusal) held
formal_reply held refusal (inl none) = record { outcome = effects.Went; agree = sym none; reply_is = refl; held_is = refl; fits = tt }
formal_reply held refusal (inr out) =
    subst (λ r. Did (refused r) held (Reply.Refused r) held) (sym out) (out_of_memory (refused (bare RuleName.NoMemory)) held)

-- what was not read is refused, and what is held stays
pub by_fault : {A : Type 0} (comes : Reading A → Effect Reply) → ((refusal : Refusal) → comes (Err refusal) ≡ refused refusal)
    → (read : Reading A) (fault : AskFault) (held : Held) → Gives (Err fault) read → ByForm read → Did (comes read) held (fault_reply fault) held
by_fault comes refuses read (AskFault.Refused refusal) held given formed =
    let formal : IsFormal refusal = subst ByForm given formed in
    subst (λ r. Did (comes r) held (Reply.Refused refusal) held) (sym given)
    (subst (λ e. Did e held (Reply.Refused refusal) held) (sym (refuses refusal)) (formal_reply held refusal formal))
by_fault comes refuses read AskFault.NoMemory held given formed = out_of_memory (comes read) held

pub refused_by_form : (i : Standing) (now : ℕ) (request : RequestData) (fault : AskFault) (old : Option Held)
    → Gives (Err fault) (read_of i.admin request)
    → WhereReported old old (λ held left. IsReplied (host_of i) now (form_of i.admin request) held (fault_reply fault) left)
refused_by_form i now request fault None given = tt
refused_by_form i now request fault (Some held) given =
    by_fault (λ read. replied (host_of i) now (permitted read) (seen_in held)) (λ refusal. refl)
    (read_of i.admin request) fault held given (read_by_form i.admin request)

pub no_keeper_in : (refusal : Refusal) → IsFormal refusal → stop_in (Reply.Refused refusal) ≡ by_keeper → ⊥
no_keeper_in refusal (inl none) is = let both : None ≡ by_keeper = sym none ∙ is in absurd cc
no_keeper_in refusal (inr out) is = absurd cc

-- no keeper failed where a request was not read
pub no_keeper : (admin : Admin) (request : RequestData) (fault : AskFault) → Gives (Err fault) (read_of admin request)
    → stop_in (fault_reply fault) ≡ by_keeper → ⊥
no_keeper admin request (AskFault.Refused refusal) given = no_keeper_in refusal (subst ByForm given (read_by_form admin request))
no_keeper admin request AskFault.NoMemory given = λ is. absurd cc
