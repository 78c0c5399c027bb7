-- That the keeper of a peer failed is told where it did.
use Rattle.std.proofs.Common.{◌≡◌, ◌==◌, ℕ, arith, Option, None, Some, Result, Ok, Err, ap, if◌then◌else◌}
use Rattle.misp_effects.specs.declared.stop.Side.TheVariants.{Here}
use Rattle.misp_effects.specs.declared.stop.Stop.{Stop}
use Rattle.misp_core.specs.Effects.{by_keeper, stop_in}
use Rattle.misp_core.specs.declared.reply.Reply.{Reply}
use Rattle.misp_protocol.specs.declared.cause.Body.{Body}
use Rattle.misp_protocol.specs.declared.cause.Cause.{Cause}
use Rattle.misp_protocol.specs.declared.request.Answer.{Answer}
use Rattle.misp_client.specs.Answers.{kind_of, or_garbled}
use Rattle.misp_client.specs.Telling.{told, told_in}
use Rattle.misp_client.specs.declared.call.Call.{Call}

-- the number of the rule of a refusal
abbrev rule_of : Cause → ℕ
rule_of (Cause.Refused status rule) = rule
rule_of cause = 0

abbrev rule_in : Result Answer Cause → ℕ
rule_in (Ok answer) = 0
rule_in (Err cause) = rule_of cause

no_refusal : (kind : Body) (found : Option Answer) → or_garbled kind found ≡ Err (Cause.Refused 503 26) → ⊥
no_refusal kind None h = let zero : ◌≡◌ {A = ℕ} 0 26 = ap rule_in h in absurd (omega (arith, zero))
no_refusal kind (Some answer) h = absurd cc

pub keeper_told : (call : Call) (reply : Reply) → told call reply ≡ Err (Cause.Refused 503 26) → stop_in reply ≡ by_keeper
keeper_told call (Reply.Ok answer) h = absurd (no_refusal (kind_of call) (told_in call answer) h)
keeper_told call (Reply.Refused refusal) h = ap (λ n. if n == 26 then Some (Stop.Keeper Here) else if n == 27 then Some (Stop.Memory Here) else None) (ap rule_in h)
