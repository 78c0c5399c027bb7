-- What a peer that reports what it holds did of a call.
use Rattle.std.proofs.Common.{◌≡◌, ◌⊎◌, ℕ, List, map, None, Some, Result, Ok, Err, refl, sym, ap, subst, ◌∙◌, inl, inr}
use Rattle.misp_effects.specs.Batches.{put_batches}
use Rattle.misp_effects.specs.Effect.{Outcome, Stopped, Went, left, stop_of, under}
use Rattle.misp_effects.specs.declared.stop.Stop.{Stop}
use Rattle.misp_core.specs.Effects.{stop_in, telling}
use Rattle.misp_core.specs.Prelude.{Did, Effect, Held, Host, seen_in, spelled}
use Rattle.misp_core.specs.declared.reply.Reply.{Reply}
use Rattle.misp_dialogue.specs.Parties.{IsReply}
use Rattle.misp_protocol.specs.declared.cause.Cause.{Cause}
use Rattle.misp_protocol.specs.declared.request.Answer.{Answer}
use Rattle.misp_protocol.specs.declared.request.Request.{Request}
use Rattle.misp_client.proofs.Moments.{called_at_any_moment}
use Rattle.misp_client.specs.Calling.{called}
use Rattle.misp_client.specs.Telling.{told}
use Rattle.misp_client.specs.declared.call.Call.{Call}
use Rattle.misp_sync.proofs.WireRead.{same_cause}
use Rattle.misp_client.proofs.RefusedCalls.{no_refusal, refused_bare}
use Rattle.misp_sync.specs.WireAnswers.{IsCutShort, IsPeerHeld, IsPeerStop, call_answer, call_of, wire_conduct, with_held}

-- ---- whole or not at all

-- all of a call was done and its reply is read as this, or a stop is reported and nothing was done
abbrev pub IsDone : Call → Effect Reply → Held → Reply → Held → Type 0
IsDone call e held reply new =
    ((told call reply ≡ told call e.reply) × (new ≡ left spelled e held))
    ⊎ ((stop : Cause) × IsPeerStop stop × (told call reply ≡ Err stop) × (new ≡ held))

no_stop : (stop : Stop) → Some stop ≡ None → ⊥
no_stop stop h = cc

done_under : (call : Call) (e : Effect Reply) (held : Held) (reply : Reply) (new : Held) (o : Outcome) → stop_of o ≡ stop_in reply → reply ≡ (under telling o e).reply
    → new ≡ left spelled (under telling o e) held → IsDone call e held reply new
done_under call e held reply new Went agree is left = inl (ap (told call) is, left)
done_under call e held reply new (Stopped (Stop.Keeper side) n lost) agree is left = inr (Cause.Refused 503 26, inl refl, ap (told call) is, left)
done_under call e held reply new (Stopped (Stop.Memory side) n lost) agree is left = inr (Cause.Refused 507 27, inr refl, ap (told call) is, left)
done_under call e held reply new (Stopped Stop.Carry n lost) agree is left = absurd (no_stop Stop.Carry (agree ∙ ap stop_in is))

-- whatever the moment was
pub done : (peer : Host) (now : ℕ) (key : List ℕ) (call : Call) (held : Held) (reply : Reply) (new : Held) → Did (called peer now key call (seen_in held)) held reply new
    → IsDone call (called peer 0 key call (seen_in held)) held reply new
done peer now key call held reply new did =
    subst (λ e. IsDone call e held reply new) (called_at_any_moment peer now key call (seen_in held))
    (done_under call (called peer now key call (seen_in held)) held reply new did.outcome did.agree did.reply_is did.held_is)

-- ---- what it answers

module _ (peer : Host) (key : List ℕ) (call : Call) (q : Request) (is : call_of q ≡ Some call) (held : Held) where
  abbrev effect_of : Effect Reply
  effect_of = called peer 0 key call (seen_in held)

  abbrev after : Held
  after = left spelled effect_of held

  -- the result is the stated one of this request, and so is what is held then
  abbrev pub Leaves : Result Answer Cause → Held → Type 0
  Leaves result new = IsReply (wire_conduct (Some peer) key) q result held new

  answer_is : (r : Result Answer Cause) → told call effect_of.reply ≡ r → call_answer peer key held (call_of q) ≡ with_held r after
  answer_is r e = ap (call_answer peer key held) is ∙ ap (λ r. with_held r after) e

  answered : (answer : Answer) (new : Held) → new ≡ after → told call effect_of.reply ≡ Ok answer → call_answer peer key held (call_of q) ≡ Ok (answer, new)
  answered answer new e is_told = answer_is (Ok answer) is_told ∙ ap (λ n. Ok (answer, n)) (sym e)

  -- a refusal leaves what is held
  stays : (cause : Cause) → told call effect_of.reply ≡ Err cause → after ≡ held
  stays cause e = ap (λ batches. put_batches (map spelled batches) held) (refused_bare peer 0 key (seen_in held) call cause e)

  -- the reply is read
  pub leaves_read : (result : Result Answer Cause) (reply : Reply) (new : Held) → IsPeerHeld (Some peer) held → result ≡ told call reply → IsDone call effect_of held reply new → Leaves result new
  leaves_read (Ok answer) reply new groups e (inl all) = (groups, answered answer new all.1 (sym (e ∙ all.0)))
  leaves_read (Err cause) reply new groups e (inl all) =
      let refused : told call effect_of.reply ≡ Err cause = sym (e ∙ all.0) in
      inl (all.1 ∙ stays cause refused, inl (answer_is (Err cause) refused))
  leaves_read (Ok answer) reply new groups e (inr stop) = absurd (no_refusal answer stop.0 (e ∙ stop.2))
  leaves_read (Err cause) reply new groups e (inr stop) = inl (stop.3, inr (inr (subst IsPeerStop (sym (same_cause cause stop.0 (e ∙ stop.2))) stop.1)))

  lost_after : (cause : Cause) (new : Held) → IsCutShort cause → new ≡ after → (r : Result Answer Cause) → told call effect_of.reply ≡ r → Leaves (Err cause) new
  lost_after cause new cut e (Ok answer) is_told = inr (cut, (answer, answered answer new e is_told))
  lost_after cause new cut e (Err why) is_told = inl (e ∙ stays why is_told, inr (inl cut))

  -- it is lost
  pub leaves_lost : (cause : Cause) (reply : Reply) (new : Held) → IsCutShort cause → IsDone call effect_of held reply new → Leaves (Err cause) new
  leaves_lost cause reply new cut (inl all) = lost_after cause new cut all.1 (told call effect_of.reply) refl
  leaves_lost cause reply new cut (inr stop) = inl (stop.3, inr (inl cut))
