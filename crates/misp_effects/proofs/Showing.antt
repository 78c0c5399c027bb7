-- A call that did an effect did it seen in another way, and did it after a batch that was put before.
use Rattle.std.proofs.Common.{Bool, ◌≡◌, ℕ, suc, Option, sym, ◌∙◌, ap, subst}
use Rattle.misp_effects.specs.Prelude.{Effect, Held, Spelling, Stop, with_batch}
use Rattle.misp_effects.specs.Batches.{Batch, IsReadable, AreReadable}
use Rattle.misp_effects.specs.Effect.{shown, behind, Telling, Went, Stopped, stop_of, under, left, Does}

-- a reply that is seen by f tells the same stop, and so does an effect that is
pub does_shown : {A B : Type 0} (spelled : Spelling) (f : A → B) (sa : A → Option Stop) (sb : B → Option Stop) (ta : Telling A) (tb : Telling B)
    → ((a : A) → sb (f a) ≡ sa a)
    → ((stop : Stop) (n : ℕ) (lost : Bool) (e : Effect A) → tb stop n lost (shown f e) ≡ shown f (ta stop n lost e))
    → (e : Effect A) (held : Held) (reply : A) (new : Held)
    → Does A spelled sa ta e held reply new → Does B spelled sb tb (shown f e) held (f reply) new
does_shown {A = A} {B = B} spelled f sa sb ta tb stops tells e held reply new does =
    elim does.outcome as (λ o. stop_of o ≡ sa reply → reply ≡ (under ta o e).reply
    → new ≡ left spelled (under ta o e) held → AreReadable (under ta o e).batches → Does B spelled sb tb (shown f e) held (f reply) new) [
      | Went ↦ λ agree reply_is held_is fits. record {
        outcome = Went;
        agree = agree ∙ sym (stops reply);
        reply_is = ap f reply_is;
        held_is = held_is;
        fits = fits;
      }
      | Stopped stop n lost ↦ λ agree reply_is held_is fits. record {
        outcome = Stopped stop n lost;
        agree = agree ∙ sym (stops reply);
        reply_is = ap f reply_is ∙ sym (ap (λ (x : Effect B). x.reply) (tells stop n lost e));
        held_is = held_is ∙ sym (ap (λ (x : Effect B). left spelled x held) (tells stop n lost e));
        fits = subst (λ (x : Effect B). AreReadable x.batches) (sym (tells stop n lost e)) fits;
      }
    ] does.agree does.reply_is does.held_is does.fits

-- A batch was put, and then a call did the rest: together they did the effect that has the batch first, with one
-- batch more before a stop.
pub does_behind : {A : Type 0} (spelled : Spelling) (stop_in : A → Option Stop) (rest : Telling A) (whole : Telling A) (b : Batch)
    → ((stop : Stop) (n : ℕ) (lost : Bool) (e : Effect A) → whole stop (suc n) lost (behind b e) ≡ behind b (rest stop n lost e))
    → IsReadable b
    → (e : Effect A) (held : Held) (reply : A) (new : Held)
    → Does A spelled stop_in rest e (with_batch (spelled b) held) reply new → Does A spelled stop_in whole (behind b e) held reply new
does_behind {A = A} spelled stop_in rest whole b tells readable e held reply new does =
    elim does.outcome as (λ o. stop_of o ≡ stop_in reply → reply ≡ (under rest o e).reply
    → new ≡ left spelled (under rest o e) (with_batch (spelled b) held) → AreReadable (under rest o e).batches → Does A spelled stop_in whole (behind b e) held reply new) [
      | Went ↦ λ agree reply_is held_is fits. record {
        outcome = Went;
        agree = agree;
        reply_is = reply_is;
        held_is = held_is;
        fits = (readable, fits);
      }
      | Stopped stop n lost ↦ λ agree reply_is held_is fits. record {
        outcome = Stopped stop (suc n) lost;
        agree = agree;
        reply_is = reply_is ∙ sym (ap (λ (x : Effect A). x.reply) (tells stop n lost e));
        held_is = held_is ∙ sym (ap (λ (x : Effect A). left spelled x held) (tells stop n lost e));
        fits = subst (λ (x : Effect A). AreReadable x.batches) (sym (tells stop n lost e)) (readable, fits);
      }
    ] does.agree does.reply_is does.held_is does.fits
