-- What took the first of the batches of a synchronisation did what that comes to, as far as nothing stopped it.
use Rattle.std.proofs.Common.{◌≡◌, ◌⊎◌, ◌∙◌, ℕ, suc, Bool, true, false, List, [], ◌∷◌, ◌++◌, length, map, take, take_at, append-nil, length-append, arith, append_assoc, Option, None, Some, refl, sym, ap, subst, inl, inr, IfSome}
use Rattle.misp_ids.specs.declared.label.Direction.{Direction}
use Rattle.misp_lists.proofs.Lists.{some_same}
use Rattle.misp_outside.specs.Held.{Held, with_batch}
use Rattle.misp_effects.specs.Batches.{AreReadable, Batch, IsReadable, put_batches}
use Rattle.misp_effects.specs.Effect.{Does, Effect, Stopped, Went, effect}
use Rattle.misp_effects.specs.declared.stop.Side.TheVariants.{Here, There}
use Rattle.misp_effects.specs.declared.stop.Stop.{Stop}
use Rattle.misp_core.specs.Prelude.{spelled}
use Rattle.misp_dialogue.specs.Conversed.{ended}
use Rattle.misp_dialogue.specs.Course.{MayLose, MayStop}
use Rattle.misp_dialogue.specs.Parties.{Conduct}
use Rattle.misp_dialogue.specs.Taking.{EndsAfter, OneMore, put_all, tally_all}
use Rattle.misp_dialogue.specs.declared.ending.Ending.{Ending}
use Rattle.misp_dialogue.specs.declared.side.Side.{Side}
use Rattle.misp_protocol.specs.Counts.{count_of, counted, no_tally, tally}
use Rattle.misp_protocol.specs.declared.cause.Cause.{Cause}
use Rattle.misp_protocol.specs.declared.count.Tally.{Tally}
use Rattle.misp_protocol.specs.declared.request.Answer.{Answer}
use Rattle.misp_protocol.specs.declared.request.Request.{Request}
use Rattle.misp_sync.specs.Causes.{stop_by, stop_cause}
use Rattle.misp_sync.specs.Directions.{counted_on, telling_on}
use Rattle.misp_sync.specs.OwnAnswers.{batching}
use Rattle.misp_sync.specs.Pulled.{reply_of, stop_in, synced}
use Rattle.misp_sync.specs.Synchronised.{reply_of_ending}
use Rattle.misp_sync.specs.declared.reply.SyncReply.{SyncReply}

-- ---- batches

put_as : (bs : List Batch) (held : Held) → put_all batching bs held ≡ put_batches (map spelled bs) held
put_as [] held = refl
put_as (b ∷ bs) held = put_as bs (with_batch (spelled b) held)

tally_as : (n : Tally) (bs : List Batch) → tally_all batching n bs ≡ tally n bs
unfolding tally
tally_as n [] = refl
tally_as n (b ∷ bs) = tally_as (counted n b) bs

put_more : (xs : List Batch) (x : Batch) (held : Held) → put_batches (map spelled (xs ++ x ∷ [])) held ≡ with_batch (spelled x) (put_batches (map spelled xs) held)
put_more [] x held = refl
put_more (y ∷ xs) x held = put_more xs x (with_batch (spelled y) held)

fits_more : (xs : List Batch) (x : Batch) → AreReadable xs → IsReadable x → AreReadable (xs ++ x ∷ [])
fits_more [] x fits one = (one, tt)
fits_more (y ∷ xs) x fits one = (fits.0, fits_more xs x fits.1 one)

-- ---- stops

pub stop_again : (stop : Stop) → stop_by (stop_cause stop) ≡ Some stop
stop_again (Stop.Keeper Here) = refl
stop_again (Stop.Keeper There) = refl
stop_again (Stop.Memory Here) = refl
stop_again (Stop.Memory There) = refl
stop_again Stop.Carry = refl

-- a cause by which a stop is told
pub record TellsStop (cause : Cause) : Type 0 where
  pub stop : Stop
  pub told : cause ≡ stop_cause stop

-- and where the reply to the last batch that was put is lost, that one is not counted
pub record TellsLoss (direction : Direction) (cause : Cause) : Type 0 where
  pub stop : Stop
  pub told : cause ≡ stop_cause stop
  pub less : (n : ℕ) → counted_on direction stop true (suc n) ≡ n

-- no stop is told
abbrev pub TellsNone : Option Cause → Type 0
TellsNone why = IfSome why (λ cause. stop_by cause ≡ None)

-- all are counted where no reply is lost
all_counted : (direction : Direction) (stop : Stop) (n : ℕ) → counted_on direction stop false n ≡ n
all_counted Direction.Pull stop n = refl
all_counted Direction.Push Stop.Carry n = refl
all_counted Direction.Push (Stop.Memory Here) n = refl
all_counted Direction.Push (Stop.Memory There) n = refl
all_counted Direction.Push (Stop.Keeper side) n = refl

telling_is : (direction : Direction) (stop : Stop) (n : ℕ) (lost : Bool) (e : Effect SyncReply)
    → telling_on direction stop n lost e ≡ effect (SyncReply.Stopped (count_of (take (counted_on direction stop lost n) e.batches)) (stop_cause stop)) (take n e.batches)
telling_is Direction.Pull stop n lost e = refl
telling_is Direction.Push stop n lost e = refl

reply_ended : (n : Tally) (why : Option Cause) → reply_of_ending (ended n why) ≡ reply_of n.count why
reply_ended n None = refl
reply_ended n (Some cause) = refl

none_in : (n : Tally) (why : Option Cause) → TellsNone why → None ≡ stop_in (reply_of_ending (ended n why))
none_in n None none = refl
none_in n (Some cause) none = sym none

-- ---- an effect of which the first batches were put

module _ (direction : Direction) (e : Effect (Option Cause)) (old new : Held) where
  abbrev pub Done : SyncReply → Type 0
  Done reply = Does SyncReply spelled stop_in (telling_on direction) (synced e) old reply new

  went : (first : List Batch) → e.batches ≡ first → TellsNone e.reply → AreReadable first → new ≡ put_batches (map spelled first) old
      → Done (reply_of_ending (ended (tally no_tally first) e.reply))
  went first is none fits held = record {
    outcome = Went;
    agree = none_in (tally no_tally first) e.reply none;
    reply_is = reply_ended (tally no_tally first) e.reply ∙ ap (λ bs. reply_of (count_of bs) e.reply) (sym is);
    held_is = held ∙ ap (λ bs. put_batches (map spelled bs) old) (sym is);
    fits = subst AreReadable (sym is) fits;
  }

  stopped : (stop : Stop) (lost : Bool) (n : ℕ) (first told : List Batch) → take n e.batches ≡ first → take (counted_on direction stop lost n) e.batches ≡ told → AreReadable first
      → new ≡ put_batches (map spelled first) old → Done (SyncReply.Stopped (count_of told) (stop_cause stop))
  stopped stop lost n first told first_is told_is fits held =
      let under : telling_on direction stop n lost (synced e) ≡ effect (SyncReply.Stopped (count_of (take (counted_on direction stop lost n) e.batches)) (stop_cause stop)) (take n e.batches) =
      telling_is direction stop n lost (synced e) in
      let same : (telling_on direction stop n lost (synced e)).batches ≡ first = ap (λ (x : Effect SyncReply). x.batches) under ∙ first_is in
      record {
        outcome = Stopped stop n lost;
        agree = sym (stop_again stop);
        reply_is = ap (λ bs. SyncReply.Stopped (count_of bs) (stop_cause stop)) (sym told_is) ∙ sym (ap (λ (x : Effect SyncReply). x.reply) under);
        held_is = held ∙ ap (λ bs. put_batches (map spelled bs) old) (sym same);
        fits = subst AreReadable (sym same) fits;
      }

  module _ (ka kb : Conduct Held Request Answer Cause) (none : TellsNone e.reply)
      (stops : (cause : Cause) → ((cause ≡ Cause.NoMemory) ⊎ MayStop ka kb Side.Source cause ⊎ MayStop ka kb Side.Sink cause ⊎ MayLose ka kb Side.Source cause) → TellsStop cause)
      (loses : (cause : Cause) → MayLose ka kb Side.Sink cause → TellsLoss direction cause)
      (first later : List Batch) (all : e.batches ≡ first ++ later) (fits : AreReadable first) where
    -- the first are those that were put
    firsts : take (length first) e.batches ≡ first
    firsts = ap (take (length first)) all ∙ take_at first later (length first) refl

    so_told : (cause : Cause) (stop : Stop) (ending : Ending Tally Cause) → cause ≡ stop_cause stop → ending ≡ Ending.Stopped (tally_all batching no_tally first) cause
        → reply_of_ending ending ≡ SyncReply.Stopped (count_of first) (stop_cause stop)
    so_told cause stop ending told is =
        ap reply_of_ending is ∙ ap (λ (n : Tally). SyncReply.Stopped n.count cause) (tally_as no_tally first)
        ∙ ap (SyncReply.Stopped (count_of first)) told

    by_stop : (stop : Stop) → new ≡ put_batches (map spelled first) old → Done (SyncReply.Stopped (count_of first) (stop_cause stop))
    by_stop stop held =
        let n = length first in
        stopped stop false n first first firsts (ap (λ m. take m e.batches) (all_counted direction stop n) ∙ firsts) fits held

    by_loss : (stop : Stop) → ((n : ℕ) → counted_on direction stop true (suc n) ≡ n) → OneMore batching (put_all batching first old) later new
        → Done (SyncReply.Stopped (count_of first) (stop_cause stop))
    by_loss stop less more =
        let n = length first in
        let one : List Batch = more.one ∷ [] in
        let longer_is : length (first ++ one) ≡ suc n = omega (arith, length-append first one) in
        let grown : e.batches ≡ (first ++ one) ++ more.rest = all ∙ ap (λ bs. first ++ bs) more.later_is ∙ sym (append_assoc first one more.rest) in
        let put : take (suc n) e.batches ≡ first ++ one = ap (take (suc n)) grown ∙ take_at (first ++ one) more.rest (suc n) longer_is in
        let counts : take (counted_on direction stop true (suc n)) e.batches ≡ first = ap (λ m. take m e.batches) (less n) ∙ firsts in
        let held_is : new ≡ put_batches (map spelled (first ++ one)) old = more.new_is ∙ ap (λ h. with_batch (spelled more.one) h) (put_as first old) ∙ sym (put_more first more.one old) in
        stopped stop true (suc n) (first ++ one) first put counts (fits_more first more.one fits more.fits) held_is

    pub does : (ending : Ending Tally Cause) → EndsAfter Cause.NoMemory ka kb batching old no_tally first later e.reply (Some new) ending → Done (reply_of_ending ending)
    does ending (inl over) =
        let whole : e.batches ≡ first = all ∙ ap (λ bs. first ++ bs) over.0 ∙ append-nil first in
        let told : ending ≡ ended (tally no_tally first) e.reply = over.1 ∙ ap (λ n. ended n e.reply) (tally_as no_tally first) in
        subst (λ x. Done (reply_of_ending x)) (sym told) (went first whole none fits (some_same new (put_all batching first old) over.2 ∙ put_as first old))
    does ending (inr (cause, is, inl stop)) =
        let s = stops cause stop.0 in
        subst Done (sym (so_told cause s.stop ending s.told is)) (by_stop s.stop (some_same new (put_all batching first old) stop.1 ∙ put_as first old))
    does ending (inr (cause, is, inr (loss, (held, at, inl same)))) =
        let s = loses cause loss in
        subst Done (sym (so_told cause s.stop ending s.told is)) (by_stop s.stop (some_same new held at ∙ same ∙ put_as first old))
    does ending (inr (cause, is, inr (loss, (held, at, inr more)))) =
        let s = loses cause loss in
        subst Done (sym (so_told cause s.stop ending s.told is)) (by_loss s.stop s.less (subst (OneMore batching (put_all batching first old) later) (sym (some_same new held at)) more))
