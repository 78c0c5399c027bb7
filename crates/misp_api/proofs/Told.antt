-- What is told of a plan, where memory does not run out for its text.
use Rattle.std.proofs.Common.{◌≡◌, ◌⊎◌, ℕ, false, ◌≤◌, List, [], ◌++◌, length, take, length-append, refl, sym, ◌∙◌, ap, subst, inl, inr, arith, Option, Some, None, Result, Ok, Err, take_at, IfSome, IfOk, IfErr, IsOkAnd, OnOk, OnErr}
use Rattle.std.proofs.lemmas.Option.{IfSome_then}
use Rattle.misp_outside.specs.Causes.{Rose, HasCause}
use Rattle.misp_outside.specs.Reporting.{StaysHeld, WhereReported}
use Rattle.misp_outside.specs.declared.fault.KeeperFault.{KeeperFault}
use Rattle.misp_outside.proofs.Reporting.{reported_later}
use Rattle.misp_effects.specs.Effect.{effect}
use Rattle.misp_core.specs.Effects.{rule_of_stop}
use Rattle.misp_core.specs.Prelude.{AreReadable, Did, Effect, Held, IsPlanned, IsRefused, Plans, Standing, host_of, left, seen_in, spelled, stop_in}
use Rattle.misp_core.specs.Planning.{IsPlan, batches_of, unplanned, stop_planned, IsBarred}
use Rattle.misp_core.specs.declared.planning.Plan.{Plan}
use Rattle.misp_core.specs.declared.planning.Batch.{Batch as Put}
use Rattle.misp_core.specs.declared.planning.NoPlan.{NoPlan}
use Rattle.misp_core.proofs.Carried.{DidThere, is_planned}
use Rattle.misp_api.specs.Commands.{AsksBuilt}
use Rattle.misp_api.specs.Prelude.{Commanded, Reply, RequestData, RuleName, barred, by_keeper, commanded, form_of, is_allowed, read_of, refused_by}
use Rattle.misp_api.specs.Order.{IsInOrder, order}
use Rattle.misp_api.specs.Planned.{PlansCommand}
use Rattle.misp_api.specs.Refusing.{TurnsAway}
use Rattle.misp_core.specs.Text.{reply_text}
use Rattle.misp_api.specs.Answering.{IsReplied}
use Rattle.misp_api.specs.declared.planned.Planned.{Planned}
use Rattle.misp_api.proofs.Turning.{lost_there, turned_there, turned_by_step}
use Rattle.misp_api.proofs.Replying.{by_step}
use Rattle.misp_api.proofs.Ordering.{order_by_step}
use Rattle.misp_effects.specs.Effect as effects

module _ {E : Type 0} where
  -- what holds of a reply, where there is one
  pub of_reply : (r : Result Reply E) {P Q : Reply → Type 0} → ((reply : Reply) → P reply → Q reply) → IfOk r P → IfOk r Q
  of_reply (Ok reply) follows holds = follows reply holds
  of_reply (Err short) follows holds = tt

  pub every_reply : (r : Result Reply E) {P : Reply → Type 0} → ((reply : Reply) → P reply) → IfOk r P
  every_reply (Ok reply) holds = holds reply
  every_reply (Err short) holds = tt

  -- the text of the reply that was to be told
  pub text_told : (r : Result Reply E) (reply : Reply) (before after : List ℕ) → IfOk r (λ told. told ≡ reply) → OnOk r (after ≡ before ++ reply_text reply) → IfOk r (λ told. after ≡ before ++ reply_text told)
  text_told (Ok told) reply before after same text = text ∙ ap (λ r. before ++ reply_text r) (sym same)
  text_told (Err short) reply before after same text = tt

  -- what holds of the reply that was to be told
  pub of_told : (r : Result Reply E) (reply : Reply) (P : Reply → Type 0) → IfOk r (λ told. told ≡ reply) → P reply → IfOk r P
  of_told (Ok told) reply P same holds = subst P (sym same) holds
  of_told (Err short) reply P same holds = tt

  -- what was planned over what is held was done; who ceased to report reports nothing afterwards
  pub done_there : (plan : Effect Reply → Type 0) (r : Result Reply E) (comes : Held → Effect Reply) (old mid new : Option Held) → StaysHeld old mid
      → (mid ≡ None → new ≡ None) → IfSome mid (λ held. plan (comes held))
      → ((e : Effect Reply) → plan e → IfOk r (λ reply. DidThere e mid reply new))
      → IfOk r (λ reply. WhereReported old new (λ held left. Did (comes held) held reply left))
  done_there plan (Ok reply) comes old mid new same silent plans done =
      reported_later old mid new (λ held left. Did (comes held) held reply left) same (over mid new silent plans done)
    where
      over : (mid new : Option Held) → (mid ≡ None → new ≡ None) → IfSome mid (λ held. plan (comes held))
          → ((e : Effect Reply) → plan e → DidThere e mid reply new) → WhereReported mid new (λ held left. Did (comes held) held reply left)
      over None None silent plans done = tt
      over None (Some now) silent plans done = let none = silent refl in absurd cc
      over (Some held) None silent plans done = tt
      over (Some held) (Some now) silent plans done = done (comes held) plans
  done_there plan (Err short) comes old mid new same silent plans done = tt

  -- what the role forbids is turned away
  pub turned_told : (r : Result Reply E) (old mid new : Standing) (request : RequestData) (it : Commanded) (planned : Result Planned NoPlan) → read_of old.admin request ≡ Ok it
      → (is_allowed it ≡ false → IsBarred (barred it.1) old mid planned)
      → IfErr planned (λ why. IfOk r (λ reply. reply ≡ unplanned why)) → OnErr planned (new ≡ mid)
      → IfOk r (λ reply. TurnsAway (form_of old.admin request) old new reply)
  turned_told (Ok reply) old mid new request it planned is bars just still =
      turned_by_step old new request it reply is (λ not_. turned_there old mid new it.1 planned reply (bars not_) just still)
  turned_told (Err short) old mid new request it planned is bars just still = tt

  -- the same, where memory runs out for its text
  pub unformed_told : (r : Result Reply E) (old mid new : Standing) (request : RequestData) (it : Commanded) (planned : Result Planned NoPlan) → read_of old.admin request ≡ Ok it
      → (is_allowed it ≡ false → IsBarred (barred it.1) old mid planned) → OnErr planned (new ≡ mid)
      → OnErr r (TurnsAway (form_of old.admin request) old new (refused_by RuleName.NoMemory))
  unformed_told (Ok reply) old mid new request it planned is bars still = tt
  unformed_told (Err short) old mid new request it planned is bars still =
      turned_by_step old new request it (refused_by RuleName.NoMemory) is (λ not_. lost_there old mid new it.1 planned (bars not_) still)

  -- what holds where memory runs out
  pub where_short : (r : Result Reply E) {P : Type 0} → P → OnErr r P
  where_short (Ok reply) holds = tt
  where_short (Err short) holds = holds

  -- a fault that is told has its cause in the planning, or in the telling
  pub cause_told : {A : Type 0} (r : Result Reply E) (planned : Result A NoPlan) (before mid now : ℕ) → HasCause before mid (stop_planned planned ≡ by_keeper) → mid ≤ now
      → IfOk r (λ reply. stop_in reply ≡ by_keeper → (stop_planned planned ≡ by_keeper) ⊎ Rose mid now)
      → HasCause before now (IsOkAnd r (λ reply. stop_in reply ≡ by_keeper))
  cause_told (Ok reply) planned before mid now cause later rose = record {
    later = omega (arith, cause.later, later);
    rose = λ is. elim (rose is) [
      | inl met ↦ let rises : Rose before mid = cause.rose met in omega (arith, rises, later)
      | inr rises ↦ omega (arith, rises, cause.later)
    ];
  }
  cause_told (Err short) planned before mid now cause later rose = record { later = omega (arith, cause.later, later); rose = λ is. absurd is }

  -- a refusal by the form has none
  pub no_cause : (r : Result Reply E) (reply : Reply) (count : ℕ) → IfOk r (λ told. told ≡ reply) → (stop_in reply ≡ by_keeper → ⊥)
      → HasCause count count (IsOkAnd r (λ told. stop_in told ≡ by_keeper))
  no_cause (Ok told) reply count same none = record { later = omega arith; rose = λ is. absurd (none (subst (λ x. stop_in x ≡ by_keeper) same is)) }
  no_cause (Err short) reply count same none = record { later = omega arith; rose = λ is. absurd is }

-- what is no refusal tells no stop
pub no_stop_in : (reply : Reply) → (IsRefused reply → ⊥) → stop_in reply ≡ by_keeper → ⊥
no_stop_in (Reply.Ok answer) answered is = absurd cc
no_stop_in (Reply.Refused refusal) answered is = answered tt

-- what tells that the keeper failed is the refusal of that
pub stopped_keeper : (stop : KeeperFault) → stop_in (refused_by (rule_of_stop stop)) ≡ by_keeper → stop ≡ KeeperFault.Failed
stopped_keeper KeeperFault.Failed is = refl
stopped_keeper KeeperFault.NoMemory is = absurd cc

-- no fault was met
pub unmet : {P : Type 0} (count : ℕ) → (P → ⊥) → HasCause count count P
unmet count none = record { later = omega arith; rose = λ is. absurd (none is) }

-- a plan that asked no keeper is one
pub planned_there : (old : Option Held) (comes : Held → Effect Reply) (planned : Result Plan NoPlan) → IfSome old (λ held. Plans planned (comes held)) → IfSome old (λ held. IsPlanned planned (comes held))
planned_there old comes planned plans = IfSome_then old plans (λ held. is_planned planned (comes held))

-- a text without what was written last
pub text_before : (before more after : List ℕ) (start : ℕ) → length before ≡ start → after ≡ before ++ more → take start after ≡ before
text_before before more after start long is = ap (take start) is ∙ take_at before more start long

pub start_within : (before more after : List ℕ) (start : ℕ) → length before ≡ start → after ≡ before ++ more → start ≤ length after
start_within before more after start long is = omega (arith, long, ap length is, length-append before more)

-- what is written in place of what was written last
pub text_instead : (before more mid after instead : List ℕ) (start : ℕ) (reply : Reply) → length before ≡ start → mid ≡ before ++ more → after ≡ take start mid ++ instead → instead ≡ reply_text reply
    → after ≡ before ++ reply_text reply
text_instead before more mid after instead start reply long is put text =
    put ∙ ap (λ front. front ++ instead) (text_before before more mid start long is) ∙ ap (λ t. before ++ t) text

-- what puts nothing was done
pub nothing_did : (p : Plan) (e : Effect Reply) (old : Option Held) → IsPlan p e → p.batch ≡ None → DidThere e old (Reply.Ok p.answer) old
nothing_did p e None plans none = tt
nothing_did p e (Some held) plans none =
    let is : e ≡ effect (Reply.Ok p.answer) [] = plans.is ∙ ap (λ (b : Option Put). effect (Reply.Ok p.answer) (batches_of b)) none in
    record {
      outcome = effects.Went;
      agree = refl;
      reply_is = sym (ap (λ (x : Effect Reply). x.reply) is);
      held_is = sym (ap (λ (x : Effect Reply). left spelled x held) is);
      fits = subst (λ (x : Effect Reply). AreReadable x.batches) (sym is) tt;
    }

-- ---- a request that was read

-- what was planned of it was replied
pub replied_told : {E : Type 0} (r : Result Reply E) (i : Standing) (now : ℕ) (request : RequestData) (it : Commanded) (planned : Result Planned NoPlan) (mid new : Option Held)
    → read_of i.admin request ≡ Ok it → StaysHeld i.held mid → (mid ≡ None → new ≡ None)
    → IfSome mid (λ held. PlansCommand planned (commanded (host_of i) now it (seen_in held)))
    → ((e : Effect Reply) → PlansCommand planned e → IfOk r (λ reply. DidThere e mid reply new))
    → IfOk r (λ reply. WhereReported i.held new (λ held left. IsReplied (host_of i) now (form_of i.admin request) held reply left))
replied_told r i now request it planned mid new is same silent plans done =
    of_reply r (λ reply answered. by_step i now request it reply i.held new is answered)
    (done_there (PlansCommand planned) r (λ held. commanded (host_of i) now it (seen_in held)) i.held mid new same silent plans done)

-- and by the first of its rules
pub ordered_told : {E : Type 0} (r : Result Reply E) (i : Standing) (now : ℕ) (request : RequestData) (it : Commanded) (planned : Result Planned NoPlan) (mid new : Option Held)
    → read_of i.admin request ≡ Ok it → AsksBuilt it.1 → StaysHeld i.held mid → (mid ≡ None → new ≡ None)
    → IfSome mid (λ held. PlansCommand planned (commanded (host_of i) now it (seen_in held)))
    → ((e : Effect Reply) → PlansCommand planned e → IfOk r (λ reply. DidThere e mid reply new))
    → IfOk r (λ reply. WhereReported i.held new (λ held _. IsInOrder (order (host_of i) now request held) reply))
ordered_told r i now request it planned mid new is built same silent plans done =
    of_reply r (λ reply answered. order_by_step i now request it reply i.held new is built answered)
    (done_there (PlansCommand planned) r (λ held. commanded (host_of i) now it (seen_in held)) i.held mid new same silent plans done)
