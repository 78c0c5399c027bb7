-- What is planned of a command, by the plan of its rows and groups, or by its item.
use Rattle.std.proofs.Common.{◌≡◌, ℕ, Option, None, Some, Result, Ok, Err, IfOk, IfSome, inl, inr, refl, sym, subst, ap, ◌∙◌}
use Rattle.std.proofs.lemmas.Option.{IfSome_then}
use Rattle.misp_ids.specs.declared.refusal.Refusal.{Refusal}
use Rattle.misp_outside.specs.Causes.{HasCause}
use Rattle.misp_admins.specs.declared.item.Item.{Item}
use Rattle.misp_core.specs.Managing.{PlansItem}
use Rattle.misp_core.specs.Planning.{IsBarred, IsPlanned, stop_planned}
use Rattle.misp_core.specs.declared.planning.NoPlan.{NoPlan}
use Rattle.misp_core.specs.declared.planning.Plan.{Plan}
use Rattle.misp_api.specs.Planned.{PlansCommand, planned_as}
use Rattle.misp_api.specs.Prelude.{Effect, Held, Reply, Standing, by_keeper}
use Rattle.misp_api.specs.declared.planned.Planned.{Planned}

module _ {A : Type 0} (form : A → Planned) (told : Result Planned NoPlan) (planned : Result A NoPlan) (is : told ≡ planned_as form planned) where
  -- ---- what is refused

  bars : (p : Result A NoPlan) (refusal : Refusal) (old new : Standing) → IsBarred refusal old new p → IsBarred refusal old new (planned_as form p)
  bars (Ok x) refusal old new barred = elim barred.just [
    | inl e ↦ absurd cc
    | inr e ↦ absurd cc
  ]
  bars (Err why) refusal old new barred = record {
    just = elim barred.just [
      | inl e ↦ let same : why ≡ NoPlan.Refused refusal = cc in inl (ap Err same)
      | inr e ↦ let same : why ≡ NoPlan.NoMemory = cc in inr (ap Err same)
    ];
    still = barred.still;
  }

  -- what the role forbids is refused just so
  pub barred_as : (refusal : Refusal) (old new : Standing) → IsBarred refusal old new planned → IsBarred refusal old new told
  barred_as refusal old new barred = subst (λ p. IsBarred refusal old new p) (sym is) (bars planned refusal old new barred)

  -- ---- what is planned

  ok_as : (P : Planned → Type 0) (p : Result A NoPlan) → IfOk p (λ x. P (form x)) → IfOk (planned_as form p) P
  ok_as P (Ok x) holds = holds
  ok_as P (Err why) holds = tt

  -- what holds of what was planned
  pub holds_as : (P : Planned → Type 0) → IfOk planned (λ x. P (form x)) → IfOk told P
  holds_as P holds = subst (λ p. IfOk p P) (sym is) (ok_as P planned holds)

  any : (P : A → Type 0) (p : Result A NoPlan) → ((x : A) → P x) → IfOk p P
  any P (Ok x) holds = holds x
  any P (Err why) holds = tt

  -- what holds of all that may be planned
  pub all_as : (P : Planned → Type 0) → ((x : A) → P (form x)) → IfOk told P
  all_as P holds = holds_as P (any (λ x. P (form x)) planned holds)

  -- ---- its causes

  stop_as : (p : Result A NoPlan) → stop_planned (planned_as form p) ≡ stop_planned p
  stop_as (Ok x) = refl
  stop_as (Err why) = refl

  pub stopped_as : stop_planned told ≡ by_keeper → stop_planned planned ≡ by_keeper
  stopped_as stops = sym (ap stop_planned is ∙ stop_as planned) ∙ stops

  pub cause_as : (before after : ℕ) → HasCause before after (stop_planned planned ≡ by_keeper) → HasCause before after (stop_planned told ≡ by_keeper)
  cause_as before after cause = record { later = cause.later; rose = λ stops. cause.rose (stopped_as stops) }

-- ---- what it comes to

rows_plan : (p : Result Plan NoPlan) (e : Effect Reply) → IsPlanned p e → PlansCommand (planned_as Planned.Rows p) e
rows_plan (Ok plan) e plans = plans
rows_plan (Err (NoPlan.Refused refusal)) e plans = plans
rows_plan (Err NoPlan.KeeperFault) e plans = tt
rows_plan (Err NoPlan.NoMemory) e plans = tt

pub rows_there : (told : Result Planned NoPlan) (planned : Result Plan NoPlan) → told ≡ planned_as Planned.Rows planned → (held : Option Held) (comes : Held → Effect Reply)
    → IfSome held (λ h. IsPlanned planned (comes h)) → IfSome held (λ h. PlansCommand told (comes h))
rows_there told planned is held comes plans = IfSome_then held plans (λ h plan. subst (λ p. PlansCommand p (comes h)) (sym is) (rows_plan planned (comes h) plan))

item_plan : (p : Result Item NoPlan) (e : Effect Reply) → PlansItem p e → PlansCommand (planned_as Planned.Made p) e
item_plan (Ok item) e plans = plans
item_plan (Err (NoPlan.Refused refusal)) e plans = plans
item_plan (Err NoPlan.KeeperFault) e plans = tt
item_plan (Err NoPlan.NoMemory) e plans = tt

pub item_there : (told : Result Planned NoPlan) (planned : Result Item NoPlan) → told ≡ planned_as Planned.Made planned → (held : Option Held) (e : Effect Reply)
    → PlansItem planned e → IfSome held (λ h. PlansCommand told e)
item_there told planned is None e plans = tt
item_there told planned is (Some h) e plans = subst (λ p. PlansCommand p e) (sym is) (item_plan planned e plans)

-- where nothing is planned of a command, nothing is planned of rows
pub none_planned : (why : NoPlan) (e : Effect Reply) → PlansCommand (Err why) e → IsPlanned (Err why) e
none_planned (NoPlan.Refused refusal) e plans = plans
none_planned NoPlan.KeeperFault e plans = tt
none_planned NoPlan.NoMemory e plans = tt
