-- What is done where a plan is carried out.
use Rattle.std.proofs.Common.{◌≡◌, false, true, List, [], ◌∷◌, refl, ap, sym, subst, ◌∙◌, map, Option, Some, None, Result, Ok, Err, IfSome, is_ok}
use Rattle.misp_outside.specs.Reporting.{StaysHeld, WhereReported}
use Rattle.misp_outside.proofs.Reporting.{known_so, known_then, reported_so}
use Rattle.misp_admin_rows.specs.Rows.{item_rows}
use Rattle.misp_effects.specs.Prelude.{put_admins, put_groups, with_batch}
use Rattle.misp_effects.specs.Effect.{effect}
use Rattle.misp_store.specs.Prelude.{AllByRecursion, AreRows, Batch, Effect, Group, Held, Here, IsGroup, KeeperFault, Stop, spelled}
use Rattle.misp_store.specs.Sharing.{HasGroups, HasSoundAdmin, HoldsGroups, group_row, AreStorable}
use Rattle.misp_core.specs.Prelude.{Answer, AreReadable, Did, IsPlanned, Plan, Plans, Reply, left, put_batches, refused_by}
use Rattle.misp_core.specs.Effects.{by_keeper, rule_of_stop}
use Rattle.misp_core.specs.Planning.{batch_of, batches_of, rows_put, unplanned, stop_planned}
use Rattle.misp_core.specs.declared.planning.Batch.{Batch as Put}
use Rattle.misp_core.specs.declared.planning.NoPlan.{NoPlan}
use Rattle.misp_core.proofs.AdminPut.{HasAdmin, PutsGroups, groups_put}
use Rattle.misp_effects.specs.Effect as effects

-- a call over a keeper that may not report what it holds
abbrev pub DidThere : Effect Reply → Option Held → Reply → Option Held → Type 0
DidThere e old reply new = WhereReported old new (λ held now. Did e held reply now)

-- the batch is put, where what is held is reported
abbrev pub IsPutThere : Put → Option Held → Option Held → Type 0
IsPutThere put old new = WhereReported old new (λ held now. now ≡ with_batch (spelled (batch_of put)) held)

-- ---- nothing is planned

refused_one : (why : NoPlan) (e : Effect Reply) (held now : Held) → IsPlanned (Err why) e → now ≡ held → Did e held (unplanned why) now
refused_one (NoPlan.Refused refusal) e held now plans same = record {
  outcome = effects.Went;
  agree = sym plans.no_stop;
  reply_is = sym (ap (λ (x : Effect Reply). x.reply) plans.is);
  held_is = same ∙ sym (ap (λ (x : Effect Reply). left spelled x held) plans.is);
  fits = subst (λ (x : Effect Reply). AreReadable x.batches) (sym plans.is) tt;
}
refused_one NoPlan.KeeperFault e held now plans same =
    record { outcome = effects.Stopped (Stop.Keeper Here) 0 false; agree = refl; reply_is = refl; held_is = same; fits = tt }
refused_one NoPlan.NoMemory e held now plans same =
    record { outcome = effects.Stopped (Stop.Memory Here) 0 false; agree = refl; reply_is = refl; held_is = same; fits = tt }

pub refused_did : (why : NoPlan) (e : Effect Reply) (old new : Option Held) → IsPlanned (Err why) e → StaysHeld old new → DidThere e old (unplanned why) new
refused_did why e old new plans =
    reported_so old new (λ held now. now ≡ held) (λ held now. Did e held (unplanned why) now) (λ held now same. refused_one why e held now plans same)

-- what asks no keeper is planned
pub is_planned : (planned : Result Plan NoPlan) (e : Effect Reply) → Plans planned e → IsPlanned planned e
is_planned (Err NoPlan.KeeperFault) e plans = tt
is_planned planned e plans = plans

-- and it tells no fault of a keeper
pub asks_none : (planned : Result Plan NoPlan) (e : Effect Reply) → Plans planned e → stop_planned planned ≡ by_keeper → ⊥
asks_none (Err (NoPlan.Refused refusal)) e plans is = let both : None ≡ by_keeper = sym plans.no_stop ∙ is in absurd cc
asks_none (Err NoPlan.KeeperFault) e plans is = plans
asks_none planned e plans is = absurd cc

-- ---- the keeper stopped

stopped_one : (stop : KeeperFault) (e : Effect Reply) (held now : Held) → now ≡ held → Did e held (refused_by (rule_of_stop stop)) now
stopped_one KeeperFault.Failed e held now same =
    record { outcome = effects.Stopped (Stop.Keeper Here) 0 false; agree = refl; reply_is = refl; held_is = same; fits = tt }
stopped_one KeeperFault.NoMemory e held now same =
    record { outcome = effects.Stopped (Stop.Memory Here) 0 false; agree = refl; reply_is = refl; held_is = same; fits = tt }

pub stopped_did : (stop : KeeperFault) (e : Effect Reply) (old new : Option Held) → StaysHeld old new → DidThere e old (refused_by (rule_of_stop stop)) new
stopped_did stop e old new = reported_so old new (λ held now. now ≡ held) (λ held now. Did e held (refused_by (rule_of_stop stop)) now) (stopped_one stop e)

-- ---- it was put

went_one : (e : Effect Reply) (answer : Answer) (bs : List Batch) (held now : Held) → e ≡ effect (Reply.Ok answer) bs
    → now ≡ put_batches (map spelled bs) held → AreReadable bs → Did e held (Reply.Ok answer) now
went_one e answer bs held now is put fits = record {
  outcome = effects.Went;
  agree = refl;
  reply_is = sym (ap (λ (x : Effect Reply). x.reply) is);
  held_is = put ∙ sym (ap (λ (x : Effect Reply). left spelled x held) is);
  fits = subst (λ (x : Effect Reply). AreReadable x.batches) (sym is) fits;
}

-- groups that can be read back are groups
pub are_groups : (gs : List Group) → AreStorable gs → AllByRecursion IsGroup gs
are_groups [] are = tt
are_groups (g ∷ gs) are = (are.0.is_group, are_groups gs are.1)

pub settled_did : (p : Plan) (put : Put) (e : Effect Reply) (old new : Option Held) → IsPlanned (Ok p) e → p.batch ≡ Some put → AreStorable put.groups
    → IsPutThere put old new → DidThere e old (Reply.Ok p.answer) new
settled_did p put e old new plans some are =
    reported_so old new (λ held now. now ≡ with_batch (spelled (batch_of put)) held) (λ held now. Did e held (Reply.Ok p.answer) now)
    (λ held now is.
    went_one e p.answer (batch_of put ∷ []) held now (plans.is ∙ ap (λ (b : Option Put). effect (Reply.Ok p.answer) (batches_of b)) some) is
    (record { rows = subst (λ (b : Option Put). AreRows (rows_put b)) some plans.are_rows; groups = are_groups put.groups are; items = tt }, tt))

-- ---- the groups beside

groups_now : PutsGroups → (put : Put) (held : Held) (groups : List Group) → AreStorable put.groups → HasGroups held groups → HasGroups (with_batch (spelled (batch_of put)) held) (put_groups groups put.groups)
unfolding with_batch
groups_now puts put held groups are has =
    let new : HasAdmin (put_admins (map group_row put.groups) held.admin) (put_groups groups put.groups) (item_rows held.admin) =
    groups_put puts put.groups (are_groups put.groups are) held.admin groups (item_rows held.admin) (record { order = has.order; groups_are = has.are; items_are = refl }) in
    record { order = new.order; are = new.groups_are }

-- they are beside once the batch is put
pub groups_beside : PutsGroups → (put : Put) (old new : Option Held) (groups kept : List Group) → AreStorable put.groups → IsPutThere put old new
    → kept ≡ put_groups groups put.groups → HoldsGroups old groups → HoldsGroups new kept
groups_beside puts put old new groups kept are is same holds =
    subst (HoldsGroups new) (sym same)
    (known_then old new (λ held now. now ≡ with_batch (spelled (batch_of put)) held) (λ held. HasGroups held groups) (λ held. HasGroups held (put_groups groups put.groups))
    (λ held now put_is has. subst (λ (h : Held). HasGroups h (put_groups groups put.groups)) (sym put_is) (groups_now puts put held groups are has)) is holds)

-- where the groups are known that are held, every row of the administration is a group or an item
pub sound_held : (held : Option Held) (known : List Group) → HoldsGroups held known → IfSome held HasSoundAdmin
sound_held held known holds = known_so held (λ h. HasGroups h known) HasSoundAdmin (λ h has. record { order = has.order; read = ap is_ok has.are }) holds
