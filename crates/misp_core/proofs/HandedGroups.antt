-- Groups that a caller hands in to an instance whose keeper holds its groups are an act of the history.
use Rattle.std.proofs.Common.{◌≡◌, ℕ, List, [], ◌∷◌, ◌++◌, ◌+◌, Bool, true, false, refl, sym, ap, subst, ◌∙◌, cond, length, map, arith, Ok, Err, Result, inl, inr, if◌then◌else◌}
use Rattle.misp_outside.specs.Held.{put_rows, put_admins, with_batch}
use Rattle.misp_groups.specs.Changes.{count_taken, take_group, take_groups, takes_group}
use Rattle.misp_groups.specs.Groups.{by_name}
use Rattle.misp_groups.proofs.Sorted.{sorted_put, all_put}
use Rattle.misp_admins.specs.declared.item.Item.{Item}
use Rattle.misp_effects.specs.Prelude.{put_group, put_groups}
use Rattle.misp_orgs.specs.Roles.{permits}
use Rattle.misp_orgs.specs.declared.role.Perm.{Perm}
use Rattle.misp_model.specs.Permission.{no_permission}
use Rattle.misp_history.specs.Acts.{Net}
use Rattle.misp_history.proofs.Steps.{with_groups_here, with_groups_elsewhere}
use Rattle.misp_store.specs.Sharing.{group_row}
use Rattle.misp_core.specs.Prelude.{AllByRecursion, Answer, AreReadable, Caller, Effect, Group, Held, Host, Inst, IsGroup, IsStrictlySortedBy, Keeps, Plans, Refusal, Reply, Stamp, Standing, World, groups_of, left, put_batches, refused, same_inst, spelled, step}
use Rattle.misp_core.specs.HandedGroups.{act_handing, group_batches, groups_handed}
use Rattle.misp_core.specs.HandedGroups as spec
use Rattle.misp_core.specs.Planning.{IsBarred}
use Rattle.misp_core.specs.Taking.{groups_taken}
use Rattle.misp_core.specs.declared.planning.NoPlan.{NoPlan}
use Rattle.misp_core.specs.declared.planning.Plan.{Plan}
use Rattle.misp_core.proofs.AdminPut.{PutsGroups, groups_put}
use Rattle.misp_core.proofs.Keeping.{admin_there, groups_there}
use Rattle.misp_core.proofs.KeepingGroups.{keeps_groups, same_apart}
use Rattle.misp_core.proofs.TakenGroups.{groups_after}

-- ---- what is planned

module _ (caller : Caller) (coming groups : List Group) where
  -- by whether the role permits it
  by_role : (may : Bool) → permits caller.role Perm.Sync ≡ may → groups_handed caller coming groups ≡ (if may then spec.groups_put (groups_taken groups coming) else refused (no_permission Perm.Sync))
  by_role may is = ap (λ b. if b then spec.groups_put (groups_taken groups coming) else refused (no_permission Perm.Sync)) is

  -- what is permitted is what is taken
  pub permitted_handed : permits caller.role Perm.Sync ≡ true → groups_handed caller coming groups ≡ spec.groups_put (groups_taken groups coming)
  permitted_handed may = by_role true may

  -- and what is not is refused
  pub barred_handed : permits caller.role Perm.Sync ≡ false → groups_handed caller coming groups ≡ refused (no_permission Perm.Sync)
  barred_handed not_ = by_role false not_

-- it is refused just so, and the instance is as it was
pub handed_barred : (i : Standing) (caller : Caller) (coming groups : List Group) (result : Result Plan NoPlan) → permits caller.role Perm.Sync ≡ false → Plans result (groups_handed caller coming groups)
    → IsBarred (no_permission Perm.Sync) i i result
handed_barred i caller coming groups result not_ plans = one result (subst (λ (e : Effect Reply). Plans result e) (barred_handed caller coming groups not_) plans)
  where
    one : (r : Result Plan NoPlan) → Plans r (refused (no_permission Perm.Sync)) → IsBarred (no_permission Perm.Sync) i i r
    one (Ok p) plans = let never : Reply.Refused (no_permission Perm.Sync) ≡ Reply.Ok p.answer = ap (λ (e : Effect Reply). e.reply) plans.is in absurd cc
    one (Err (NoPlan.Refused refusal)) plans =
        let just : Reply.Refused refusal ≡ Reply.Refused (no_permission Perm.Sync) = sym (ap (λ (e : Effect Reply). e.reply) plans.is) in
        let same : refusal ≡ no_permission Perm.Sync = cc in
        record { just = inl (ap (λ (r : Refusal). Err (NoPlan.Refused r)) same); still = refl }
    one (Err NoPlan.KeeperFault) plans = absurd plans
    one (Err NoPlan.NoMemory) plans = record { just = inr refl; still = refl }

-- ---- what is counted

length_one : (b : Bool) (g : Group) (rest : List Group) → length (cond b (g ∷ []) [] ++ rest) ≡ cond b 1 0 + length rest
length_one true g rest = omega arith
length_one false g rest = omega arith

pub taken_counted : (groups coming : List Group) → length (groups_taken groups coming) ≡ count_taken groups coming
unfolding groups_taken count_taken
taken_counted groups [] = refl
taken_counted groups (g ∷ gs) =
    length_one (takes_group groups g) (record g { carried = true }) (groups_taken (take_group groups g) gs)
    ∙ ap (λ n. cond (takes_group groups g) 1 0 + n) (taken_counted (take_group groups g) gs)

-- ---- what is held

all_puts : (gs groups : List Group) → AllByRecursion IsGroup gs → AllByRecursion IsGroup groups → AllByRecursion IsGroup (put_groups groups gs)
unfolding put_groups
all_puts [] groups are all = all
all_puts (g ∷ gs) groups are all = all_puts gs (put_group g groups) are.1 (all_put g IsGroup are.0 groups all)

sorted_puts : (gs groups : List Group) → IsStrictlySortedBy by_name groups → IsStrictlySortedBy by_name (put_groups groups gs)
unfolding put_groups
sorted_puts [] groups up = up
sorted_puts (g ∷ gs) groups up = sorted_puts gs (put_group g groups) (sorted_put g groups up)

-- groups that are put in their batch
groups_left : (gs : List Group) (held : Held) → put_batches (map spelled (group_batches gs)) held ≡ record held { admin = put_admins (map group_row gs) held.admin }
unfolding with_batch put_rows put_admins
groups_left [] held = refl
groups_left (g ∷ gs) held = refl

groups_fit : (gs : List Group) → AreReadable (group_batches gs) → AllByRecursion IsGroup gs
groups_fit [] fits = tt
groups_fit (g ∷ gs) fits = fits.0.groups

-- it comes to what it comes to over the groups of the instance
pub handed_told : (here : Inst) (w : World) (caller : Caller) (coming : List Group) (held : Held) → Keeps here w held → groups_handed caller coming (groups_of held) ≡ groups_handed caller coming (w.groups here)
handed_told here w caller coming held keeps = ap (groups_handed caller coming) (groups_there here w held keeps)

-- where it is permitted the history counts as many
pub handed_counted : (here : Inst) (w : World) (caller : Caller) (coming : List Group) → permits caller.role Perm.Sync ≡ true
    → (groups_handed caller coming (w.groups here)).reply ≡ Reply.Ok (Answer.Taken (count_taken (w.groups here) coming))
handed_counted here w caller coming may =
    ap (λ (e : Effect Reply). e.reply) (permitted_handed caller coming (w.groups here) may) ∙ ap (λ n. Reply.Ok (Answer.Taken n)) (taken_counted (w.groups here) coming)

module _ (net : Net) (n : ℕ) (w : World) (host : Host) (now : Stamp) (caller : Caller) (coming : List Group) where
  abbrev after : World
  after = step net n w (act_handing host now caller coming)

  -- the history of rows stays
  pub log_stays : after.log ≡ w.log
  unfolding step
  log_stays = refl

  -- nothing is made
  pub made_stays : after.made ≡ w.made
  unfolding step
  made_stays = refl

  -- the groups elsewhere stay
  pub groups_apart : (j : Inst) → same_inst host.name j ≡ false → after.groups j ≡ w.groups j
  unfolding step
  groups_apart j apart = with_groups_elsewhere w.groups host.name j (take_groups (w.groups host.name) coming) (same_apart host.name j apart)

  groups_here : after.groups host.name ≡ take_groups (w.groups host.name) coming
  unfolding step
  groups_here = with_groups_here w.groups host.name (take_groups (w.groups host.name) coming)

  module _ (puts : PutsGroups) (held : Held) (may : permits caller.role Perm.Sync ≡ true) (keeps : Keeps host.name w held) where
    abbrev taken : List Group
    taken = groups_taken (w.groups host.name) coming

    abbrev with_taken : Held
    with_taken = record held { admin = put_admins (map group_row taken) held.admin }

    put_there : AllByRecursion IsGroup taken → Keeps host.name after with_taken
    put_there are =
        keeps_groups host.name w after held (put_groups (w.groups host.name) taken) keeps log_stays (groups_here ∙ sym (groups_after (w.groups host.name) coming))
        (ap (λ (made : Inst → List Item). made host.name) made_stays)
        (all_puts taken (w.groups host.name) are keeps.are_groups) (sorted_puts taken (w.groups host.name) keeps.ascend)
        with_taken refl (groups_put puts taken are held.admin (w.groups host.name) _ (admin_there host.name w held keeps))

    by_taken : AreReadable (spec.groups_put taken).batches → Keeps host.name after (left spelled (spec.groups_put taken) held)
    by_taken fits = subst (Keeps host.name after) (sym (groups_left taken held)) (put_there (groups_fit taken fits))

    -- the keeper holds the groups after the act
    pub handed_left : AreReadable (groups_handed caller coming (groups_of held)).batches → Keeps host.name after (left spelled (groups_handed caller coming (groups_of held)) held)
    handed_left =
        subst (λ (e : Effect Reply). AreReadable e.batches → Keeps host.name after (left spelled e held))
        (sym (handed_told host.name w caller coming held keeps ∙ permitted_handed caller coming (w.groups host.name) may)) by_taken
