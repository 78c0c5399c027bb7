-- What a site administrator asks is planned, and what it makes is an act of the history.
use Rattle.std.proofs.Common.{◌≡◌, ℕ, List, [], ◌∷◌, ◌++◌, Bool, true, false, refl, sym, ap, subst, ◌∙◌, map, cond, if◌then◌else◌, find, option_map, Option, Some, None, Result, Ok, Err, IfSome, inl, inr}
use Rattle.misp_ids.proofs.Same.{same_inst-refl}
use Rattle.misp_outside.specs.Held.{put_rows, put_admins, with_batch}
use Rattle.misp_outside.specs.Reporting.{StaysHeld, WhereReported}
use Rattle.misp_outside.proofs.Reporting.{known_then}
use Rattle.misp_orgs.specs.Roles.{permits}
use Rattle.misp_orgs.specs.declared.role.Perm.{Perm}
use Rattle.misp_admins.specs.Asks.{Ground, first_ground, grounds_of, item_of, why_not}
use Rattle.misp_admins.specs.Made.{IsItem}
use Rattle.misp_admins.specs.declared.ask.AdminAsk.{AdminAsk}
use Rattle.misp_admins.specs.declared.item.Item.{Item}
use Rattle.misp_admin_rows.specs.Rows.{item_row}
use Rattle.misp_groups.specs.Prelude.{bare}
use Rattle.misp_effects.specs.Batches.{item_batch}
use Rattle.misp_model.specs.Permission.{no_permission}
use Rattle.misp_history.specs.Acts.{Net, with_item}
use Rattle.misp_store.specs.Sharing.{HasGroups, HoldsGroups}
use Rattle.misp_core.specs.Effects.{by_keeper, stop_by}
use Rattle.misp_core.specs.Managing.{PlansItem, act_making, asked_managed, item_made, managed, managed_by}
use Rattle.misp_core.specs.Planning.{IsBarred, Refuses, stop_planned}
use Rattle.misp_core.specs.Prelude.{Admin, AllByRecursion, Caller, Effect, Group, Held, Host, Inst, Keeps, Plans, Refusal, Reply, RuleName, Stamp, Standing, World, left, refused, same_inst, spelled, step, tables}
use Rattle.misp_core.specs.declared.planning.NoPlan.{NoPlan}
use Rattle.misp_core.proofs.AdminPut.{HasAdmin, PutsItems, item_put, made_more}
use Rattle.misp_core.proofs.Keeping.{admin_there, keeps_by}
use Rattle.misp_core.proofs.KeepingGroups.{same_apart}

-- ---- rules

-- the rule is told of no stop
abbrev TellsNone : Ground → Type 0
TellsNone g = stop_by g.1 ≡ None

first_of : (g : Ground) (grounds : List Ground) (refuses : Bool) → TellsNone g → IfSome (first_ground grounds) (λ rule. stop_by rule ≡ None)
    → IfSome (option_map (λ (h : Ground). h.1) (cond refuses (Some g) (find (λ h. h.0) grounds))) (λ rule. stop_by rule ≡ None)
unfolding first_ground
first_of g grounds true tells rest = tells
first_of g grounds false tells rest = rest

first_tells : (grounds : List Ground) → AllByRecursion TellsNone grounds → IfSome (first_ground grounds) (λ rule. stop_by rule ≡ None)
unfolding first_ground
first_tells [] all = tt
first_tells (g ∷ grounds) all = first_of g grounds g.0 all.0 (first_tells grounds all.1)

all_tell : (admin : Admin) (ask : AdminAsk) → AllByRecursion TellsNone (grounds_of admin ask)
all_tell admin (AdminAsk.AddOrg o) = (refl, tt)
all_tell admin (AdminAsk.AddKey k) = (refl, (refl, tt))
all_tell admin (AdminAsk.RevokeKey key) = (refl, tt)
all_tell admin (AdminAsk.AddLink l) = (refl, (refl, tt))
all_tell admin (AdminAsk.EditLink e) = (refl, (refl, tt))

-- no rule against an ask tells a stop
tells_none : (admin : Admin) (ask : AdminAsk) (rule : RuleName) → why_not admin ask ≡ Some rule → stop_by rule ≡ None
tells_none admin ask rule is = subst (λ (why : Option RuleName). IfSome why (λ r. stop_by r ≡ None)) is (first_tells (grounds_of admin ask) (all_tell admin ask))

-- ---- what is planned

module _ (admin : Admin) (caller : Caller) (ask : AdminAsk) where
  -- by whether the role permits it
  by_role : (may : Bool) → permits caller.role Perm.Admin ≡ may → asked_managed admin caller ask ≡ (if may then managed admin ask else refused (no_permission Perm.Admin))
  by_role may is = ap (λ b. if b then managed admin ask else refused (no_permission Perm.Admin)) is

  -- what a rule is against is refused by it
  pub rule_planned : (rule : RuleName) (refusal : Refusal) → permits caller.role Perm.Admin ≡ true → why_not admin ask ≡ Some rule → refusal ≡ bare rule
      → PlansItem (Err (NoPlan.Refused refusal)) (asked_managed admin caller ask)
  rule_planned rule refusal may why is =
      subst (λ (r : Refusal). Refuses r (asked_managed admin caller ask)) (sym is)
      (record { is = by_role true may ∙ ap (λ (w : Option RuleName). managed_by w (item_of admin ask)) why; no_stop = tells_none admin ask rule why })

-- no plan tells a fault of a keeper
pub item_no_fault : (planned : Result Item NoPlan) (e : Effect Reply) → PlansItem planned e → stop_planned planned ≡ by_keeper → ⊥
item_no_fault (Ok item) e plans is = absurd cc
item_no_fault (Err (NoPlan.Refused refusal)) e plans is = let both : None ≡ by_keeper = sym plans.no_stop ∙ is in absurd cc
item_no_fault (Err NoPlan.KeeperFault) e plans is = plans
item_no_fault (Err NoPlan.NoMemory) e plans is = absurd cc

-- ---- what is held

-- where the keeper reports what it holds, the item is put
abbrev pub IsItemPut : Item → Option Held → Option Held → Type 0
IsItemPut item old new = WhereReported old new (λ held now. now ≡ with_batch (spelled (item_batch item)) held)

has_item : PutsItems → (item : Item) → IsItem item → (held : Held) (groups : List Group) (items : _) → HasAdmin held.admin groups items
    → HasAdmin (with_batch (spelled (item_batch item)) held).admin groups (put_admins (item_row item ∷ []) items)
unfolding with_batch put_admins
has_item puts item is held groups items has = item_put puts item is held.admin groups items has

-- the groups stay beside
pub item_beside : PutsItems → (item : Item) → IsItem item → (old new : Option Held) (groups : List Group) → IsItemPut item old new → HoldsGroups old groups → HoldsGroups new groups
item_beside puts item is old new groups put holds =
    known_then old new (λ held now. now ≡ with_batch (spelled (item_batch item)) held) (λ held. HasGroups held groups) (λ held. HasGroups held groups)
    (λ held now same has. subst (λ (h : Held). HasGroups h groups) (sym same) (one held has)) put holds
  where
    one : (held : Held) → HasGroups held groups → HasGroups (with_batch (spelled (item_batch item)) held) groups
    one held has =
        let new_has = has_item puts item is held groups _ (record { order = has.order; groups_are = has.are; items_are = refl }) in
        record { order = new_has.order; are = new_has.groups_are }

-- ---- the act

module _ (net : Net) (n : ℕ) (w : World) (host : Host) (now : Stamp) (caller : Caller) (item : Item) where
  abbrev after : World
  after = step net n w (act_making host now caller item)

  -- the history of rows stays
  pub same_log : after.log ≡ w.log
  unfolding step
  same_log = refl

  -- and so do the groups
  pub same_groups : after.groups ≡ w.groups
  unfolding step
  same_groups = refl

  -- the item is the last that was made there
  pub made_here : after.made host.name ≡ w.made host.name ++ item ∷ []
  unfolding step with_item
  made_here = ap (λ b. cond b (w.made host.name ++ item ∷ []) (w.made host.name)) (same_inst-refl host.name)

  -- and what was made elsewhere stays
  pub made_elsewhere : (j : Inst) → same_inst host.name j ≡ false → after.made j ≡ w.made j
  unfolding step with_item
  made_elsewhere j apart = ap (λ b. cond b (w.made j ++ item ∷ []) (w.made j)) (same_apart host.name j apart)

  -- the keeper holds the item after the act
  pub making_left : PutsItems → (held : Held) → IsItem item → Keeps host.name w held → Keeps host.name after (left spelled (item_made item) held)
  unfolding step with_batch put_rows put_admins
  making_left puts held is keeps =
      keeps_by host.name after (left spelled (item_made item) held) (tables w.log host.name) (w.groups host.name) (w.made host.name ++ item ∷ []) refl refl made_here
      keeps.rows keeps.are_rows
      (subst (HasAdmin (left spelled (item_made item) held).admin (w.groups host.name)) (sym (made_more (w.made host.name) item))
      (item_put puts item is held.admin (w.groups host.name) _ (admin_there host.name w held keeps)))
      keeps.are_groups keeps.ascend
