-- An administration of an instance whose keeper holds its groups is an act of the history.
use Rattle.std.proofs.Common.{◌≡◌, ℕ, List, ◌∷◌, Bool, true, false, refl, sym, ap, subst, ◌∙◌, cond, Option, Some, None, inl, inr, is_some, [], map}
use Rattle.std.proofs.lemmas.Bool.{cases_Bool}
use Rattle.std.proofs.lemmas.Slice.Eq.{bytes_eq-Decides}
use Rattle.misp_outside.specs.Held.{put_rows, put_admins, with_batch}
use Rattle.misp_admins.specs.declared.item.Item.{Item}
use Rattle.misp_admin_rows.specs.Rows.{item_row}
use Rattle.misp_groups.specs.Changes.{put_group, group_now, administered, administration_fails}
use Rattle.misp_groups.specs.Groups.{by_name, put_groups, why_not}
use Rattle.misp_groups.proofs.Administered.{fails_where}
use Rattle.misp_groups.proofs.Sorted.{sorted_put, all_put}
use Rattle.misp_history.specs.Acts.{Net}
use Rattle.misp_history.proofs.Steps.{step_administers, with_groups_here, with_groups_elsewhere}
use Rattle.misp_core.specs.Prelude.{AllByRecursion, AreReadable, Effect, Group, Held, Inst, IsGroup, IsStrictlySortedBy, Keeps, OrgId, Reply, RuleName, Stamp, World, groups_of, left, same_inst, spelled, step, tables}
use Rattle.misp_core.specs.Administering.{effect_by}
use Rattle.misp_core.specs.Keeping.{act_of}
use Rattle.misp_core.proofs.AdminPut.{HasAdmin, PutsGroups, groups_put}
use Rattle.misp_core.proofs.Keeping.{admin_there, keeps_by, groups_there}
use Rattle.misp_core.specs.Administering as core

pub same_apart : (i j : Inst) → same_inst i j ≡ false → same_inst j i ≡ false
unfolding same_inst
same_apart i j apart = elim (cases_Bool (same_inst j i)) [
  | inl same ↦ absurd (
      let equal : j ≡ i = (bytes_eq-Decides j i).0 same in
      let again : same_inst i j ≡ true = (bytes_eq-Decides i j).1 (sym equal) in
      let never : true ≡ false = sym again ∙ apart in
      cc
      )
  | inr other ↦ other
]

-- it comes to what it comes to over the groups of the instance
pub administered_told : (here : Inst) (w : World) (now : Stamp) (by : OrgId) (add : Bool) (g : Group) (held : Held) → Keeps here w held
    → core.administered now by add g (groups_of held) ≡ core.administered now by add g (w.groups here)
administered_told here w now by add g held keeps = ap (core.administered now by add g) (groups_there here w held keeps)

-- there is a rule against it where the history has a failure
pub fails_there : (here : Inst) (w : World) (by : OrgId) (add : Bool) (g : Group) (held : Held) → Keeps here w held
    → is_some (why_not add (groups_of held) by g.id) ≡ administration_fails by add g (w.groups here)
fails_there here w by add g held keeps = ap (λ gs. is_some (why_not add gs by g.id)) (groups_there here w held keeps) ∙ fails_where add (w.groups here) by g keeps.ascend

-- the keeper holds these groups, and the tables and what was made as before
pub keeps_groups : (here : Inst) (w v : World) (held : Held) (gs : List Group) → Keeps here w held → v.log ≡ w.log → v.groups here ≡ gs → v.made here ≡ w.made here
    → AllByRecursion IsGroup gs → IsStrictlySortedBy by_name gs
    → (new : Held) → new.rows ≡ held.rows → HasAdmin new.admin gs (put_admins (map item_row (w.made here)) []) → Keeps here v new
keeps_groups here w v held gs keeps log is made are up new rows has =
    keeps_by here v new (tables w.log here) gs (w.made here) (ap (λ l. tables l here) log) is made (rows ∙ keeps.rows) keeps.are_rows has are up

module _ (net : Net) (n : ℕ) (here : Inst) (w : World) (now : Stamp) (by : OrgId) (add : Bool) (g : Group) where
  abbrev after : World
  after = step net n w (act_of here now by add g)

  -- the history of rows stays
  pub same_log : after.log ≡ w.log
  same_log = ap (λ (v : World). v.log) (step_administers net n w (act_of here now by add g) by add g refl)

  -- nothing is made
  pub same_made : after.made ≡ w.made
  same_made = ap (λ (v : World). v.made) (step_administers net n w (act_of here now by add g) by add g refl)

  -- the groups elsewhere stay
  pub groups_elsewhere : (j : Inst) → same_inst here j ≡ false → after.groups j ≡ w.groups j
  groups_elsewhere j apart =
      ap (λ (v : World). v.groups j) (step_administers net n w (act_of here now by add g) by add g refl)
      ∙ with_groups_elsewhere w.groups here j (administered now by add g (w.groups here)) (same_apart here j apart)

  groups_after : after.groups here ≡ administered now by add g (w.groups here)
  groups_after =
      ap (λ (v : World). v.groups here) (step_administers net n w (act_of here now by add g) by add g refl)
      ∙ with_groups_here w.groups here (administered now by add g (w.groups here))

  -- what an administration leaves, by what is against it
  left_where : (why : Option RuleName) → IsStrictlySortedBy by_name (w.groups here) → why_not add (w.groups here) by g.id ≡ why
      → administered now by add g (w.groups here) ≡ cond (is_some why) (w.groups here) (put_group (group_now now g (w.groups here)) (w.groups here))
  unfolding administered
  left_where why up e = ap (λ b. cond b (w.groups here) (put_group (group_now now g (w.groups here)) (w.groups here))) (sym (fails_where add (w.groups here) by g up) ∙ ap is_some e)

  module _ (puts : PutsGroups) (held : Held) (keeps : Keeps here w held) where
    made_there : after.made here ≡ w.made here
    made_there = ap (λ (made : Inst → List Item). made here) same_made

    by_rule : (why : Option RuleName) → why_not add (w.groups here) by g.id ≡ why → AreReadable (effect_by why (group_now now g (w.groups here))).batches
        → Keeps here after (left spelled (effect_by why (group_now now g (w.groups here))) held)
    unfolding with_batch put_rows put_admins put_groups
    by_rule (Some rule) e fits =
        keeps_groups here w after held (w.groups here) keeps same_log (groups_after ∙ left_where (Some rule) keeps.ascend e) made_there keeps.are_groups keeps.ascend held refl (admin_there here w held keeps)
    by_rule None e fits =
        let h : Group = group_now now g (w.groups here) in
        let is : IsGroup h = fits.0.groups.0 in
        keeps_groups here w after held (put_group h (w.groups here)) keeps same_log (groups_after ∙ left_where None keeps.ascend e) made_there
        (all_put h IsGroup is (w.groups here) keeps.are_groups) (sorted_put h (w.groups here) keeps.ascend)
        (left spelled (effect_by None h) held) refl (groups_put puts (h ∷ []) (is, tt) held.admin (w.groups here) (put_admins (map item_row (w.made here)) []) (admin_there here w held keeps))

    -- the keeper holds the groups after the act
    pub administered_left : AreReadable (core.administered now by add g (groups_of held)).batches → Keeps here after (left spelled (core.administered now by add g (groups_of held)) held)
    administered_left =
        subst (λ (e : Effect Reply). AreReadable e.batches → Keeps here after (left spelled e held)) (sym (administered_told here w now by add g held keeps))
        (by_rule (why_not add (w.groups here) by g.id) refl)
