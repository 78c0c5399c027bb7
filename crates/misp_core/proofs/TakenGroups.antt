-- Groups that are taken one after another, and what is held with them.
use Rattle.std.proofs.Common.{◌≡◌, ◌<◌, Bool, true, false, List, [], ◌∷◌, ◌++◌, cond, if◌then◌else◌, length, arith, leb, ltb, ◌&&◌, ◌||◌, not, option_map, refl, ap, sym, ◌∙◌, subst, append-nil, append_assoc, Option, Some, None, Result, Ok, Err, OnOk}
use Rattle.std.proofs.lemmas.Bool.Decides.{nat_tests}
use Rattle.std.specs.Option.{option_or}
use Rattle.misp_groups.specs.Prelude.{GroupId, IsStrictlySortedBy, by_name, known_group, same_group}
use Rattle.misp_groups.specs.Changes.{take_group, take_groups, takes_group}
use Rattle.misp_groups.proofs.Administered.{any_known}
use Rattle.misp_groups.proofs.GroupsAgain.{takes_is}
use Rattle.misp_groups.proofs.Putting.{known_put}
use Rattle.misp_groups.proofs.Sorted.{sorted_put}
use Rattle.misp_effects.specs.Prelude.{put_admins, put_group, put_groups, with_batch}
use Rattle.misp_outside.specs.Held.{put_rows}
use Rattle.misp_outside.specs.Reporting.{WhereReported}
use Rattle.misp_outside.proofs.Reporting.{reported_same}
use Rattle.misp_core.specs.Prelude.{Group, Held}
use Rattle.misp_core.specs.Taking.{IsOver, groups_taken, latest_of, with_groups}

-- ---- one group

-- the group as it is put
abbrev pub as_taken : Group → Group
as_taken g = record g { carried = true }

-- it is put, or nothing is
abbrev pub newly : List Group → Group → List Group
newly groups g = cond (takes_group groups g) (as_taken g ∷ []) []

-- none is known, or the one that is known came so too and is older
abbrev pub is_new_over : Option Group → Group → Bool
is_new_over None g = true
is_new_over (Some h) g = h.carried && ltb h.modified g.modified

module _ (groups : List Group) (g : Group) (up : IsStrictlySortedBy by_name groups) where
  -- the group that is known stands against it
  abbrev bars_in : Option Group → Bool
  bars_in None = false
  bars_in (Some h) = not h.carried || leb g.modified h.modified

  barred : takes_group groups g ≡ not (bars_in (known_group groups g.id))
  barred = takes_is groups g ∙ ap not (any_known (λ h. not h.carried || leb g.modified h.modified) g.id groups up ∙ same (known_group groups g.id))
    where
      same : (o : Option Group) → (elim o as (λ x. Bool) [ None ↦ false | Some h ↦ not h.carried || leb g.modified h.modified ]) ≡ bars_in o
      same None = refl
      same (Some h) = refl

  told : (o : Option Group) → not (bars_in o) ≡ is_new_over o g
  told None = refl
  told (Some h) = one h.carried (ltb h.modified g.modified) (leb g.modified h.modified) tests
    where
      tests : leb g.modified h.modified ≡ not (ltb h.modified g.modified)
      tests = grind (arith, nat_tests)

      one : (c less most : Bool) → most ≡ not less → not (not c || most) ≡ (c && less)
      one true true true e = absurd cc
      one true true false e = refl
      one true false true e = refl
      one true false false e = absurd cc
      one false less most e = refl

  -- by the group of its name that is known
  takes_by : takes_group groups g ≡ is_new_over (known_group groups g.id) g
  takes_by = barred ∙ told (known_group groups g.id)

-- ---- over the groups that are known

-- before any is taken
pub none_over : (groups latest : List Group) → IsStrictlySortedBy by_name groups → latest ≡ [] → IsOver groups groups latest
unfolding known_group
none_over groups latest up none = subst (IsOver groups groups) (sym none) (record { known = λ id. refl; ascend = up })

module _ (all groups latest : List Group) (g : Group) (over : IsOver all groups latest) where
  -- whether it is taken is seen by the latest of its name
  pub taken_over : (known : Option Group) → known ≡ latest_of groups latest g.id → is_new_over known g ≡ takes_group all g
  taken_over known is = sym (takes_by all g over.ascend ∙ ap (λ o. is_new_over o g) (over.known g.id ∙ sym is))

  -- where it isn't, all stays
  pub not_over : takes_group all g ≡ false → IsOver (take_group all g) groups latest
  unfolding take_group
  not_over not_ = rw not_ over

  -- where it is, it is put over them
  pub put_over : (new : List Group) → takes_group all g ≡ true → new ≡ put_group (as_taken g) latest → IsOver (take_group all g) groups new
  unfolding take_group
  put_over new takes is = rw (takes, is) (record { known = λ id. same id; ascend = sorted_put (as_taken g) all over.ascend })
    where
      by_name_of : (id : GroupId) (same : Bool) → (if same then Some (as_taken g) else known_group all id) ≡ option_or (if same then Some (as_taken g) else known_group latest id) (known_group groups id)
      by_name_of id true = refl
      by_name_of id false = over.known id

      same : (id : GroupId) → known_group (put_group (as_taken g) all) id ≡ latest_of groups (put_group (as_taken g) latest) id
      same id =
          known_put (as_taken g) all id
          ∙ by_name_of id (same_group g.id id)
          ∙ ap (λ o. option_or o (known_group groups id)) (sym (known_put (as_taken g) latest id))

  -- what is added to those that are taken
  pub newly_put : takes_group all g ≡ true → newly all g ≡ as_taken g ∷ []
  newly_put takes = rw takes refl

  pub not_put : takes_group all g ≡ false → newly all g ≡ []
  not_put not_ = rw not_ refl

-- the same of what is added, unless memory runs out
module _ {E : Type 0} (result : Result (Unit {0}) E) (groups latest : List Group) (g : Group) (takes : Bool) where
  pub put_where : (new : List Group) → ((all : List Group) → IsOver all groups latest → takes ≡ takes_group all g) → takes ≡ true → OnOk result (new ≡ put_group (as_taken g) latest)
      → OnOk result ((all : List Group) → IsOver all groups latest → IsOver (take_group all g) groups new)
  put_where new is yes_ put = one result put
    where
      one : (r : Result (Unit {0}) E) → OnOk r (new ≡ put_group (as_taken g) latest) → OnOk r ((all : List Group) → IsOver all groups latest → IsOver (take_group all g) groups new)
      one (Ok done) put = λ all over. put_over all groups latest g over new (sym (is all over) ∙ yes_) put
      one (Err e) put = tt

  pub added_where : (old new : List Group) → ((all : List Group) → IsOver all groups latest → takes ≡ takes_group all g) → takes ≡ true → OnOk result (new ≡ old ++ as_taken g ∷ [])
      → OnOk result ((all : List Group) → IsOver all groups latest → new ≡ old ++ newly all g)
  added_where old new is yes_ put = one result put
    where
      one : (r : Result (Unit {0}) E) → OnOk r (new ≡ old ++ as_taken g ∷ []) → OnOk r ((all : List Group) → IsOver all groups latest → new ≡ old ++ newly all g)
      one (Ok done) put = λ all over. put ∙ ap (λ gs. old ++ gs) (sym (newly_put all groups latest g over (sym (is all over) ∙ yes_)))
      one (Err e) put = tt

-- ---- one after another

pub take_more : (groups gs : List Group) (g : Group) → take_groups groups (gs ++ g ∷ []) ≡ take_group (take_groups groups gs) g
unfolding take_groups
take_more groups [] g = refl
take_more groups (h ∷ gs) g = take_more (take_group groups h) gs g

pub taken_more : (groups gs : List Group) (g : Group) → groups_taken groups (gs ++ g ∷ []) ≡ groups_taken groups gs ++ newly (take_groups groups gs) g
unfolding take_groups groups_taken
taken_more groups [] g = append-nil (newly groups g)
taken_more groups (h ∷ gs) g = ap (λ l. newly groups h ++ l) (taken_more (take_group groups h) gs g) ∙ sym (append_assoc (newly groups h) _ _)

-- where those that are taken are put, all of them are there that come
put_newly : (takes : Bool) (groups : List Group) (g : Group) (rest : List Group) → put_groups groups (cond takes (as_taken g ∷ []) [] ++ rest) ≡ put_groups (cond takes (put_group (as_taken g) groups) groups) rest
unfolding put_groups
put_newly true groups g rest = refl
put_newly false groups g rest = refl

pub groups_after : (groups gs : List Group) → put_groups groups (groups_taken groups gs) ≡ take_groups groups gs
unfolding take_groups groups_taken put_groups take_group
groups_after groups [] = refl
groups_after groups (g ∷ gs) = put_newly (takes_group groups g) groups g (groups_taken (take_group groups g) gs) ∙ groups_after (take_group groups g) gs

-- ---- what is held

-- where no groups are put what is held stays
no_groups_one : (held : Held) (groups : List Group) → groups ≡ [] → held ≡ with_groups groups held
unfolding with_batch put_rows put_admins
no_groups_one held groups is = subst (λ gs. held ≡ with_groups gs held) (sym is) refl

pub no_groups_held : (held : Option Held) (groups : List Group) → groups ≡ [] → WhereReported held held (λ held now. now ≡ with_groups groups held)
no_groups_held held groups is = reported_same held held (λ held now. now ≡ with_groups groups held) refl (λ held. no_groups_one held groups is)

-- no groups are none
pub no_more : (xs : List Group) → length xs < 1 → xs ≡ []
no_more [] h = refl
no_more (x ∷ xs) h = absurd (omega arith)
