-- Groups that are put in their places stay in order.
use Rattle.std.proofs.Common.{◌≡◌, true, false, not, List, [], ◌∷◌, sym, ap, ◌∙◌, inl, inr, Less, is_lt}
use Rattle.std.proofs.lemmas.Bool.{cases_Bool, not-true}
use Rattle.std.proofs.lemmas.List.Kept.{IsStrictlySortedBy-filter}
use Rattle.misp_lists.proofs.All.{all_implied, all_part, all_kept}
use Rattle.misp_lists.proofs.Orders.{less_of, less_from}
use Rattle.misp_lists.proofs.Ordering.{all_put as all_placed}
use Rattle.misp_lists.specs.Order.{put}
use Rattle.misp_ids.specs.Same.{group_before}
use Rattle.misp_groups.specs.Prelude.{AllByRecursion, Group, IsStrictlySortedBy, by_id, by_name, put_group, same_group}
use Rattle.misp_groups.proofs.Ids.{by_id_total, same_by_id, before_is}

module _ (g : Group) where
  less : (h : Group) → group_before g.id h.id ≡ true → by_name g h ≡ Less
  less h first = less_of (by_id g.id h.id) (before_is g.id h.id ∙ first)

  behind : (h : Group) → group_before g.id h.id ≡ false → same_group h.id g.id ≡ false → by_name h g ≡ Less
  behind h later apart = less_from (by_id h.id g.id) (same_by_id h.id g.id ∙ apart) (ap is_lt (sym (by_id_total.antisymm g.id h.id)) ∙ before_is g.id h.id ∙ later)

  sorted_placed : (gs : List Group) → AllByRecursion (λ h. same_group h.id g.id ≡ false) gs → IsStrictlySortedBy by_name gs → IsStrictlySortedBy by_name (put (λ a b. group_before a.id b.id) g gs)
  unfolding put IsStrictlySortedBy
  sorted_placed [] apart up = (tt, tt)
  sorted_placed (h ∷ hs) apart up = elim (cases_Bool (group_before g.id h.id)) [
    | inl first ↦ rw first ((less h first, all_implied (λ x. by_name h x ≡ Less) (λ x. by_name g x ≡ Less) (λ x after. by_id_total.trans g.id h.id x.id (less h first) after) hs up.0), up)
    | inr later ↦ rw later (all_placed (λ x. by_name h x ≡ Less) (λ a b. group_before a.id b.id) g hs (behind h later apart.0) up.0, sorted_placed hs apart.1 up.1)
  ]

  -- groups in order stay in order
  pub sorted_put : (gs : List Group) → IsStrictlySortedBy by_name gs → IsStrictlySortedBy by_name (put_group g gs)
  unfolding put_group
  sorted_put gs up = sorted_placed _ (all_kept (λ h. same_group h.id g.id ≡ false) (λ h. not (same_group h.id g.id)) (λ h e. not-true _ e) gs) (IsStrictlySortedBy-filter by_name (λ h. not (same_group h.id g.id)) gs up)

  -- what holds of all and of the group holds of all with the group
  pub all_put : (P : Group → Type 0) → P g → (gs : List Group) → AllByRecursion P gs → AllByRecursion P (put_group g gs)
  unfolding put_group
  all_put P is gs are = all_placed P (λ a b. group_before a.id b.id) g _ is (all_part P _ gs are)
