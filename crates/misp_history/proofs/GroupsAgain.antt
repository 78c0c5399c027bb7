-- Groups that were taken once change nothing when they come again.
use Rattle.std.proofs.Common.{◌≡◌, inl, inr, true, refl, sym, ◌∙◌, ℕ, arith, Bool, false, leb, List, ap, cond, [], ◌∷◌, le-leb, ◌||◌, not, ◌&&◌, ◌+◌, filter}
use Rattle.misp_history.proofs.Prelude.{Group, GroupId, and_from, and_parts, any_cut, any_implies, any_put, cases_Bool, cond_both, false_from_ne_true, false≢true, list_all, list_any, nat_tests, not-false, not-true, or_left, or_right}
use Rattle.misp_history.proofs.Prelude.{put_group, true_from_ne_false}
use Rattle.misp_ids.specs.Same.{same_group, group_before}
use Rattle.misp_groups.proofs.Ids.{same_group-refl, same_group-sound}
use Rattle.misp_groups.proofs.GroupsAgain.{bars, takes_is}
use Rattle.misp_groups.specs.Changes.{takes_group, take_group, take_groups, count_taken}

-- names that are the same as one name are the same
same_group-of : (a b c : GroupId) → same_group a b ≡ true → same_group a c ≡ true → same_group b c ≡ true
same_group-of a b c h k = ap (λ x. same_group x c) (sym (same_group-sound a b h)) ∙ k

same_group-back : (a b : GroupId) → same_group a b ≡ true → same_group b a ≡ true
same_group-back a b h = same_group-of a b a h (same_group-refl a)

older_too : (b : Bool) (m n k : ℕ) → leb m k ≡ false → (b || leb m n) ≡ true → (b || leb k n) ≡ true
older_too b m n k f h = grind (arith, nat_tests)

-- what bars a group bars what is older
bars_older : (g t : Group) → same_group t.id g.id ≡ true → leb g.modified t.modified ≡ false → (h : Group) → bars g h ≡ true → bars t h ≡ true
bars_older g t e f h k =
    let two : (same_group h.id g.id ≡ true) × ((not h.carried || leb g.modified h.modified) ≡ true) = and_parts _ _ k in
    and_from _ _ (same_group-of g.id h.id t.id (same_group-back h.id g.id two.0) (same_group-back t.id g.id e)) (older_too (not h.carried) g.modified h.modified t.modified f two.1)

-- with this group put, what barred g bars it still
put_bars : (g t : Group) (groups : List Group) → takes_group groups t ≡ true → list_any (bars g) groups ≡ true → list_any (bars g) (put_group (record t { carried = true }) groups) ≡ true
unfolding put_group
put_bars g t groups free h =
    any_put (λ a b. group_before a.id b.id) (bars g) (record t { carried = true }) others
    ∙ elim (cases_Bool (same_group t.id g.id)) [
      | inl e ↦ or_left (same_group t.id g.id && leb g.modified t.modified) (list_any (bars g) others) (and_from (same_group t.id g.id) (leb g.modified t.modified) e
          (true_from_ne_false (leb g.modified t.modified) (λ f. false≢true (sym (not-true (list_any (bars t) groups) (sym (takes_is groups t) ∙ free)) ∙ any_implies (bars g) (bars t) (bars_older g t e f) groups h))))
      | inr e ↦ or_right (same_group t.id g.id && leb g.modified t.modified) (list_any (bars g) others) (any_cut (bars g) (λ h. not (same_group h.id t.id)) (λ h k. ap not (false_from_ne_true (same_group h.id t.id) (λ s.
          false≢true (sym e ∙ same_group-of h.id t.id g.id s (and_parts (same_group h.id g.id) (not h.carried || leb g.modified h.modified) k).0)))) groups ∙ h)
    ]
  where
    others : List Group
    others = filter (λ h. not (same_group h.id t.id)) groups

take_bars : (g t : Group) (groups : List Group) → list_any (bars g) groups ≡ true → list_any (bars g) (take_group groups t) ≡ true
unfolding take_group
take_bars g t groups h = cond_both (takes_group groups t) _ _ (λ gs. list_any (bars g) gs ≡ true) (λ e. put_bars g t groups e h) (λ e. h)

-- a group that was taken, or not, bars itself
taken_bars : (g : Group) (groups : List Group) → list_any (bars g) (take_group groups g) ≡ true
unfolding take_group put_group
taken_bars g groups = cond_both (takes_group groups g) _ _ (λ gs. list_any (bars g) gs ≡ true)
    (λ e. any_put (λ a b. group_before a.id b.id) (bars g) (record g { carried = true }) (filter (λ h. not (same_group h.id g.id)) groups)
    ∙ or_left (same_group g.id g.id && leb g.modified g.modified) (list_any (bars g) (filter (λ h. not (same_group h.id g.id)) groups))
    (and_from (same_group g.id g.id) (leb g.modified g.modified) (same_group-refl g.id) (le-leb g.modified g.modified (omega arith))))
    (λ e. not-false (list_any (bars g) groups) (sym (takes_is groups g) ∙ e))

still_bars : (g : Group) (gs groups : List Group) → list_any (bars g) groups ≡ true → list_any (bars g) (take_groups groups gs) ≡ true
unfolding take_groups
still_bars g [] groups h = h
still_bars g (t ∷ gs) groups h = still_bars g gs (take_group groups t) (take_bars g t groups h)

all_bar : (gs groups : List Group) → list_all (λ g. list_any (bars g) (take_groups groups gs)) gs ≡ true
unfolding take_groups
all_bar [] groups = refl
all_bar (g ∷ gs) groups = and_from _ _ (still_bars g gs (take_group groups g) (taken_bars g groups)) (all_bar gs (take_group groups g))

-- where each is barred, none is taken
none_taken : (gs groups : List Group) → list_all (λ g. list_any (bars g) groups) gs ≡ true → (take_groups groups gs ≡ groups) × (count_taken groups gs ≡ 0)
unfolding take_groups count_taken take_group
none_taken [] groups h = (refl, refl)
none_taken (g ∷ gs) groups h =
    let two : (list_any (bars g) groups ≡ true) × (list_all (λ g. list_any (bars g) groups) gs ≡ true) = and_parts _ _ h in
    let barred : takes_group groups g ≡ false = takes_is groups g ∙ ap not two.0 in
    let same : take_group groups g ≡ groups = ap (λ b. cond b (put_group (record g { carried = true }) groups) groups) barred in
    let rest : (take_groups groups gs ≡ groups) × (count_taken groups gs ≡ 0) = none_taken gs groups two.1 in
    let zero_more : 0 + count_taken groups gs ≡ count_taken groups gs = omega arith in
    (ap (λ k. take_groups k gs) same ∙ rest.0, (λ i. cond (barred i) 1 0 + count_taken (same i) gs) ∙ zero_more ∙ rest.1)

-- groups that come again are not taken
pub taken_again : (groups gs : List Group) → (take_groups (take_groups groups gs) gs ≡ take_groups groups gs) × (count_taken (take_groups groups gs) gs ≡ 0)
taken_again groups gs = none_taken gs (take_groups groups gs) (all_bar gs groups)
