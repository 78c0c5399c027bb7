-- Groups put in their places, and taken away again.
use Rattle.std.proofs.Common.{not, List, ◌≡◌, [], ◌∷◌, refl, ap, ℕ, zero, suc, ◌<◌, true, ◌++◌, length, get_or, set, subst, ◌∙◌, arith, sym, find, None, inl, inr, false, if◌then◌else◌, Some, filter, insert, Less, append-nil, append_assoc}
use Rattle.misp_ids.specs.Same.{group_before}
use Rattle.misp_lists.proofs.All.{all_at, middle}
use Rattle.misp_lists.proofs.Prelude.{cases_Bool, put}
use Rattle.misp_lists.proofs.Lists.{find_cut}
use Rattle.misp_lists.proofs.Ordering.{find_hit, find_miss}
use Rattle.misp_groups.specs.Prelude.{AllByRecursion, Group, GroupId, IsGapFor, IsPlaceOf, IsStrictlySortedBy, by_id, by_name, known_group, put_group, same_group}
use Rattle.misp_groups.specs.Groups.{put_groups}
use Rattle.misp_groups.proofs.Ids.{greater_apart, less_apart, same_group-refl, less_before, greater_behind, same_group-sound}

-- those that have not this name
abbrev pub others : GroupId → List Group → List Group
others id xs = filter (λ h. not (same_group h.id id)) xs

-- ---- where a group is put
all_others : (id : GroupId) (xs : List Group) → AllByRecursion (λ z. by_id id z.id ≡ Less) xs → others id xs ≡ xs
all_others id [] all = refl
all_others id (x ∷ xs) all = rw (greater_apart x.id id all.0) (ap (λ ys. x ∷ ys) (all_others id xs all.1))

module _ (g : Group) where
  -- before those that are greater
  put_first : (xs : List Group) → AllByRecursion (λ z. by_id g.id z.id ≡ Less) xs → put_group g xs ≡ g ∷ xs
  unfolding put_group put
  put_first [] all = refl
  put_first (x ∷ xs) all = rw (greater_apart x.id g.id all.0, less_before g.id x.id all.0, all_others g.id xs all.1) refl

  -- after one that is less
  put_later : (y : Group) (ys : List Group) → by_id y.id g.id ≡ Less → put_group g (y ∷ ys) ≡ y ∷ put_group g ys
  unfolding put_group put
  put_later y ys less = rw (less_apart y.id g.id less, greater_behind g.id y.id less) refl

  -- instead of one of its name
  put_over : (y : Group) (ys : List Group) → y.id ≡ g.id → AllByRecursion (λ z. by_id g.id z.id ≡ Less) ys → put_group g (y ∷ ys) ≡ g ∷ ys
  unfolding put_group put
  put_over y ys same after =
      let hit : same_group y.id g.id ≡ true = ap (λ i. same_group i g.id) same ∙ same_group-refl g.id in
      rw hit (put_first ys after)

  pub put_set : (xs : List Group) (at : ℕ) → IsPlaceOf xs g.id at → IsStrictlySortedBy by_name xs → put_group g xs ≡ set xs at g
  unfolding IsStrictlySortedBy
  put_set [] at place up = absurd (omega (arith, place.below))
  put_set (y ∷ ys) zero place up = put_over y ys (place.is y) (subst (λ i. AllByRecursion (λ z. by_id i z.id ≡ Less) ys) (place.is y) up.0)
  put_set (y ∷ ys) (suc at) place up =
      let below : at < length ys = omega (arith, place.below) in
      let less : by_id y.id (get_or ys at y).id ≡ Less = all_at (λ z. by_name y z ≡ Less) ys at y below up.0 in
      let lower : by_id y.id g.id ≡ Less = subst (λ i. by_id y.id i ≡ Less) (place.is y) less in
      put_later y ys lower ∙ ap (λ zs. y ∷ zs) (put_set ys at (record { below = below; is = λ e. place.is e }) up.1)

  pub put_insert : (xs : List Group) (gap : ℕ) → IsGapFor xs g.id gap → put_group g xs ≡ insert xs gap g
  put_insert xs zero place = put_first xs place.after
  put_insert [] (suc gap) place = put_first [] tt
  put_insert (y ∷ ys) (suc gap) place =
      put_later y ys place.before.0
      ∙ ap (λ zs. y ∷ zs) (put_insert ys gap (record { within = omega (arith, place.within); before = place.before.1; after = place.after }))

  put_last : (xs : List Group) → AllByRecursion (λ y. by_id y.id g.id ≡ Less) xs → put_group g xs ≡ xs ++ g ∷ []
  put_last [] all = put_first [] tt
  put_last (y ∷ ys) all = put_later y ys all.0 ∙ ap (λ zs. y ∷ zs) (put_last ys all.1)

-- ---- one after another
less_ahead : (xs ys : List Group) (g : Group) → IsStrictlySortedBy by_name (xs ++ g ∷ ys) → AllByRecursion (λ y. by_id y.id g.id ≡ Less) xs
unfolding IsStrictlySortedBy
less_ahead [] ys g up = tt
less_ahead (x ∷ xs) ys g up = (middle (λ z. by_name x z ≡ Less) xs ys g up.0, less_ahead xs ys g up.1)

put_on : (xs gs : List Group) → IsStrictlySortedBy by_name (xs ++ gs) → put_groups xs gs ≡ xs ++ gs
unfolding put_groups
put_on xs [] up = sym (append-nil xs)
put_on xs (g ∷ gs) up =
    let whole : (xs ++ g ∷ []) ++ gs ≡ xs ++ g ∷ gs = append_assoc xs (g ∷ []) gs in
    ap (λ ys. put_groups ys gs) (put_last g xs (less_ahead xs gs g up))
    ∙ put_on (xs ++ g ∷ []) gs (subst (IsStrictlySortedBy by_name) (sym whole) up)
    ∙ whole

-- groups in order come of putting one after another in its place
pub in_order_again : (gs : List Group) → IsStrictlySortedBy by_name gs → put_groups [] gs ≡ gs
in_order_again gs up = put_on [] gs up

-- ---- what is known then
none_of_others : (id : GroupId) (xs : List Group) → find (λ h. same_group h.id id) (others id xs) ≡ None
none_of_others id [] = refl
none_of_others id (x ∷ xs) = elim (cases_Bool (same_group x.id id)) [
  | inl hit ↦ rw hit (none_of_others id xs)
  | inr miss ↦ rw (miss, miss) (none_of_others id xs)
]

-- the name of a group that is put has it, and every other name the group that it had
pub known_put : (g : Group) (xs : List Group) (id : GroupId) → known_group (put_group g xs) id ≡ (if same_group g.id id then Some g else known_group xs id)
unfolding known_group put_group
known_put g xs id = elim (cases_Bool (same_group g.id id)) [
  | inl hit ↦
      let none : find (λ h. same_group h.id id) (others g.id xs) ≡ None =
      subst (λ i. find (λ h. same_group h.id i) (others g.id xs) ≡ None) (same_group-sound g.id id hit) (none_of_others g.id xs) in
      find_hit (λ a b. group_before a.id b.id) (λ h. same_group h.id id) g hit (others g.id xs) none ∙ rw hit refl
  | inr miss ↦
      find_miss (λ a b. group_before a.id b.id) (λ h. same_group h.id id) g miss (others g.id xs)
      ∙ find_cut (λ h. same_group h.id id) (λ h. not (same_group h.id g.id)) (λ h named. apart h named miss) xs
      ∙ rw miss refl
]
  where
    apart : (h : Group) → same_group h.id id ≡ true → same_group g.id id ≡ false → not (same_group h.id g.id) ≡ true
    apart h named miss = elim (cases_Bool (same_group h.id g.id)) [
      | inl hit ↦ absurd (
          let e : g.id ≡ id = sym (same_group-sound h.id g.id hit) ∙ same_group-sound h.id id named in
          let same : same_group g.id id ≡ true = ap (λ i. same_group g.id i) (sym e) ∙ same_group-refl g.id in
          cc)
      | inr other ↦ rw other refl
    ]
