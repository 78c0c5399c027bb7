-- What a search among groups finds, and that a change at that place leaves them in order.
use Rattle.std.proofs.Common.{ℕ, List, length, get_or, Result, Ok, Err, IfOk, IfErr, ◌≡◌, subst, Some, ap, ◌∙◌, None, zero, suc, [], ◌∷◌, arith, ◌<◌, set, Equal, Less, insert}
use Rattle.std.specs.List.Sorted.{IsSearchInRange, IsBinarySearchResult}
use Rattle.std.proofs.lemmas.Cmp.{tied_itself}
use Rattle.misp_lists.proofs.Searching.{parted, found_at, none_at}
use Rattle.misp_lists.proofs.All.{all_insert, all_at, all_set}
use Rattle.misp_groups.specs.Prelude.{AllByRecursion, Group, GroupId, IsGapFor, IsPlaceOf, IsStrictlySortedBy, by_id, by_name, known_group, same_group}
use Rattle.misp_groups.proofs.Ids.{by_id_total, equal_id, same_by_id}

-- a binary search by a name ends at its group, or at the gap for it
pub searched : (xs : List Group) (id : GroupId) (r : Result ℕ ℕ) → IsStrictlySortedBy by_name xs → IsSearchInRange r (length xs) → IsBinarySearchResult (λ y. by_id y.id id) xs r
    → record { found : IfOk r (IsPlaceOf xs id); absent : IfErr r (IsGapFor xs id) }
searched xs id (Ok at) up below equal = record {
  found = record { below = below; is = λ d. equal_id (get_or xs at d).id id (equal d) };
  absent = tt;
}
searched xs id (Err gap) up within is =
    let parts = parted (λ (g : Group). g.id) by_id by_id_total xs id gap up within is in
    record { found = tt; absent = record { within = within; before = parts.0; after = parts.1 } }

-- the same place, and the same gap, of equal lists and names
pub place_as : {xs ys : List Group} {a b : GroupId} {at : ℕ} → xs ≡ ys → a ≡ b → IsPlaceOf xs a at → IsPlaceOf ys b at
place_as {xs} {ys} {a} {b} {at} e f place = subst (λ i. IsPlaceOf ys i at) f (subst (λ gs. IsPlaceOf gs a at) e place)

pub gap_as : {xs ys : List Group} {a b : GroupId} {gap : ℕ} → xs ≡ ys → a ≡ b → IsGapFor xs a gap → IsGapFor ys b gap
gap_as {xs} {ys} {a} {b} {gap} e f place = subst (λ i. IsGapFor ys i gap) f (subst (λ gs. IsGapFor gs a gap) e place)

-- the group at the place of a name is the one that is known by it
pub known_at : (xs : List Group) (id : GroupId) (at : ℕ) (d : Group) → IsStrictlySortedBy by_name xs → IsPlaceOf xs id at → known_group xs id ≡ Some (get_or xs at d)
unfolding known_group
known_at xs id at d up place =
    let same : by_id (get_or xs at d).id id ≡ Equal = ap (λ i. by_id i id) (place.is d) ∙ tied_itself by_id_total id in
    found_at (λ (g : Group). g.id) by_id by_id_total id (λ g. same_group g.id id) (λ g. same_by_id g.id id) xs at d place.below up same

-- no group of a name is known that has a gap
pub unknown_at : (xs : List Group) (id : GroupId) (gap : ℕ) → IsGapFor xs id gap → known_group xs id ≡ None
unfolding known_group
unknown_at xs id gap place = none_at (λ (g : Group). g.id) by_id by_id_total id (λ g. same_group g.id id) (λ g. same_by_id g.id id) xs gap place.before place.after

-- ---- a group put into the gap for its name
pub sorted_insert : (xs : List Group) (gap : ℕ) (g : Group) → IsGapFor xs g.id gap → IsStrictlySortedBy by_name xs → IsStrictlySortedBy by_name (insert xs gap g)
unfolding IsStrictlySortedBy
sorted_insert xs zero g place up = (place.after, up)
sorted_insert [] (suc gap) g place up = (tt, tt)
sorted_insert (y ∷ ys) (suc gap) g place up = (
  all_insert (λ z. by_name y z ≡ Less) ys gap g place.before.0 up.0,
  sorted_insert ys gap g (record { within = omega (arith, place.within); before = place.before.1; after = place.after }) up.1,
)

-- ---- a group in place of the one of its name
pub sorted_set : (xs : List Group) (at : ℕ) (g : Group) → IsPlaceOf xs g.id at → IsStrictlySortedBy by_name xs → IsStrictlySortedBy by_name (set xs at g)
unfolding IsStrictlySortedBy
sorted_set [] at g place up = tt
sorted_set (y ∷ ys) zero g place up = (subst (λ i. AllByRecursion (λ z. by_id i z.id ≡ Less) ys) (place.is y) up.0, up.1)
sorted_set (y ∷ ys) (suc at) g place up =
    let below : at < length ys = omega (arith, place.below) in
    let less : by_id y.id (get_or ys at y).id ≡ Less = all_at (λ z. by_name y z ≡ Less) ys at y below up.0 in
    let lower : by_id y.id g.id ≡ Less = subst (λ i. by_id y.id i ≡ Less) (place.is y) less in
    (all_set (λ z. by_name y z ≡ Less) ys at g lower up.0, sorted_set ys at g (record { below = below; is = λ e. place.is e }) up.1)
