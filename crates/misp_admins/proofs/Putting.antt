-- An item that is put in its place in a list that ascends.
use Rattle.std.proofs.Common.{◌≡◌, ℕ, zero, suc, ◌<◌, true, false, not, List, [], ◌∷◌, length, get_or, take, drop, set, insert, filter, Result, Ok, Err, IfOk, IfErr, refl, sym, ap, subst, ◌∙◌, arith, inl, inr, Ordering, Less, Equal, is_lt, is_eq}
use Rattle.std.specs.List.Sorted.{IsSearchInRange, IsBinarySearchResult}
use Rattle.std.proofs.lemmas.Bool.{not-true}
use Rattle.std.proofs.lemmas.Cmp.{alike_right}
use Rattle.std.proofs.lemmas.List.Kept.{IsStrictlySortedBy-filter}
use Rattle.misp_lists.proofs.All.{all_at, all_implied, all_kept}
use Rattle.misp_lists.proofs.Ordering.{all_put}
use Rattle.misp_lists.proofs.Orders.{less_of, less_from}
use Rattle.misp_lists.proofs.Prelude.{AllByRecursion, IsStrictlySortedBy, IsTotalOrder, cases_Bool, nat_cmp_total, nat_list_cmp_total, on_total, ordering_reverse, put}
use Rattle.misp_lists.proofs.Searching.{parted}
use Rattle.misp_orgs.specs.Admin.{AdminFields, IsAdmin, by_key, by_name, by_uuid}
use Rattle.misp_admins.specs.Made.{put_by, put_item}
use Rattle.misp_admins.specs.declared.item.Item.{Item}

module _ {A : Type 0} (cmp : A → A → Ordering) (total : IsTotalOrder cmp) (x : A) where
  -- what is less is another, and what is greater too
  apart_less : (y : A) → cmp y x ≡ Less → not (is_eq (cmp y x)) ≡ true
  apart_less y less = ap (λ o. not (is_eq o)) less

  apart_greater : (y : A) → cmp x y ≡ Less → not (is_eq (cmp y x)) ≡ true
  apart_greater y less = ap (λ o. not (is_eq o)) (total.antisymm y x ∙ ap ordering_reverse less)

  behind : (y : A) → cmp y x ≡ Less → is_lt (cmp x y) ≡ false
  behind y less = ap is_lt (total.antisymm x y ∙ ap ordering_reverse less)

  -- ---- where it is put

  all_others : (ys : List A) → AllByRecursion (λ z. cmp x z ≡ Less) ys → filter (λ y. not (is_eq (cmp y x))) ys ≡ ys
  all_others [] all = refl
  all_others (y ∷ ys) all = rw (apart_greater y all.0) (ap (λ zs. y ∷ zs) (all_others ys all.1))

  -- before those that are greater
  put_first : (ys : List A) → AllByRecursion (λ z. cmp x z ≡ Less) ys → put_by cmp x ys ≡ x ∷ ys
  unfolding put_by put
  put_first [] all = refl
  put_first (y ∷ ys) all = rw (apart_greater y all.0, ap is_lt all.0, all_others ys all.1) refl

  -- after one that is less
  put_later : (y : A) (ys : List A) → cmp y x ≡ Less → put_by cmp x (y ∷ ys) ≡ y ∷ put_by cmp x ys
  unfolding put_by put
  put_later y ys less = rw (apart_less y less, behind y less) refl

  -- instead of one that is equal
  put_over : (y : A) (ys : List A) → cmp y x ≡ Equal → AllByRecursion (λ z. cmp x z ≡ Less) ys → put_by cmp x (y ∷ ys) ≡ x ∷ ys
  unfolding put_by put
  put_over y ys same after = rw same (put_first ys after)

  put_set : (ys : List A) (at : ℕ) → at < length ys → ((d : A) → cmp (get_or ys at d) x ≡ Equal) → IsStrictlySortedBy cmp ys → put_by cmp x ys ≡ set ys at x
  unfolding IsStrictlySortedBy
  put_set [] at below is up = absurd (omega arith)
  put_set (y ∷ ys) zero below is up =
      put_over y ys (is y) (all_implied (λ z. cmp y z ≡ Less) (λ z. cmp x z ≡ Less) (λ z less. sym (total.congr y x z (is y)) ∙ less) ys up.0)
  put_set (y ∷ ys) (suc at) below is up =
      let z : A = get_or ys at y in
      let less : cmp y z ≡ Less = all_at (λ w. cmp y w ≡ Less) ys at y (omega arith) up.0 in
      put_later y ys (sym (alike_right total z x y (is y)) ∙ less) ∙ ap (λ zs. y ∷ zs) (put_set ys at (omega arith) is up.1)

  put_insert : (ys : List A) (gap : ℕ) → AllByRecursion (λ y. cmp y x ≡ Less) (take gap ys) → AllByRecursion (λ y. cmp x y ≡ Less) (drop gap ys) → put_by cmp x ys ≡ insert ys gap x
  put_insert ys zero before after = put_first ys after
  put_insert [] (suc gap) before after = put_first [] tt
  put_insert (y ∷ ys) (suc gap) before after = put_later y ys before.0 ∙ ap (λ zs. y ∷ zs) (put_insert ys gap before.1 after)

  -- where a binary search ends it is put
  ends : (ys zs : List A) (r : Result ℕ ℕ) → IsStrictlySortedBy cmp ys → IsSearchInRange r (length ys) → IsBinarySearchResult (λ y. cmp y x) ys r
      → IfOk r (λ place. zs ≡ set ys place x) → IfErr r (λ gap. zs ≡ insert ys gap x) → zs ≡ put_by cmp x ys
  ends ys zs (Ok place) up below equal found absent = found ∙ sym (put_set ys place below equal up)
  ends ys zs (Err gap) up within is found absent =
      let parts = parted (λ (y : A). y) cmp total ys x gap up within is in
      absent ∙ sym (put_insert ys gap parts.0 parts.1)

  -- the same, where a slice of the list is searched
  pub put_found : (slice ys zs : List A) (r : Result ℕ ℕ) → slice ≡ ys → IsStrictlySortedBy cmp ys → IsSearchInRange r (length slice) → IsBinarySearchResult (λ y. cmp y x) slice r
      → IfOk r (λ place. zs ≡ set ys place x) → IfErr r (λ gap. zs ≡ insert ys gap x) → zs ≡ put_by cmp x ys
  put_found slice ys zs r is up within ordered =
      ends ys zs r up (subst (λ xs. IsSearchInRange r (length xs)) is within) (subst (λ xs. IsBinarySearchResult (λ y. cmp y x) xs r) is ordered)

  -- ---- the order afterwards

  less : (y : A) → is_lt (cmp x y) ≡ true → cmp x y ≡ Less
  less y first = less_of (cmp x y) first

  greater : (y : A) → is_lt (cmp x y) ≡ false → is_eq (cmp y x) ≡ false → cmp y x ≡ Less
  greater y later apart = less_from (cmp y x) apart (ap is_lt (sym (total.antisymm x y)) ∙ later)

  sorted_placed : (ys : List A) → AllByRecursion (λ y. is_eq (cmp y x) ≡ false) ys → IsStrictlySortedBy cmp ys → IsStrictlySortedBy cmp (put (λ a b. is_lt (cmp a b)) x ys)
  unfolding put IsStrictlySortedBy
  sorted_placed [] apart up = (tt, tt)
  sorted_placed (y ∷ ys) apart up = elim (cases_Bool (is_lt (cmp x y))) [
    | inl first ↦ rw first ((less y first, all_implied (λ z. cmp y z ≡ Less) (λ z. cmp x z ≡ Less) (λ z after. total.trans x y z (less y first) after) ys up.0), up)
    | inr later ↦ rw later (all_put (λ z. cmp y z ≡ Less) (λ a b. is_lt (cmp a b)) x ys (greater y later apart.0) up.0, sorted_placed ys apart.1 up.1)
  ]

  -- what ascends still does with it in its place
  pub sorted_put : (ys : List A) → IsStrictlySortedBy cmp ys → IsStrictlySortedBy cmp (put_by cmp x ys)
  unfolding put_by
  sorted_put ys up = sorted_placed _ (all_kept (λ y. is_eq (cmp y x) ≡ false) (λ y. not (is_eq (cmp y x))) (λ y e. not-true _ e) ys) (IsStrictlySortedBy-filter cmp (λ y. not (is_eq (cmp y x))) ys up)

-- an administration stays one with an item in its place
pub admin_put : (item : Item) (a : AdminFields) → IsAdmin a → IsAdmin (put_item item a)
unfolding put_item
admin_put (Item.Org o) a up = record { orgs = sorted_put by_uuid (on_total (λ held. held.uuid.0.0) nat_cmp_total) o a.orgs up.orgs; keys = up.keys; links = up.links }
admin_put (Item.Key k) a up = record { orgs = up.orgs; keys = sorted_put by_key (on_total (λ held. held.key) nat_list_cmp_total) k a.keys up.keys; links = up.links }
admin_put (Item.Link l) a up = record { orgs = up.orgs; keys = up.keys; links = sorted_put by_name (on_total (λ held. held.name) nat_list_cmp_total) l a.links up.links }

-- nothing at all is one
pub nothing_ascends : IsAdmin (record { orgs = []; keys = []; links = [] })
unfolding IsStrictlySortedBy
nothing_ascends = record { orgs = tt; keys = tt; links = tt }
