-- Members of lists of keys.
use Rattle.std.proofs.Common.{◌≡◌, List, [], ◌∷◌, true, inl, inr, ap, sym, ◌∙◌, ◌++◌, map, subst, refl, Bool, ◌⊎◌, filter}
use Rattle.misp_history.proofs.Prelude.{Key, and_from, cases_Bool, false≢true, list_all, or_cases, or_left, or_right, same_key, same_key-refl, same_key-sound}
use Rattle.misp_erasure.specs.Kept.{is_one_of, joined}

-- the key is in the list
abbrev pub Member : Key → List Key → Type 0
Member k [] = ⊥
Member k (j ∷ js) = (j ≡ k) ⊎ Member k js

pub member : (ks : List Key) (k : Key) → is_one_of ks k ≡ true → Member k ks
unfolding is_one_of
member [] k h = absurd (false≢true h)
member (j ∷ ks) k h = elim (or_cases _ _ h) [ inl e ↦ inl (same_key-sound j k e) | inr e ↦ inr (member ks k e) ]

pub is_member : (ks : List Key) (k : Key) → Member k ks → is_one_of ks k ≡ true
unfolding is_one_of
is_member [] k m = absurd m
is_member (j ∷ ks) k (inl e) = or_left _ _ (ap (same_key j) (sym e) ∙ same_key-refl j)
is_member (j ∷ ks) k (inr m) = or_right _ _ (is_member ks k m)

pub member_left : (xs ys : List Key) (k : Key) → Member k xs → Member k (xs ++ ys)
member_left [] ys k m = absurd m
member_left (x ∷ xs) ys k (inl e) = inl e
member_left (x ∷ xs) ys k (inr m) = inr (member_left xs ys k m)

pub member_right : (xs ys : List Key) (k : Key) → Member k ys → Member k (xs ++ ys)
member_right [] ys k m = m
member_right (x ∷ xs) ys k m = inr (member_right xs ys k m)

pub member_of : (xs ys : List Key) (k : Key) → Member k (xs ++ ys) → Member k xs ⊎ Member k ys
member_of [] ys k m = inr m
member_of (x ∷ xs) ys k (inl e) = inl (inl e)
member_of (x ∷ xs) ys k (inr m) = elim (member_of xs ys k m) [ inl a ↦ inl (inr a) | inr b ↦ inr b ]

pub member_joined : (f : Key → List Key) (ks : List Key) (j k : Key) → Member j ks → Member k (f j) → Member k (joined (map f ks))
unfolding joined
member_joined f [] j k m h = absurd m
member_joined f (x ∷ ks) j k (inl e) h = member_left (f x) (joined (map f ks)) k (let P : Key → Type 0 = λ y. Member k (f y) in subst P (sym e) h)
member_joined f (x ∷ ks) j k (inr m) h = member_right (f x) (joined (map f ks)) k (member_joined f ks j k m h)

pub of_joined : (f : Key → List Key) (ks : List Key) (k : Key) → Member k (joined (map f ks)) → (j : Key) × Member j ks × Member k (f j)
unfolding joined
of_joined f [] k m = absurd m
of_joined f (x ∷ ks) k m = elim (member_of (f x) (joined (map f ks)) k m) [ inl a ↦ (x, inl refl, a) | inr b ↦ (let r : (j : Key) × Member j ks × Member k (f j) = of_joined f ks k b in (r.0, inr r.1, r.2)) ]

pub member_filter : (q : Key → Bool) (ks : List Key) (k : Key) → Member k ks → q k ≡ true → Member k (filter q ks)
member_filter q [] k m h = absurd m
member_filter q (x ∷ ks) k m h = elim (cases_Bool (q x)) [
  | inl e ↦ rw e (elim m [ inl p ↦ inl p | inr n ↦ inr (member_filter q ks k n h) ])
  | inr e ↦ rw e (elim m [ inl p ↦ absurd (false≢true (sym e ∙ ap q p ∙ h)) | inr n ↦ member_filter q ks k n h ])
]

pub of_filter : (q : Key → Bool) (ks : List Key) (k : Key) → Member k (filter q ks) → Member k ks × (q k ≡ true)
of_filter q [] k m = absurd m
of_filter q (x ∷ ks) k m = elim (cases_Bool (q x)) [
  | inl e ↦ (let n : (x ≡ k) ⊎ Member k (filter q ks) = rw e at m in elim n [ inl p ↦ (inl p, ap q (sym p) ∙ e) | inr l ↦ (let r = of_filter q ks k l in (inr r.0, r.1)) ])
  | inr e ↦ (let r = of_filter q ks k (rw e at m) in (inr r.0, r.1))
]

-- all of one list are in another
pub all_members : (xs ys : List Key) → ((k : Key) → Member k xs → Member k ys) → list_all (is_one_of ys) xs ≡ true
all_members [] ys h = refl
all_members (x ∷ xs) ys h = and_from _ _ (is_member ys x (h x (inl refl))) (all_members xs ys (λ k m. h k (inr m)))
