-- Orders of numbers, and of lists of numbers.
use Rattle.std.proofs.Common.{◌≡◌, ℕ, ◌+◌, ◌*◌, ◌<◌, ◌==◌, ltb, eqb, true, false, List, [], ◌∷◌, ◌++◌, length, refl, sym, ap, ◌∙◌, arith, inl, inr, ◌&&◌, ◌||◌, ◌⊎◌, Ordering, Less, Equal, Greater, nat_cmp, is_lt, is_eq, eq-eqb, lt-ltb}
use Rattle.std.proofs.lemmas.Bool.{cases_lt, cases_order, and_from, or_left, or_right, false≢true, true_from_ne_false}
use Rattle.std.proofs.lemmas.Bool.Decides.{nat_tests}
use Rattle.std.proofs.lemmas.Nat.{row_fits}
use Rattle.std.specs.Cmp.{IsStrictWeakOrder}
use Rattle.std.proofs.lemmas.Cmp.{nat_list_cmp_total}
use Rattle.std.proofs.lemmas.List.Sorted.{ranks_by}
use Rattle.misp_lists.specs.Prelude.{ordering_reverse, ordering_then, slice_cmp}
use Rattle.misp_lists.specs.Order.{is_less}

-- ---- what a comparison tells

pub less_of : (o : Ordering) → is_lt o ≡ true → o ≡ Less
less_of Less h = refl
less_of Equal h = absurd (false≢true h)
less_of Greater h = absurd (false≢true h)

-- of two that are not equal one is less
pub less_from : (o : Ordering) → is_eq o ≡ false → is_lt (ordering_reverse o) ≡ false → o ≡ Less
less_from Less e f = refl
less_from Equal e f = absurd cc
less_from Greater e f = absurd cc

pub then_assoc : (a b c : Ordering) → ordering_then a (ordering_then b c) ≡ ordering_then (ordering_then a b) c
then_assoc Less b c = refl
then_assoc Equal b c = refl
then_assoc Greater b c = refl

pub then_equal : (o : Ordering) → ordering_then o Equal ≡ o
then_equal Less = refl
then_equal Equal = refl
then_equal Greater = refl

pub is_eq-then : (o p : Ordering) → is_eq (ordering_then o p) ≡ (is_eq o && is_eq p)
is_eq-then Less p = refl
is_eq-then Equal p = refl
is_eq-then Greater p = refl

pub is_lt-then : (o p : Ordering) → is_lt (ordering_then o p) ≡ (is_lt o || is_eq o && is_lt p)
is_lt-then Less p = refl
is_lt-then Equal p = refl
is_lt-then Greater p = refl

-- ---- numbers

pub numbers_equal : (m n : ℕ) → is_eq (nat_cmp m n) ≡ (m == n)
numbers_equal m n = grind (arith, nat_tests)

pub numbers_less : (m n : ℕ) → is_lt (nat_cmp m n) ≡ ltb m n
numbers_less m n = grind (arith, nat_tests)

pub less : (a b : ℕ) → a < b → nat_cmp a b ≡ Less
less a b h = grind (arith, nat_tests)

pub greater : (a b : ℕ) → b < a → nat_cmp a b ≡ Greater
greater a b h = grind (arith, nat_tests)

pub same : (a : ℕ) → nat_cmp a a ≡ Equal
same a = grind (arith, nat_tests)

shift_cmp : (c r s : ℕ) → nat_cmp (c + r) (c + s) ≡ nat_cmp r s
shift_cmp c r s =
    elim (cases_lt r s) [
      | inl lt ↦ less (c + r) (c + s) (omega arith) ∙ sym (less r s lt)
      | inr le ↦ elim (cases_lt s r) [
        | inl gt ↦ greater (c + r) (c + s) (omega arith) ∙ sym (greater r s gt)
        | inr ge ↦
            let is : r ≡ s = omega arith in
            rw is (same (c + s) ∙ sym (same s))
      ]
    ]

pub join_cmp : (a b r s p : ℕ) → r < p → s < p → ordering_then (nat_cmp a b) (nat_cmp r s) ≡ nat_cmp (a * p + r) (b * p + s)
join_cmp a b r s p hr hs =
    elim (cases_lt a b) [
      | inl lt ↦ ap (λ o. ordering_then o (nat_cmp r s)) (less a b lt) ∙ sym (less (a * p + r) (b * p + s) (omega (arith, row_fits a p b p lt (omega arith))))
      | inr le ↦ elim (cases_lt b a) [
        | inl gt ↦ ap (λ o. ordering_then o (nat_cmp r s)) (greater a b gt) ∙ sym (greater (a * p + r) (b * p + s) (omega (arith, row_fits b p a p gt (omega arith))))
        | inr ge ↦
            let is : a ≡ b = omega arith in
            rw is (ap (λ o. ordering_then o (nat_cmp r s)) (same b) ∙ sym (shift_cmp (b * p) r s))
      ]
    ]

-- ---- lists of numbers

abbrev pub in_bytes : List ℕ → List ℕ → Ordering
in_bytes x y = slice_cmp nat_cmp x y

pub itself : (xs : List ℕ) → in_bytes xs xs ≡ Equal
itself [] = refl
itself (x ∷ xs) = ap (λ o. ordering_then o (in_bytes xs xs)) (same x) ∙ itself xs

pub bytes_on : (a b c : List ℕ) → is_lt (in_bytes a b) ≡ true → is_lt (in_bytes b c) ≡ true → is_lt (in_bytes a c) ≡ true
bytes_on a b c h k = ap is_lt (nat_list_cmp_total.trans a b c (less_of _ h) (less_of _ k))

-- lists of one length in front decide before what follows
-- lists of one length in front decide before what follows
pub front_cmp : (a b x y : List ℕ) → length a ≡ length b → in_bytes (a ++ x) (b ++ y) ≡ ordering_then (in_bytes a b) (in_bytes x y)
front_cmp [] [] x y e = refl
front_cmp [] (b ∷ bs) x y e = absurd (omega (arith, e))
front_cmp (a ∷ us) [] x y e = absurd (omega (arith, e))
front_cmp (a ∷ us) (b ∷ bs) x y e =
    ap (ordering_then (nat_cmp a b)) (front_cmp us bs x y (omega (arith, e))) ∙ then_assoc (nat_cmp a b) (in_bytes us bs) (in_bytes x y)

-- a list stands before another where it is less
-- a number in front decides first
pub lt_then : (e f : ℕ) (o : Ordering) → is_lt (ordering_then (nat_cmp e f) o) ≡ (ltb e f || eqb e f && is_lt o)
lt_then e f o = grind (arith, nat_tests)

-- the order of lists of numbers is that of bytes
pub less_is : (a b : List ℕ) → is_less a b ≡ is_lt (in_bytes a b)
unfolding is_less
less_is [] [] = refl
less_is [] (y ∷ b) = refl
less_is (x ∷ a) [] = refl
less_is (x ∷ a) (y ∷ b) = ap (λ t. ltb x y || eqb x y && t) (less_is a b) ∙ sym (lt_then x y (in_bytes a b))

pub less_weak : IsStrictWeakOrder is_less
less_weak =
    let weak : IsStrictWeakOrder (λ a b. is_lt (in_bytes a b)) = ranks_by nat_list_cmp_total (λ x. x) in
    record {
      one_way = λ a b h. less_is b a ∙ weak.one_way a b (sym (less_is a b) ∙ h);
      chain = λ a b c h k. less_is a c ∙ weak.chain a b c (sym (less_is a b) ∙ h) (sym (less_is b c) ∙ k);
    }

pub less_on : (a b c : List ℕ) → is_less a b ≡ true → is_less b c ≡ true → is_less a c ≡ true
less_on a b c h k = less_is a c ∙ bytes_on a b c (sym (less_is a b) ∙ h) (sym (less_is b c) ∙ k)

pub less_past : (w x y : List ℕ) → is_less w y ≡ true → is_less x y ≡ false → is_less w x ≡ true
less_past w x y h k = true_from_ne_false _ (λ e. false≢true (sym (less_weak.chain w x y e k) ∙ h))

pub less_one_way : (a b : List ℕ) → is_less a b ≡ true → is_less b a ≡ false
less_one_way a b h = less_weak.one_way a b h

pub less_or : (a b : List ℕ) → (a ≡ b) ⊎ ((is_less a b ≡ true) ⊎ (is_less b a ≡ true))
unfolding is_less
less_or [] [] = inl refl
less_or [] (y ∷ b) = inr (inl refl)
less_or (x ∷ a) [] = inr (inr refl)
less_or (x ∷ a) (y ∷ b) = one (cases_order x y) (less_or a b)
  where
    one : (x ≡ y) ⊎ ((x < y) ⊎ (y < x)) → (a ≡ b) ⊎ ((is_less a b ≡ true) ⊎ (is_less b a ≡ true)) → (x ∷ a ≡ y ∷ b) ⊎ (((ltb x y || eqb x y && is_less a b) ≡ true) ⊎ ((ltb y x || eqb y x && is_less b a) ≡ true))
    one (inl e) (inl p) = inl (λ i. e i ∷ p i)
    one (inl e) (inr (inl l)) = inr (inl (or_right _ _ (and_from _ _ (eq-eqb x y e) l)))
    one (inl e) (inr (inr l)) = inr (inr (or_right _ _ (and_from _ _ (eq-eqb y x (sym e)) l)))
    one (inr (inl l)) r = inr (inl (or_left _ _ (lt-ltb x y l)))
    one (inr (inr l)) r = inr (inr (or_left _ _ (lt-ltb y x l)))
