-- Where one is put among others.
use Rattle.std.proofs.Common.{◌≡◌, ℕ, suc, ◌+◌, Bool, true, false, not, refl, ap, sym, arith, List, [], ◌∷◌, length, cond, nat_lt, ltb-false, Some, None, is_some, unwrap_or}
use Rattle.std.proofs.lemmas.List.Sums.{prefix_len-le-length}
use Rattle.std.specs.List.{insert, position, position_or_len}
use Rattle.misp_model.proofs.Prelude.{false≢true, put}

one_more : (n : ℕ) → 1 + n ≡ suc n
one_more n = omega arith

-- one is put before the first that it goes before
pub put_at : {X : Type 0} (before : X → X → Bool) (x : X) (ys : List X) → insert ys (position_or_len (before x) ys) x ≡ put before x ys
unfolding put
put_at before x [] = refl
put_at before x (y ∷ ys) = one (before x y) (put_at before x ys)
  where
    one : (b : Bool) → insert ys (position_or_len (before x) ys) x ≡ put before x ys → insert (y ∷ ys) (cond (not b) (1 + position_or_len (before x) ys) 0) x ≡ cond b (x ∷ y ∷ ys) (y ∷ put before x ys)
    one true ih = refl
    one false ih = rw (one_more (position_or_len (before x) ys)) (ap (λ zs. y ∷ zs) ih)

module _ {X : Type 0} (p : X → Bool) (xs : List X) where
  -- the place of the first that passes, and the length where none does
  pub some_place : (k : ℕ) → Some k ≡ position p xs → k ≡ position_or_len p xs
  some_place k h = one (nat_lt (position_or_len p xs) (length xs)) h
    where
      one : (b : Bool) → Some k ≡ cond b (Some (position_or_len p xs)) None → k ≡ position_or_len p xs
      one true g = ap (λ o. unwrap_or o 0) g
      one false g = absurd (false≢true (sym (ap is_some g)))

  pub none_place : None ≡ position p xs → length xs ≡ position_or_len p xs
  none_place h = one (nat_lt (position_or_len p xs) (length xs)) refl h
    where
      one : (b : Bool) → nat_lt (position_or_len p xs) (length xs) ≡ b → None ≡ cond b (Some (position_or_len p xs)) None → length xs ≡ position_or_len p xs
      one true e g = absurd (false≢true (ap is_some g))
      one false e g = let most = prefix_len-le-length (λ x. not (p x)) xs in let least = ltb-false (position_or_len p xs) (length xs) e in omega arith
