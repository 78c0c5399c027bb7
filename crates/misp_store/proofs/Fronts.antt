-- The number of the first 16 bytes of a name, and the order of names by it.
use Rattle.std.proofs.Common.{◌≡◌, ℕ, zero, suc, ◌+◌, ◌*◌, ◌^◌, ◌<◌, ◌≤◌, List, [], ◌∷◌, ◌++◌, true, inl, inr, refl, sym, ap, ◌∙◌, arith, nat_cmp, is_ge, eqb-true}
use Rattle.std.specs.Int.{w128, byte_at, bytes_high_first, from_be_bytes}
use Rattle.std.proofs.Math.Nat.{pow-suc}
use Rattle.std.proofs.lemmas.Nat.{row_fits}
use Rattle.std.proofs.lemmas.Bool.{cases_lt}
use Rattle.misp_lists.proofs.Bytes.{IsBytes, IsBytes-rest, byte_at-is, from_be_bytes_16-lt, power_pos, to_be_bytes-from_be_bytes_16}
use Rattle.misp_lists.proofs.Orders.{in_bytes, less, same}
use Rattle.misp_lists.proofs.Prelude.{bytes_eq-Decides, false≢true, ordering_then}
use Rattle.misp_elem.specs.Prelude.{IsUid, Uid}
use Rattle.misp_elem.specs.Spelling.{uid}
use Rattle.misp_store.specs.Seen.{front_number}
use Rattle.misp_store.proofs.OwnerRows.{same_bytes}

-- ---- so many bytes as a number, the highest first, and 0 after the last

abbrev front : ℕ → List ℕ → ℕ
front zero bs = 0
front (suc k) [] = 0
front (suc k) (b ∷ bs) = b * 256 ^ k + front k bs

front_below : (k : ℕ) (bs : List ℕ) → IsBytes bs → front k bs < 256 ^ k
front_below zero bs fits = omega arith
front_below (suc k) [] fits = power_pos (suc k)
front_below (suc k) (b ∷ bs) fits =
    let rest = front_below k bs (IsBytes-rest b bs fits) in
    let first : b < 256 = fits 0 in
    omega (arith, rest, row_fits b (256 ^ k) 256 (256 ^ k) first (omega arith), pow-suc 256 k)

-- what is not before bytes has no lesser number
front_up : (k : ℕ) (n f : List ℕ) → IsBytes f → is_ge (in_bytes n f) ≡ true → front k f ≤ front k n
front_up zero n f fits h = omega arith
front_up (suc k) n [] fits h = omega arith
front_up (suc k) [] (b ∷ f) fits h = absurd (false≢true h)
front_up (suc k) (a ∷ n) (b ∷ f) fits h =
    elim (cases_lt a b) [
      | inl lt ↦ absurd (false≢true (sym (ap (λ o. is_ge (ordering_then o (in_bytes n f))) (less a b lt)) ∙ h))
      | inr le ↦ elim (cases_lt b a) [
        | inl gt ↦ omega (arith, front_below k f (IsBytes-rest b f fits), row_fits b (256 ^ k) a (256 ^ k) gt (omega arith))
        | inr ge ↦
            let is : a ≡ b = omega arith in
            let first : nat_cmp a b ≡ nat_cmp b b = ap (λ x. nat_cmp x b) is in
            let rest = front_up k n f (IsBytes-rest b f fits) (sym (ap (λ o. is_ge (ordering_then o (in_bytes n f))) (first ∙ same b)) ∙ h) in
            omega (arith, rest, ap (λ x. x * 256 ^ k) is)
      ]
    ]

front_is : (bs : List ℕ) → from_be_bytes w128 bs ≡ front 16 bs
front_is [] = omega arith
front_is (b0 ∷ []) = omega arith
front_is (b0 ∷ b1 ∷ []) = omega arith
front_is (b0 ∷ b1 ∷ b2 ∷ []) = omega arith
front_is (b0 ∷ b1 ∷ b2 ∷ b3 ∷ []) = omega arith
front_is (b0 ∷ b1 ∷ b2 ∷ b3 ∷ b4 ∷ []) = omega arith
front_is (b0 ∷ b1 ∷ b2 ∷ b3 ∷ b4 ∷ b5 ∷ []) = omega arith
front_is (b0 ∷ b1 ∷ b2 ∷ b3 ∷ b4 ∷ b5 ∷ b6 ∷ []) = omega arith
front_is (b0 ∷ b1 ∷ b2 ∷ b3 ∷ b4 ∷ b5 ∷ b6 ∷ b7 ∷ []) = omega arith
front_is (b0 ∷ b1 ∷ b2 ∷ b3 ∷ b4 ∷ b5 ∷ b6 ∷ b7 ∷ b8 ∷ []) = omega arith
front_is (b0 ∷ b1 ∷ b2 ∷ b3 ∷ b4 ∷ b5 ∷ b6 ∷ b7 ∷ b8 ∷ b9 ∷ []) = omega arith
front_is (b0 ∷ b1 ∷ b2 ∷ b3 ∷ b4 ∷ b5 ∷ b6 ∷ b7 ∷ b8 ∷ b9 ∷ b10 ∷ []) = omega arith
front_is (b0 ∷ b1 ∷ b2 ∷ b3 ∷ b4 ∷ b5 ∷ b6 ∷ b7 ∷ b8 ∷ b9 ∷ b10 ∷ b11 ∷ []) = omega arith
front_is (b0 ∷ b1 ∷ b2 ∷ b3 ∷ b4 ∷ b5 ∷ b6 ∷ b7 ∷ b8 ∷ b9 ∷ b10 ∷ b11 ∷ b12 ∷ []) = omega arith
front_is (b0 ∷ b1 ∷ b2 ∷ b3 ∷ b4 ∷ b5 ∷ b6 ∷ b7 ∷ b8 ∷ b9 ∷ b10 ∷ b11 ∷ b12 ∷ b13 ∷ []) = omega arith
front_is (b0 ∷ b1 ∷ b2 ∷ b3 ∷ b4 ∷ b5 ∷ b6 ∷ b7 ∷ b8 ∷ b9 ∷ b10 ∷ b11 ∷ b12 ∷ b13 ∷ b14 ∷ []) = omega arith
front_is (b0 ∷ b1 ∷ b2 ∷ b3 ∷ b4 ∷ b5 ∷ b6 ∷ b7 ∷ b8 ∷ b9 ∷ b10 ∷ b11 ∷ b12 ∷ b13 ∷ b14 ∷ b15 ∷ bs) = omega arith

number_is : (bs : List ℕ) → front_number bs ≡ front 16 bs
unfolding front_number
number_is bs = front_is bs

-- ---- names in order

-- a name that is not before another begins with no lesser number
pub numbers_up : (n f : List ℕ) → IsBytes f → is_ge (in_bytes n f) ≡ true → front_number f ≤ front_number n
numbers_up n f fits h = omega (arith, front_up 16 n f fits h, number_is n, number_is f)

-- ---- names that begin with an owner

byte_small : (k n : ℕ) → byte_at k n < 256
byte_small k n = omega (arith, byte_at-is k n)

bytes_small : (k n : ℕ) → IsBytes (bytes_high_first k n)
bytes_small zero n i = omega arith
bytes_small (suc k) n zero = byte_small k n
bytes_small (suc k) n (suc i) = bytes_small k n i

pub uid_bytes : (u : Uid) → IsBytes (uid u)
unfolding uid
uid_bytes u = bytes_small 16 u.0

pub number_fits : (u : Uid) (rest : List ℕ) → front_number (uid u ++ rest) < 2 ^ 128
unfolding front_number uid
number_fits u rest = from_be_bytes_16-lt (uid u) (uid_bytes u)

one_number : (a b : Uid) → IsUid a → IsUid b → uid a ≡ uid b → a.0 ≡ b.0
one_number a b h k e = sym (eqb-true b.0 a.0 (sym (same_bytes a b h k) ∙ (bytes_eq-Decides (uid a) (uid b)).1 e))

pub number_of_uid : (u : Uid) (rest : List ℕ) → IsUid u → front_number (uid u ++ rest) ≡ u.0
unfolding front_number uid
number_of_uid u rest is =
    one_number (record { 0 = from_be_bytes w128 (uid u) }) u (from_be_bytes_16-lt (uid u) (uid_bytes u)) is
    (to_be_bytes-from_be_bytes_16 (uid u) refl (uid_bytes u))
