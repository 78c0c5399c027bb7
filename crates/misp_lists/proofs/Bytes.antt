-- Numbers as bytes, the highest first, and the order of these bytes.
use Rattle.std.proofs.Common.{◌≡◌, ℕ, zero, suc, ◌+◌, ◌*◌, ◌/◌, ◌%◌, ◌^◌, ◌<◌, List, [], ◌∷◌, ◌++◌, length, get_or, take, drop, inl, inr, refl, sym, ap, ◌∙◌, arith, nat_cmp, w32, w64, length-take, get_or-drop, get_or-take}
use Rattle.std.specs.Ordering.{ordering_then}
use Rattle.std.specs.Int.{Width, w128, byte_len, byte_at, bytes_high_first, from_be_bytes, to_be_bytes}
use Rattle.std.proofs.Math.Nat.{pow-suc, pow-succ', mul-add-div_right}
use Rattle.std.proofs.lemmas.Nat.{row_fits, mod_below, div-mul-add, be_bytes_4, be_bytes_8, from_be_bytes-to_be_bytes_4, from_be_bytes-to_be_bytes_8}
use Rattle.std.proofs.lemmas.Bool.{cases_lt}
use Rattle.std.proofs.lemmas.List.{get_or_past}
use lib.Arith.{mod-mul}
use Rattle.misp_lists.proofs.Orders.{in_bytes, then_assoc, join_cmp}

abbrev pub IsBytes : List ℕ → Type 0
IsBytes bytes = (i : ℕ) → get_or bytes i 0 < 256

pub IsBytes-rest : (b : ℕ) (bytes : List ℕ) → IsBytes (b ∷ bytes) → IsBytes bytes
IsBytes-rest b bytes h i = h (suc i)

pub IsBytes-drop : (n : ℕ) (bytes : List ℕ) → IsBytes bytes → IsBytes (drop n bytes)
IsBytes-drop n bytes h i = rw get_or-drop (h (n + i))

pub IsBytes-take : (n : ℕ) (bytes : List ℕ) → IsBytes bytes → IsBytes (take n bytes)
IsBytes-take n bytes h i =
    elim (cases_lt i n) [
      | inl lt ↦ rw (get_or-take n bytes i 0 lt) (h i)
      | inr le ↦ rw (get_or_past (take n bytes) i 0 (omega (arith, length-take n bytes))) (omega arith)
    ]

-- the number that bytes are, the highest first
abbrev value : List ℕ → ℕ
value [] = 0
value (b ∷ bs) = b * 256 ^ length bs + value bs

pub power_pos : (k : ℕ) → 0 < 256 ^ k
power_pos zero = omega arith
power_pos (suc k) = omega (arith, pow-suc 256 k, power_pos k)

value-lt : (bs : List ℕ) → IsBytes bs → value bs < 256 ^ length bs
value-lt [] fits = omega arith
value-lt (b ∷ bs) fits =
    let rest = value-lt bs (IsBytes-rest b bs fits) in
    let first : b < 256 = fits 0 in
    omega (arith, row_fits b (256 ^ length bs) 256 (256 ^ length bs) first (omega arith), pow-suc 256 (length bs))

pub byte_at-is : (i n : ℕ) → byte_at i n ≡ n / 256 ^ i % 256
byte_at-is zero n = omega arith
byte_at-is (suc i) n = refl

byte_at-low : (k n x : ℕ) → byte_at k (x * 256 * 256 ^ k + n) ≡ byte_at k n
byte_at-low k n x =
    let moved : (x * 256 * 256 ^ k + n) / 256 ^ k ≡ x * 256 + n / 256 ^ k = mul-add-div_right (power_pos k) (x * 256) n in
    byte_at-is k (x * 256 * 256 ^ k + n) ∙ ap (λ q. q % 256) moved ∙ omega arith ∙ sym (byte_at-is k n)

low_bytes : (k n x : ℕ) → bytes_high_first k (x * 256 ^ k + n) ≡ bytes_high_first k n
low_bytes zero n x = refl
low_bytes (suc k) n x =
    let moved : x * 256 ^ suc k + n ≡ x * 256 * 256 ^ k + n = omega (arith, ap (λ p. x * p) (pow-suc 256 k)) in
    let top : byte_at k (x * 256 ^ suc k + n) ≡ byte_at k n = ap (byte_at k) moved ∙ byte_at-low k n x in
    let others : bytes_high_first k (x * 256 ^ suc k + n) ≡ bytes_high_first k n = ap (bytes_high_first k) moved ∙ low_bytes k n (x * 256) in
    λ i. top i ∷ others i

bytes_of_value : (bs : List ℕ) → IsBytes bs → bytes_high_first (length bs) (value bs) ≡ bs
bytes_of_value [] fits = refl
bytes_of_value (b ∷ bs) fits =
    let small : b < 256 = fits 0 in
    let rest = IsBytes-rest b bs fits in
    let top : byte_at (length bs) (b * 256 ^ length bs + value bs) ≡ b =
    byte_at-is (length bs) (b * 256 ^ length bs + value bs) ∙ ap (λ q. q % 256) (div-mul-add b (256 ^ length bs) (value bs) (value-lt bs rest)) ∙ omega arith in
    let others : bytes_high_first (length bs) (b * 256 ^ length bs + value bs) ≡ bs = low_bytes (length bs) (value bs) b ∙ bytes_of_value bs rest in
    λ i. top i ∷ others i

value_of_16 : (bs : List ℕ) → length bs ≡ 16 → from_be_bytes w128 bs ≡ value bs
value_of_16 ([]) len = absurd (omega arith)
value_of_16 (b0 ∷ []) len = absurd (omega arith)
value_of_16 (b0 ∷ b1 ∷ []) len = absurd (omega arith)
value_of_16 (b0 ∷ b1 ∷ b2 ∷ []) len = absurd (omega arith)
value_of_16 (b0 ∷ b1 ∷ b2 ∷ b3 ∷ []) len = absurd (omega arith)
value_of_16 (b0 ∷ b1 ∷ b2 ∷ b3 ∷ b4 ∷ []) len = absurd (omega arith)
value_of_16 (b0 ∷ b1 ∷ b2 ∷ b3 ∷ b4 ∷ b5 ∷ []) len = absurd (omega arith)
value_of_16 (b0 ∷ b1 ∷ b2 ∷ b3 ∷ b4 ∷ b5 ∷ b6 ∷ []) len = absurd (omega arith)
value_of_16 (b0 ∷ b1 ∷ b2 ∷ b3 ∷ b4 ∷ b5 ∷ b6 ∷ b7 ∷ []) len = absurd (omega arith)
value_of_16 (b0 ∷ b1 ∷ b2 ∷ b3 ∷ b4 ∷ b5 ∷ b6 ∷ b7 ∷ b8 ∷ []) len = absurd (omega arith)
value_of_16 (b0 ∷ b1 ∷ b2 ∷ b3 ∷ b4 ∷ b5 ∷ b6 ∷ b7 ∷ b8 ∷ b9 ∷ []) len = absurd (omega arith)
value_of_16 (b0 ∷ b1 ∷ b2 ∷ b3 ∷ b4 ∷ b5 ∷ b6 ∷ b7 ∷ b8 ∷ b9 ∷ b10 ∷ []) len = absurd (omega arith)
value_of_16 (b0 ∷ b1 ∷ b2 ∷ b3 ∷ b4 ∷ b5 ∷ b6 ∷ b7 ∷ b8 ∷ b9 ∷ b10 ∷ b11 ∷ []) len = absurd (omega arith)
value_of_16 (b0 ∷ b1 ∷ b2 ∷ b3 ∷ b4 ∷ b5 ∷ b6 ∷ b7 ∷ b8 ∷ b9 ∷ b10 ∷ b11 ∷ b12 ∷ []) len = absurd (omega arith)
value_of_16 (b0 ∷ b1 ∷ b2 ∷ b3 ∷ b4 ∷ b5 ∷ b6 ∷ b7 ∷ b8 ∷ b9 ∷ b10 ∷ b11 ∷ b12 ∷ b13 ∷ []) len = absurd (omega arith)
value_of_16 (b0 ∷ b1 ∷ b2 ∷ b3 ∷ b4 ∷ b5 ∷ b6 ∷ b7 ∷ b8 ∷ b9 ∷ b10 ∷ b11 ∷ b12 ∷ b13 ∷ b14 ∷ []) len = absurd (omega arith)
value_of_16 (b0 ∷ b1 ∷ b2 ∷ b3 ∷ b4 ∷ b5 ∷ b6 ∷ b7 ∷ b8 ∷ b9 ∷ b10 ∷ b11 ∷ b12 ∷ b13 ∷ b14 ∷ b15 ∷ []) len = omega arith
value_of_16 (b0 ∷ b1 ∷ b2 ∷ b3 ∷ b4 ∷ b5 ∷ b6 ∷ b7 ∷ b8 ∷ b9 ∷ b10 ∷ b11 ∷ b12 ∷ b13 ∷ b14 ∷ b15 ∷ b16 ∷ bs) len = absurd (omega arith)

-- bytes that are read as a number are those that it is written as
pub to_be_bytes-from_be_bytes_16 : (bs : List ℕ) → length bs ≡ 16 → IsBytes bs → to_be_bytes w128 (from_be_bytes w128 bs) ≡ bs
to_be_bytes-from_be_bytes_16 bs len fits =
    ap (bytes_high_first 16) (value_of_16 bs len) ∙ ap (λ k. bytes_high_first k (value bs)) (sym len) ∙ bytes_of_value bs fits

pub from_be_bytes_16-lt : (bs : List ℕ) → IsBytes bs → from_be_bytes w128 bs < 2 ^ 128
from_be_bytes_16-lt bs fits = omega (arith, fits 0, fits 1, fits 2, fits 3, fits 4, fits 5, fits 6, fits 7, fits 8, fits 9, fits 10, fits 11, fits 12, fits 13, fits 14, fits 15)

-- numbers below the limit are written in so many bytes, and read again
pub record IsWide (w : Width) (limit : ℕ) : Type 0 where
  pub len : (n : ℕ) → length (to_be_bytes w n) ≡ byte_len w
  pub back : (bytes : List ℕ) → length bytes ≡ byte_len w → IsBytes bytes → to_be_bytes w (from_be_bytes w bytes) ≡ bytes
  pub again : (n : ℕ) → n < limit → from_be_bytes w (to_be_bytes w n) ≡ n
  pub below : (bytes : List ℕ) → IsBytes bytes → from_be_bytes w bytes < limit

pub wide32 : IsWide w32 (2 ^ 32)
wide32 = record {
  len = λ n. refl;
  back = λ bytes len fits. be_bytes_4 bytes _ len fits refl;
  again = λ n lt. from_be_bytes-to_be_bytes_4 n lt;
  below = λ bytes fits. omega (arith, fits 0, fits 1, fits 2, fits 3);
}

pub wide64 : IsWide w64 (2 ^ 64)
wide64 = record {
  len = λ n. refl;
  back = λ bytes len fits. be_bytes_8 bytes _ len fits refl;
  again = λ n lt. from_be_bytes-to_be_bytes_8 n lt;
  below = λ bytes fits. omega (arith, fits 0, fits 1, fits 2, fits 3, fits 4, fits 5, fits 6, fits 7);
}

-- ---- their order

power_rest : (k n : ℕ) → n % 256 ^ suc k ≡ byte_at k n * 256 ^ k + n % 256 ^ k
power_rest k n = ap (λ p. n % p) (pow-succ' 256 k) ∙ mod-mul n (omega arith) (power_pos k) ∙ ap (λ b. b * 256 ^ k + n % 256 ^ k) (sym (byte_at-is k n))

pub high_first_cmp : (k n m : ℕ) (x y : List ℕ) → in_bytes (bytes_high_first k n ++ x) (bytes_high_first k m ++ y) ≡ ordering_then (nat_cmp (n % 256 ^ k) (m % 256 ^ k)) (in_bytes x y)
high_first_cmp zero n m x y =
    let n-is : n % 256 ^ 0 ≡ 0 = omega arith in
    let m-is : m % 256 ^ 0 ≡ 0 = omega arith in
    rw (n-is, m-is) refl
high_first_cmp (suc k) n m x y =
    let joined = join_cmp (byte_at k n) (byte_at k m) (n % 256 ^ k) (m % 256 ^ k) (256 ^ k) (mod_below n (256 ^ k) (power_pos k)) (mod_below m (256 ^ k) (power_pos k)) in
    let whole : nat_cmp (byte_at k n * 256 ^ k + n % 256 ^ k) (byte_at k m * 256 ^ k + m % 256 ^ k) ≡ nat_cmp (n % 256 ^ suc k) (m % 256 ^ suc k) = rw (power_rest k n, power_rest k m) refl in
    ap (ordering_then (nat_cmp (byte_at k n) (byte_at k m))) (high_first_cmp k n m x y)
    ∙ then_assoc (nat_cmp (byte_at k n) (byte_at k m)) (nat_cmp (n % 256 ^ k) (m % 256 ^ k)) (in_bytes x y) ∙ ap (λ o. ordering_then o (in_bytes x y)) (joined ∙ whole)
