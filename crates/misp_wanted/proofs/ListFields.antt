-- Lists of fields are read as they are written.
use Rattle.std.proofs.Common.{◌≡◌, ℕ, zero, suc, ◌+◌, ◌-◌, ◌<◌, ◌≤◌, ◌^◌, false, ltb, List, [], ◌∷◌, ◌++◌, length, take, drop, flat_map, Result, Ok, Err, refl, sym, ap, subst, ◌∙◌, append_assoc, append-nil, arith, w32}
use Rattle.std.proofs.Common.{ltb-false, le-ltb, take_at, drop_at, take-append-drop, length-append, length-take}
use Rattle.std.proofs.lemmas.List.Concat.{flat_map-cons}
use Rattle.misp_lists.proofs.Bytes.{IsBytes, IsBytes-drop, IsBytes-take}
use Rattle.misp_elem.specs.Prelude.{◌>>=◌, IsBetween, Reading}
use Rattle.misp_elem.specs.Reading.{number_at}
use Rattle.misp_elem.specs.Spelling.{text}
use Rattle.misp_elem.proofs.Exact.{bind_ok, guard_ok, no_error, ok_is, Takes, Takes-then, IsField, IsMade, first, whole}
use Rattle.misp_package.specs.PackageReading.{Fails, before_others}
use Rattle.misp_package.specs.Spelling.{number}
use Rattle.misp_package.proofs.PackageFields.{count_field, number_field_32}
use Rattle.misp_wanted.specs.ManifestReading.{counted_at, framed_at, items_after, of_length}
use Rattle.misp_package.specs.declared.reading.Stop.{Stop}

-- ---- after a length

-- what is read of all the bytes is written so, and in fewer bytes than four count
pub record IsWholly {A : Type 0} (Is : A → Type 0) (write : A → List ℕ) (of : List ℕ → Result A ℕ) : Type 0 where
  pub takes : (bytes : List ℕ) (a : A) → IsBytes bytes → of bytes ≡ Ok a → Is a × (bytes ≡ write a)
  pub again : (a : A) → Is a → of (write a) ≡ Ok a
  pub short : (a : A) → Is a → length (write a) < 2 ^ 32

others_ok : {A : Type 0} (rest : List ℕ) (read : Result A ℕ) (y : A × List ℕ) → before_others rest read ≡ Ok y → (read ≡ Ok y.0) × (rest ≡ y.1)
others_ok {A} rest (Ok x) y e =
    let made : A × List ℕ = (x, rest) in
    let is = ok_is made y e in
    (ap (λ (p : A × List ℕ). Ok p.0) is, ap (λ (p : A × List ℕ). p.1) is)
others_ok rest (Err left) y e = absurd (no_error (left + length rest) y e)

module _ {A : Type 0} {Is : A → Type 0} {write : A → List ℕ} {of : List ℕ → Result A ℕ} (wholly : IsWholly Is write of) where
  framed_takes : (bytes : List ℕ) (a : A) (rest : List ℕ) → IsBytes bytes → framed_at of bytes ≡ Ok (a, rest) → Is a × Takes bytes (text (write a)) rest
  unfolding framed_at text number
  framed_takes bytes a rest fits h =
      let b = bind_ok (number_at w32 bytes) (λ len. of_length of bytes len.0 len.1) (a, rest) h in
      let len = b.0.0 in
      let after = b.0.1 in
      let n = number_field_32.takes bytes len after fits b.1 in
      let g = guard_ok (ltb (length after) len) (length bytes) (before_others (drop len after) (of (take len after))) (a, rest) b.2 in
      let o = others_ok (drop len after) (of (take len after)) (a, rest) g.1 in
      let t = wholly.takes (take len after) a (IsBytes-take len after n.1.rest_fits) o.0 in
      let long : len ≤ length after = ltb-false _ _ g.0 in
      let size : length (write a) ≡ len = omega (arith, ap length t.1, length-take len after) in
      let parts : after ≡ write a ++ rest = sym (take-append-drop len after) ∙ ap (λ (x : List ℕ). x ++ drop len after) t.1 ∙ ap (λ (x : List ℕ). write a ++ x) o.1 in
      let second : Takes after (write a) rest = record { parts = parts; rest_fits = subst IsBytes o.1 (IsBytes-drop len after n.1.rest_fits) } in
      let both = Takes-then bytes (number len) after (write a) rest n.1 second in
      (t.0, subst (λ (m : ℕ). Takes bytes (number m ++ write a) rest) (sym size) both)

  framed_again : (a : A) (rest : List ℕ) → Is a → framed_at of (text (write a) ++ rest) ≡ Ok (a, rest)
  unfolding framed_at text number
  framed_again a rest h =
      let long : ltb (length (write a ++ rest)) (length (write a)) ≡ false = le-ltb _ _ (omega (arith, length-append (write a) rest)) in
      let read : number_at w32 ((number (length (write a)) ++ write a) ++ rest) ≡ Ok (length (write a), write a ++ rest) =
      ap (number_at w32) (append_assoc (number (length (write a))) (write a) rest) ∙ number_field_32.again (length (write a)) (write a ++ rest) (wholly.short a h) in
      rw (read, long, take_at (write a) rest (length (write a)) refl, wholly.again a h, drop_at (write a) rest (length (write a)) refl) refl

  pub framed_field : IsField Is (λ a. text (write a)) (framed_at of)
  framed_field = record { takes = framed_takes; again = framed_again }

-- so many bytes are read so, and the others follow
pub framed_is : {A : Type 0} (of : List ℕ → Result A ℕ) (bytes : List ℕ) (len : ℕ) (after front back : List ℕ)
    → number_at w32 bytes ≡ Ok (len, after) → len ≤ length after → front ≡ take len after → back ≡ drop len after
    → framed_at of bytes ≡ before_others back (of front)
unfolding framed_at
framed_is of bytes len after front back read long front-is back-is = rw (read, le-ltb (length after) len long, front-is, back-is) refl

pub read_before : {A : Type 0} (back : List ℕ) (read : Result A ℕ) (a : A) → read ≡ Ok a → before_others back read ≡ Ok (a, back)
read_before back read a h = ap (before_others back) h

pub refused_before : {A : Type 0} (front back : List ℕ) (n left : ℕ) (read : Result A ℕ) → left ≤ length front → length front + length back ≡ n → read ≡ Err left
    → before_others back read ≡ Err (n - (length front - left))
refused_before front back n left read within sizes h = ap (before_others back) h ∙ ap (λ (m : ℕ). Err m) (omega (arith, within, sizes))

-- ---- one after the other

-- each is so after the one before it
abbrev pub AreAfter : {A S : Type 0} → (S → A → Type 0) → (A → S) → S → List A → Type 0
AreAfter Is next s [] = Unit {0}
AreAfter Is next s (x ∷ xs) = Is s x × AreAfter Is next (next x) xs

module _ {A S : Type 0} {Is : S → A → Type 0} {write : A → List ℕ} {read : S → List ℕ → Reading A} (next : A → S) (field : (s : S) → IsField (Is s) write (read s)) where
  items_take : (s : S) (n : ℕ) (bytes : List ℕ) (xs : List A) (rest : List ℕ) → IsBytes bytes → items_after read next s n bytes ≡ Ok (xs, rest)
      → ((length xs ≡ n) × AreAfter Is next s xs) × Takes bytes (flat_map write xs) rest
  unfolding items_after
  items_take s zero bytes xs rest fits h =
      let made : List A × List ℕ = ([], bytes) in
      subst (λ (x : List A × List ℕ). ((length x.0 ≡ 0) × AreAfter Is next s x.0) × Takes bytes (flat_map write x.0) x.1) (ok_is made (xs, rest) h)
      ((refl, tt), record { parts = refl; rest_fits = fits })
  items_take s (suc n) bytes xs rest fits h =
      let a = bind_ok (read s bytes) (λ one. items_after read next (next one.0) n one.1 >>= λ others. Ok (one.0 ∷ others.0, others.1)) (xs, rest) h in
      let b = bind_ok (items_after read next (next a.0.0) n a.0.1) (λ others. Ok (a.0.0 ∷ others.0, others.1)) (xs, rest) a.2 in
      let one = (field s).takes bytes a.0.0 a.0.1 fits a.1 in
      let others = items_take (next a.0.0) n a.0.1 b.0.0 b.0.1 one.1.rest_fits b.1 in
      let both = Takes-then bytes (write a.0.0) a.0.1 (flat_map write b.0.0) b.0.1 one.1 others.1 in
      let made : List A × List ℕ = (a.0.0 ∷ b.0.0, b.0.1) in
      subst (λ (x : List A × List ℕ). ((length x.0 ≡ suc n) × AreAfter Is next s x.0) × Takes bytes (flat_map write x.0) x.1) {x = made} (ok_is made (xs, rest) b.2)
      ((ap suc others.0.0, (one.0, others.0.1)), rw flat_map-cons both)

  items_again : (s : S) (n : ℕ) (xs : List A) (rest : List ℕ) → (length xs ≡ n) × AreAfter Is next s xs → items_after read next s n (flat_map write xs ++ rest) ≡ Ok (xs, rest)
  unfolding items_after
  items_again s zero [] rest h = refl
  items_again s zero (x ∷ xs) rest h = absurd (omega (arith, h.0))
  items_again s (suc n) [] rest h = absurd (omega (arith, h.0))
  items_again s (suc n) (x ∷ xs) rest h =
      let regrouped : flat_map write (x ∷ xs) ++ rest ≡ write x ++ (flat_map write xs ++ rest) =
      ap (λ (t : List ℕ). t ++ rest) (flat_map-cons write x xs) ∙ append_assoc (write x) (flat_map write xs) rest in
      ap (items_after read next s (suc n)) regrouped
      ∙ rw ((field s).again x (flat_map write xs ++ rest) h.1.0, items_again (next x) n xs rest (omega (arith, h.0), h.1.1)) refl

  items_made : (s : S) (n : ℕ) → IsMade (λ (xs : List A). (length xs ≡ n) × AreAfter Is next s xs) (λ xs. xs) (λ xs. flat_map write xs) (items_after read next s n)
  items_made s n = record {
    takes = λ bytes xs rest fits h. let t = items_take s n bytes xs rest fits h in (xs, refl, t.0, t.1);
    again = λ xs rest h. items_again s n xs rest h;
  }

  counted_made : (least most : ℕ) (s : S)
      → IsMade (λ (p : ℕ × List A). ((p.0 < 2 ^ 32) × IsBetween least most p.0) × ((length p.1 ≡ p.0) × AreAfter Is next s p.1))
      (λ p. p.1) (λ p. number p.0 ++ flat_map write p.1) (counted_at least most read next s)
  unfolding counted_at
  counted_made least most s = first (count_field least most) (λ n. items_made s n)

  -- their number and each, where so many can be counted in four bytes
  pub counted_field : (least most : ℕ) (s : S) → ((n : ℕ) → IsBetween least most n → n < 2 ^ 32)
      → IsField (λ xs. IsBetween least most (length xs) × AreAfter Is next s xs) (λ xs. number (length xs) ++ flat_map write xs) (counted_at least most read next s)
  counted_field least most s few =
      whole (λ xs. (length xs, xs)) (λ xs. IsBetween least most (length xs) × AreAfter Is next s xs) (λ xs. number (length xs) ++ flat_map write xs) (λ xs. refl)
      (λ xs h. ((few (length xs) h.0, h.0), (refl, h.1)))
      (λ p h. (subst (IsBetween least most) (sym h.1.0) h.0.1, h.1.1)) (λ p h. ap (λ (n : ℕ). number n ++ flat_map write p.1) h.1.0) (counted_made least most s)

-- ---- as a loop reads them

-- what was read before, and what is still read
abbrev pub with_front : {A : Type 0} → List A → Reading (List A) → Reading (List A)
with_front front read = read >>= λ x. Ok (front ++ x.0, x.1)

regroup : {A : Type 0} (front : List A) (r : A) (read : Reading (List A)) → with_front front (read >>= λ x. Ok (r ∷ x.0, x.1)) ≡ with_front (front ++ r ∷ []) read
regroup {A} front r (Ok x) = ap (λ (rs : List A). Ok (rs, x.1)) (simp append_assoc)
regroup front r (Err left) = refl

module _ {A S : Type 0} (read : S → List ℕ → Reading A) (next : A → S) (s : S) (front : List A) (count i : ℕ) (bytes : List ℕ) (total : Reading (List A)) where
  abbrev still : Reading (List A)
  still = with_front front (items_after read next s (count - i) bytes)

  pub goes_on : (r : A) (after : List ℕ) → i < count → read s bytes ≡ Ok (r, after) → still ≡ total
      → with_front (front ++ r ∷ []) (items_after read next (next r) (count - (i + 1)) after) ≡ total
  unfolding items_after
  goes_on r after lt is so_far =
      let k : count - i ≡ suc (count - (i + 1)) = omega arith in
      let one : still ≡ with_front (front ++ r ∷ []) (items_after read next (next r) (count - (i + 1)) after) =
      rw (k, is) (regroup front r (items_after read next (next r) (count - (i + 1)) after)) in
      sym one ∙ so_far

  pub stops_at : (stop : Stop) → i < count → Fails stop (read s bytes) → still ≡ total → Fails stop total
  unfolding items_after
  stops_at Stop.NoMemory lt is so_far = tt
  stops_at (Stop.Bad left) lt is so_far =
      let k : count - i ≡ suc (count - (i + 1)) = omega arith in
      let one : still ≡ Err left = rw (k, is) refl in
      sym so_far ∙ one

  pub is_done : count ≤ i → still ≡ total → total ≡ Ok (front, bytes)
  unfolding items_after
  is_done le so_far =
      let k : count - i ≡ 0 = omega arith in
      let one : still ≡ Ok (front, bytes) = rw k (ap (λ (rs : List A). Ok (rs, bytes)) (append-nil front)) in
      sym so_far ∙ one
