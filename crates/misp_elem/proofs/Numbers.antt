-- Numbers, texts and flags are read as they are written.
use Rattle.std.proofs.Common.{◌≡◌, ℕ, ◌<◌, ◌≤◌, ◌^◌, Bool, true, false, ◌&&◌, cond, eqb, ltb, leb, List, [], ◌∷◌, ◌++◌, length, take, drop, Option, Some, None, Ok, Err, refl, sym, ap, subst, ◌∙◌, arith, inl, inr, w32, w64, eqb-true}
use Rattle.std.proofs.Common.{ltb-false, le-ltb, leb-true, le-leb, take_at, drop_at, take-append-drop, length-append, length-take}
use Rattle.std.specs.Int.{Width, byte_len, from_be_bytes}
use Rattle.std.proofs.lemmas.Bool.{and_parts, and_from}
use Rattle.misp_ids.specs.declared.stamp.TheConstants.{LAST_SECOND}
use Rattle.misp_dates.specs.declared.moment.TheConstants.{LAST_MICROSECOND}
use Rattle.misp_lists.proofs.Bytes.{IsBytes, IsBytes-take, IsBytes-drop, IsWide, wide32, wide64}
use Rattle.misp_elem.specs.Prelude.{◌>>=◌, IsBetween, IsMoment, IsOptionalMoment, IsOptionalUid, IsStamp, IsText, Reading, Uid, between_at, byte_at, is_text, stamp_at, to_be_bytes}
use Rattle.misp_elem.specs.Spelling.{uid, text, flag, optional_uid, optional_moment, stamp}
use Rattle.misp_elem.specs.Reading.{number_at, text_of, text_at, flag_of, flag_at, optional_of, optional_at, moment_at, optional_moment_of, optional_moment_at}
use Rattle.misp_elem.proofs.Exact.{bind_ok, guard_ok, keep_ok, chosen, ok_is, no_error, Takes, Takes-then, IsField, last, cased, nothing, tested, under}
use Rattle.misp_elem.proofs.Keys.{byte_field, uid_field}

-- ---- numbers

number_takes : (w : Width) (limit : ℕ) (wide : IsWide w limit) (bytes : List ℕ) (n : ℕ) (rest : List ℕ) → IsBytes bytes → number_at w bytes ≡ Ok (n, rest) → (n < limit) × Takes bytes (to_be_bytes w n) rest
number_takes w limit wide bytes n rest fits e =
    let size = byte_len w in
    let made : ℕ × List ℕ = (from_be_bytes w (take size bytes), drop size bytes) in
    let g = guard_ok (ltb (length bytes) size) (length bytes) (Ok made) (n, rest) e in
    let long : size ≤ length bytes = ltb-false _ _ g.0 in
    let front = IsBytes-take size bytes fits in
    let spelled : to_be_bytes w made.0 ≡ take size bytes = wide.back (take size bytes) (omega (arith, length-take size bytes)) front in
    let taken : Takes bytes (to_be_bytes w made.0) made.1 = record { parts = sym (take-append-drop size bytes) ∙ ap (λ (t : List ℕ). t ++ drop size bytes) (sym spelled); rest_fits = IsBytes-drop size bytes fits } in
    subst (λ (x : ℕ × List ℕ). (x.0 < limit) × Takes bytes (to_be_bytes w x.0) x.1) (ok_is made (n, rest) g.1) (wide.below (take size bytes) front, taken)

number_again : (w : Width) (limit : ℕ) (wide : IsWide w limit) (n : ℕ) (rest : List ℕ) → n < limit → number_at w (to_be_bytes w n ++ rest) ≡ Ok (n, rest)
number_again w limit wide n rest lt =
    let len = wide.len n in
    let long : ltb (length (to_be_bytes w n ++ rest)) (byte_len w) ≡ false = le-ltb _ _ (omega (arith, length-append (to_be_bytes w n) rest)) in
    rw (long, take_at (to_be_bytes w n) rest (byte_len w) len, drop_at (to_be_bytes w n) rest (byte_len w) len, wide.again n lt) refl

pub number_field : (w : Width) (limit : ℕ) → IsWide w limit → IsField (λ n. n < limit) (λ n. to_be_bytes w n) (number_at w)
number_field w limit wide = record { takes = number_takes w limit wide; again = number_again w limit wide }

pub between_field : (least most : ℕ) → most < 256 → IsField (IsBetween least most) (λ b. b ∷ []) (between_at least most)
unfolding between_at
between_field least most small =
    under (IsBetween least most) (λ b h. h.1) (λ b h. (omega (arith, leb-true b most (and_parts _ _ h).1), h)) (tested (λ b. leb least b && leb b most) byte_field)

pub stamp_field : IsField IsStamp stamp stamp_at
unfolding stamp stamp_at
stamp_field =
    under IsStamp (λ s h. leb-true s LAST_SECOND h.1) (λ s h. (omega arith, le-leb s LAST_SECOND h)) (tested (λ s. leb s LAST_SECOND) (number_field w64 (2 ^ 64) wide64))

pub moment_field : (least : ℕ) → IsField (IsMoment least) stamp (moment_at least)
unfolding stamp moment_at
moment_field least =
    under (IsMoment least)
    (λ m h. let q = and_parts (leb least m) (leb m LAST_MICROSECOND) h.1 in (leb-true least m q.0, leb-true m LAST_MICROSECOND q.1))
    (λ m h. (omega (arith, h.1), and_from _ _ (le-leb least m h.0) (le-leb m LAST_MICROSECOND h.1)))
    (tested (λ m. leb least m && leb m LAST_MICROSECOND) (number_field w64 (2 ^ 64) wide64))

-- ---- text

text_takes : (least most : ℕ) (bytes t rest : List ℕ) → IsBytes bytes → text_at least most bytes ≡ Ok (t, rest) → IsText least most t × Takes bytes (text t) rest
unfolding text_at text
text_takes least most bytes t rest fits e =
    let b = bind_ok (number_at w32 bytes) (λ len. text_of (is_text least most) bytes len.0 len.1) (t, rest) e in
    let len = b.0.0 in
    let after = b.0.1 in
    let n = number_takes w32 (2 ^ 32) wide32 bytes len after fits b.1 in
    let made : List ℕ × List ℕ = (take len after, drop len after) in
    let g = guard_ok (ltb (length after) len) (length bytes) (cond (is_text least most (take len after)) (Ok made) (Err (length bytes))) (t, rest) b.2 in
    let k = keep_ok (is_text least most (take len after)) (length bytes) made (t, rest) g.1 in
    let long : len ≤ length after = ltb-false _ _ g.0 in
    let size : length (take len after) ≡ len = omega (arith, length-take len after) in
    let second : Takes after made.0 made.1 = record { parts = sym (take-append-drop len after); rest_fits = IsBytes-drop len after n.1.rest_fits } in
    let both = Takes-then bytes (to_be_bytes w32 len) after made.0 made.1 n.1 second in
    let spelled : Takes bytes (to_be_bytes w32 (length made.0) ++ made.0) made.1 = subst (λ (m : ℕ). Takes bytes (to_be_bytes w32 m ++ made.0) made.1) (sym size) both in
    subst (λ (x : List ℕ × List ℕ). IsText least most x.0 × Takes bytes (to_be_bytes w32 (length x.0) ++ x.0) x.1) k.1 (k.0, spelled)

-- a text is as long as it may be at most
pub length-text_le : (least most : ℕ) (t : List ℕ) → IsText least most t → length t ≤ most
length-text_le least most t h = leb-true _ _ (and_parts _ _ (and_parts _ _ h).0).1

text_again : (least most : ℕ) → most < 2 ^ 32 → (t rest : List ℕ) → IsText least most t → text_at least most (text t ++ rest) ≡ Ok (t, rest)
unfolding text_at text
text_again least most small t rest h =
    let short : length t < 2 ^ 32 = omega (arith, length-text_le least most t h) in
    let long : ltb (length (t ++ rest)) (length t) ≡ false = le-ltb _ _ (omega (arith, length-append t rest)) in
    let read : number_at w32 ((to_be_bytes w32 (length t) ++ t) ++ rest) ≡ Ok (length t, t ++ rest) = number_again w32 (2 ^ 32) wide32 (length t) (t ++ rest) short in
    rw (read, long, take_at t rest (length t) refl, h, drop_at t rest (length t) refl) refl

pub text_field : (least most : ℕ) → most < 2 ^ 32 → IsField (IsText least most) text (text_at least most)
text_field least most small = record { takes = text_takes least most; again = text_again least most small }

-- ---- what a byte tells

-- a field whose first byte tells its form
pub tagged : {B : Type 0} {Is : B → Type 0} {write : B → List ℕ} (of : List ℕ → ℕ → List ℕ → Reading B)
    → ((bytes : List ℕ) (kind : ℕ) (after : List ℕ) (b : B) (rest : List ℕ) → IsBytes after → of bytes kind after ≡ Ok (b, rest) → Is b × Takes (kind ∷ after) (write b) rest)
    → ((b : B) (rest : List ℕ) → Is b → (byte_at (write b ++ rest) >>= λ k. of (write b ++ rest) k.0 k.1) ≡ Ok (b, rest))
    → IsField Is write (λ bytes. byte_at bytes >>= λ k. of bytes k.0 k.1)
tagged {B} {Is} {write} of each again = record {
  takes = λ bytes b rest fits e.
      let s = bind_ok (byte_at bytes) (λ k. of bytes k.0 k.1) (b, rest) e in
      let t = byte_field.takes bytes s.0.0 s.0.1 fits s.1 in
      let found = each bytes s.0.0 s.0.1 b rest t.1.rest_fits s.2 in
      (found.0, record { parts = t.1.parts ∙ found.1.parts; rest_fits = found.1.rest_fits });
  again = again;
}

flag_each : (bytes : List ℕ) (kind : ℕ) (after : List ℕ) (f : Bool) (rest : List ℕ) → IsBytes after → flag_of bytes kind after ≡ Ok (f, rest) → Unit {0} × Takes (kind ∷ after) (flag f) rest
flag_each bytes kind after f rest fits e =
    elim (chosen (eqb kind 0) (Ok (false, after)) _ _ e) [
      | inl found ↦ cased (λ _. Unit {0}) flag 0 kind (nothing false) (eqb-true _ _ found.0) (λ a h. tt) (λ a. refl) after f rest fits found.1
      | inr other ↦ elim (chosen (eqb kind 1) (Ok (true, after)) _ _ other.1) [
        | inl found ↦ cased (λ _. Unit {0}) flag 1 kind (nothing true) (eqb-true _ _ found.0) (λ a h. tt) (λ a. refl) after f rest fits found.1
        | inr other ↦ absurd (no_error (length bytes) (f, rest) other.1)
      ]
    ]

flag_back : (f : Bool) (rest : List ℕ) → Unit {0} → (byte_at (flag f ++ rest) >>= λ k. flag_of (flag f ++ rest) k.0 k.1) ≡ Ok (f, rest)
flag_back false rest h = refl
flag_back true rest h = refl

pub flag_field : IsField (λ (f : Bool). Unit {0}) flag flag_at
unfolding flag_at
flag_field = tagged flag_of flag_each flag_back

-- ---- an identifier or a moment after a flag

optional_takes : (bytes : List ℕ) (o : Option Uid) (rest : List ℕ) → IsBytes bytes → optional_at bytes ≡ Ok (o, rest) → IsOptionalUid o × Takes bytes (optional_uid o) rest
unfolding optional_at
optional_takes bytes o rest fits e =
    let s = bind_ok (flag_at bytes) (λ f. optional_of f.0 f.1) (o, rest) e in
    let t = flag_field.takes bytes s.0.0 s.0.1 fits s.1 in
    behind s.0.0 s.0.1 t.1 s.2 where
      behind : (f : Bool) (after : List ℕ) → Takes bytes (flag f) after → optional_of f after ≡ Ok (o, rest) → IsOptionalUid o × Takes bytes (optional_uid o) rest
      behind false after t e =
          let made : Option Uid × List ℕ = (None, after) in
          subst (λ (x : Option Uid × List ℕ). IsOptionalUid x.0 × Takes bytes (optional_uid x.0) x.1) (ok_is made (o, rest) e) (tt, t)
      behind true after t e =
          let u = (last (λ (u : Uid). Some u) uid_field).takes after o rest t.rest_fits e in
          subst (λ (x : Option Uid). IsOptionalUid x × Takes bytes (optional_uid x) rest) u.1 (u.2, Takes-then bytes (1 ∷ []) after (uid u.0) rest t u.3)

optional_again : (o : Option Uid) (rest : List ℕ) → IsOptionalUid o → optional_at (optional_uid o ++ rest) ≡ Ok (o, rest)
unfolding optional_at
optional_again None rest h = ap (λ r. r >>= λ f. optional_of f.0 f.1) (flag_field.again false rest tt)
optional_again (Some u) rest h = ap (λ r. r >>= λ f. optional_of f.0 f.1) (flag_field.again true (uid u ++ rest) tt) ∙ (last (λ (u : Uid). Some u) uid_field).again u rest h

pub optional_field : IsField IsOptionalUid optional_uid optional_at
optional_field = record { takes = optional_takes; again = optional_again }

moment_takes : (least : ℕ) (bytes : List ℕ) (o : Option ℕ) (rest : List ℕ) → IsBytes bytes → optional_moment_at least bytes ≡ Ok (o, rest)
    → IsOptionalMoment least o × Takes bytes (optional_moment o) rest
unfolding optional_moment_at
moment_takes least bytes o rest fits e =
    let s = bind_ok (flag_at bytes) (λ f. optional_moment_of least f.0 f.1) (o, rest) e in
    let t = flag_field.takes bytes s.0.0 s.0.1 fits s.1 in
    behind s.0.0 s.0.1 t.1 s.2 where
      behind : (f : Bool) (after : List ℕ) → Takes bytes (flag f) after → optional_moment_of least f after ≡ Ok (o, rest) → IsOptionalMoment least o × Takes bytes (optional_moment o) rest
      behind false after t e =
          let made : Option ℕ × List ℕ = (None, after) in
          subst (λ (x : Option ℕ × List ℕ). IsOptionalMoment least x.0 × Takes bytes (optional_moment x.0) x.1) (ok_is made (o, rest) e) (tt, t)
      behind true after t e =
          let u = (last (λ (m : ℕ). Some m) (moment_field least)).takes after o rest t.rest_fits e in
          subst (λ (x : Option ℕ). IsOptionalMoment least x × Takes bytes (optional_moment x) rest) u.1 (u.2, Takes-then bytes (1 ∷ []) after (stamp u.0) rest t u.3)

moment_again : (least : ℕ) (o : Option ℕ) (rest : List ℕ) → IsOptionalMoment least o → optional_moment_at least (optional_moment o ++ rest) ≡ Ok (o, rest)
unfolding optional_moment_at
moment_again least None rest h = ap (λ r. r >>= λ f. optional_moment_of least f.0 f.1) (flag_field.again false rest tt)
moment_again least (Some m) rest h =
    ap (λ r. r >>= λ f. optional_moment_of least f.0 f.1) (flag_field.again true (stamp m ++ rest) tt) ∙ (last (λ (m : ℕ). Some m) (moment_field least)).again m rest h

pub optional_moment_field : (least : ℕ) → IsField (IsOptionalMoment least) optional_moment (optional_moment_at least)
optional_moment_field least = record { takes = moment_takes least; again = moment_again least }
