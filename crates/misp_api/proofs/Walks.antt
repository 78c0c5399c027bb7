-- Where a walk goes by a name that takes a whole segment.
use Rattle.std.proofs.Common.{◌≡◌, ◌∙◌, ℕ, zero, suc, ◌-◌, ◌==◌, ◌&&◌, Bool, true, false, cond, List, [], ◌∷◌, length, drop, Option, None, refl, sym, ap, arith, inl, inr}
use Rattle.std.specs.Prelude.{ltb, nat_eq}
use Rattle.std.proofs.lemmas.Bool.{eqb-true, cases_Bool, false≢true}
use Rattle.std.proofs.lemmas.Bool.Decides.{nat_tests}
use Rattle.std.specs.Cmp.Lexicographic.{pointwise}
use Rattle.matchit.specs.Rows.{RowsOf}
use Rattle.matchit.specs.Seek.{own, segment, has_slash, cuts, longest_suffix, with_suffix, param_step, seek}
use Rattle.misp_api.proofs.Tokens.{Stop}
use Rattle.misp_api.proofs.TokenRows.{goes_on, longest_slash, longest_none}

-- ---- the segment

-- the path from its first slash on, and how many bytes stand before it
abbrev pub from_slash : List ℕ → List ℕ
from_slash [] = []
from_slash (b ∷ p) = cond (b == 47) (b ∷ p) (from_slash p)

cuts_at_slash : (b : ℕ) (p : List ℕ) → has_slash p ≡ true → drop (length (segment p)) (b ∷ segment p) ≡ 47 ∷ []
cuts_at_slash b [] h = absurd (false≢true h)
cuts_at_slash b (c ∷ p) h =
    elim (cases_Bool (c == 47)) [
      | inl hit ↦ rw hit (let same = eqb-true c 47 hit in rw same refl)
      | inr miss ↦ rw miss (cuts_at_slash c p (rw miss at h))
    ]

cuts_at_end : (b : ℕ) (p : List ℕ) → has_slash (b ∷ p) ≡ false → (e : ℕ) × (drop (length (segment p)) (b ∷ segment p) ≡ e ∷ []) × ((e == 47) ≡ false)
cuts_at_end b [] h =
    elim (cases_Bool (b == 47)) [
      | inl hit ↦ absurd (false≢true (sym (rw hit at h)))
      | inr miss ↦ (b, refl, miss)
    ]
cuts_at_end b (c ∷ p) h =
    elim (cases_Bool (b == 47)) [
      | inl hit ↦ absurd (false≢true (sym (rw hit at h)))
      | inr miss ↦ let later = rw miss at h in elim (cases_Bool (c == 47)) [
        | inl hit ↦ absurd (false≢true (sym (rw hit at later)))
        | inr other ↦ rw other (cuts_at_end c p later)
      ]
    ]

abbrev pub front : List ℕ → ℕ
front [] = 0
front (b ∷ p) = cond (b == 47) 0 (suc (front p))

segment_front : (p : List ℕ) → has_slash p ≡ true → length (segment p) ≡ suc (front p)
segment_front [] h = absurd (false≢true h)
segment_front (b ∷ p) h =
    elim (cases_Bool (b == 47)) [
      | inl hit ↦ rw hit refl
      | inr miss ↦ rw miss (ap suc (segment_front p (rw miss at h)))
    ]

drop_front : (p : List ℕ) → has_slash p ≡ true → drop (front p) p ≡ from_slash p
drop_front [] h = absurd (false≢true h)
drop_front (b ∷ p) h =
    elim (cases_Bool (b == 47)) [
      | inl hit ↦ rw hit refl
      | inr miss ↦ rw miss (drop_front p (rw miss at h))
    ]

one_less : (n : ℕ) → suc n - 1 ≡ n
one_less n = omega arith

cut_slash : (b : ℕ) (p : List ℕ) → has_slash p ≡ true → cuts (b ∷ segment p) (47 ∷ []) ≡ true
cut_slash b p h =
    let last = cuts_at_slash b p h in
    let long : length (segment p) ≡ suc (front p) = segment_front p h in
    let test : ltb 1 (length (b ∷ segment p)) ≡ true = rw long (grind (arith, nat_tests)) in
    rw (test, one_less (length (segment p)), last) refl

flip : (e : ℕ) → (e == 47) ≡ false → (47 == e) ≡ false
flip e h = grind (arith, nat_tests)

other_end : (e : ℕ) → (e == 47) ≡ false → pointwise nat_eq (47 ∷ []) (e ∷ []) ≡ false
other_end e h = rw (flip e h) refl

and_no : (a b : Bool) → b ≡ false → (a && b) ≡ false
and_no true b h = h
and_no false b h = refl

cut_end : (b : ℕ) (p : List ℕ) → has_slash (b ∷ p) ≡ false → cuts (b ∷ segment p) (47 ∷ []) ≡ false
cut_end b p h =
    let last = cuts_at_end b p h in
    let ends : pointwise nat_eq (47 ∷ []) (drop (length (b ∷ segment p) - 1) (b ∷ segment p)) ≡ false = rw (one_less (length (segment p)), last.1) (other_end last.0 last.2) in
    and_no (ltb 1 (length (b ∷ segment p))) _ ends

pub not_slash : (b : ℕ) (p : List ℕ) → has_slash (b ∷ p) ≡ false → (b == 47) ≡ false
not_slash b p h =
    elim (cases_Bool (b == 47)) [
      | inl hit ↦ absurd (false≢true (sym (rw hit at h)))
      | inr miss ↦ miss
    ]

module _ {K : Type 0} where
  param_by : (rs : RowsOf K) (path s : List ℕ) → longest_suffix (segment path) rs ≡ s
      → param_step rs path ≡ cond (ltb 0 (length s)) (length (segment path) - length s, with_suffix s rs) (cond (has_slash path) (0, []) (length path, rs))
  unfolding param_step
  param_by rs path s e = rw e refl

  param_nil : (p : List ℕ) → (param_step {K = K} [] p).1 ≡ []
  unfolding param_step
  param_nil p =
      elim (has_slash p) as (λ v. (cond {A = ℕ × RowsOf K} v (0, []) (length p, [])).1 ≡ []) [
        | true ↦ refl
        | false ↦ refl
      ]

  seek_nil : (n : ℕ) (p : List ℕ) → seek {K = K} n [] p ≡ None
  unfolding seek
  seek_nil n [] = refl
  seek_nil (suc n) (b ∷ p) = seek_nil n p
  seek_nil zero (b ∷ p) = simp (seek_nil 0 p, param_nil (b ∷ p), seek_nil (((param_step {K = K} [] (b ∷ p)).0) - 1) p)

  seek_skip : (n : ℕ) (rs : RowsOf K) (p : List ℕ) → seek n rs p ≡ seek 0 rs (drop n p)
  unfolding seek
  seek_skip zero rs p = refl
  seek_skip (suc n) rs [] = refl
  seek_skip (suc n) rs (b ∷ p) = seek_skip n rs p

  seek_all : (rs : RowsOf K) (p : List ℕ) → seek (length p) rs p ≡ own rs
  unfolding seek
  seek_all rs [] = refl
  seek_all rs (b ∷ p) = seek_all rs p

  -- where a walk goes by a parameter
  abbrev pub branch : RowsOf K → ℕ → List ℕ → Option K
  branch rs b p = cond (has_slash (b ∷ p)) (cond (b == 47) None (cond (goes_on rs) (seek 0 (with_suffix (47 ∷ []) rs) (from_slash p)) None)) (own rs)

  pub by_param : (rs : RowsOf K) (b : ℕ) (p : List ℕ) → Stop rs → seek ((param_step rs (b ∷ p)).0 - 1) (param_step rs (b ∷ p)).1 p ≡ branch rs b p
  by_param rs b p h =
      elim (cases_Bool (b == 47)) [
        | inl hit ↦
            let s = longest_none (segment (b ∷ p)) rs h (rw hit refl) in
            let st : param_step rs (b ∷ p) ≡ (0, []) = param_by rs (b ∷ p) [] s ∙ rw hit refl in
            rw (st, hit) (seek_nil (0 - 1) p)
        | inr miss ↦ let seg : segment (b ∷ p) ≡ b ∷ segment p = rw miss refl in elim (cases_Bool (has_slash p)) [
          | inl slash ↦
              let s = rw (← seg) at (longest_slash (b ∷ segment p) rs h (cut_slash b p slash)) in
              let has : has_slash (b ∷ p) ≡ true = rw (miss, slash) refl in
              elim (cases_Bool (goes_on rs)) [
                | inl on ↦
                    let st = param_by rs (b ∷ p) (47 ∷ []) (rw on at s) in
                    let n : length (segment (b ∷ p)) - 1 - 1 ≡ front p = rw (seg, segment_front p slash) (omega arith) in
                    rw (st, n, has, miss, on) (seek_skip (front p) (with_suffix (47 ∷ []) rs) p ∙ ap (seek 0 (with_suffix (47 ∷ []) rs)) (drop_front p slash))
                | inr off ↦
                    let st : param_step rs (b ∷ p) ≡ (0, []) = param_by rs (b ∷ p) [] (rw off at s) ∙ rw has refl in
                    rw (st, has, miss, off) (seek_nil (0 - 1) p)
              ]
          | inr none ↦
              let has : has_slash (b ∷ p) ≡ false = rw (miss, none) refl in
              let s = rw (← seg) at (longest_none (b ∷ segment p) rs h (cut_end b p has)) in
              let st : param_step rs (b ∷ p) ≡ (length (b ∷ p), rs) = param_by rs (b ∷ p) [] s ∙ rw has refl in
              rw (st, has, one_less (length p)) (seek_all rs p)
        ]
      ]
