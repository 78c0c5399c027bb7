-- Rows that a walk goes on with.
use Rattle.std.proofs.Common.{◌≡◌, ℕ, ◌==◌, Bool, true, false, cond, List, [], ◌∷◌, Some, IsSome, refl, arith, inl, inr}
use Rattle.std.proofs.lemmas.Bool.{eqb-true, cases_Bool, and_parts, false≢true}
use Rattle.std.proofs.lemmas.Bool.Decides.{nat_tests}
use Rattle.matchit.specs.Rows.{RowsOf}
use Rattle.matchit.specs.Seek.{own, step, cuts, longest_from, longest_suffix, with_suffix}
use Rattle.misp_api.proofs.Tokens.{InRows, AreWhole, Stop}

module _ {K : Type 0} where
  -- ---- membership

  pub own_in : (rs : RowsOf K) (k : K) → own rs ≡ Some k → InRows [] k rs
  own_in [] k e = absurd (cc)
  own_in (([], l) ∷ rest) k e = let same : l ≡ k = cc in inl (refl, same)
  own_in ((x ∷ u, l) ∷ rest) k e = inr (own_in rest k e)

  pub own_some : (rs : RowsOf K) (k : K) → InRows [] k rs → IsSome (own rs)
  own_some [] k h = absurd h
  own_some (([], l) ∷ rest) k h = refl
  own_some ((x ∷ u, l) ∷ rest) k (inl h) = absurd (let e = h.0 in cc)
  own_some ((x ∷ u, l) ∷ rest) k (inr h) = own_some rest k h

  pub step_in : (b : ℕ) (rs : RowsOf K) (t : List ℕ) (k : K) → InRows t k (step b rs) → InRows (b ∷ t) k rs
  step_in b [] t k h = absurd h
  step_in b (([], l) ∷ rest) t k h = inr (step_in b rest t k h)
  step_in b ((x ∷ u, l) ∷ rest) t k h =
      elim (cases_Bool (x == b)) [
        | inl hit ↦ elim (rw hit at h) [
          | inl here ↦ let same = eqb-true x b hit in let tail : u ≡ t = here.0 in let all : x ∷ u ≡ b ∷ t = cc in inl (all, here.1)
          | inr more ↦ inr (step_in b rest t k more)
        ]
        | inr miss ↦ inr (step_in b rest t k (rw miss at h))
      ]

  pub in_step : (b : ℕ) (rs : RowsOf K) (t : List ℕ) (k : K) → InRows (b ∷ t) k rs → InRows t k (step b rs)
  in_step b [] t k h = absurd h
  in_step b (([], l) ∷ rest) t k (inl h) = absurd (let e = h.0 in cc)
  in_step b (([], l) ∷ rest) t k (inr h) = in_step b rest t k h
  in_step b ((x ∷ u, l) ∷ rest) t k (inl h) =
      let e = h.0 in
      let head : x ≡ b = cc in
      let tail : u ≡ t = cc in
      let test : (x == b) ≡ true = rw head (grind (arith, nat_tests)) in
      rw test (inl (tail, h.1))
  in_step b ((x ∷ u, l) ∷ rest) t k (inr h) =
      elim (cases_Bool (x == b)) [
        | inl hit ↦ rw hit (inr (in_step b rest t k h))
        | inr miss ↦ rw miss (in_step b rest t k h)
      ]

  -- ---- the shapes of rows

  pub whole_step : (b : ℕ) (rs : RowsOf K) → AreWhole rs → AreWhole (step b rs)
  whole_step b [] h = tt
  whole_step b (([], l) ∷ rest) h = whole_step b rest h.1
  whole_step b ((x ∷ u, l) ∷ rest) h =
      elim (cases_Bool (x == b)) [
        | inl hit ↦ rw hit ((and_parts _ _ h.0).1, whole_step b rest h.1)
        | inr miss ↦ rw miss (whole_step b rest h.1)
      ]

  pub stop_step : (rs : RowsOf K) → AreWhole rs → Stop (step 256 rs)
  stop_step [] h = tt
  stop_step (([], l) ∷ rest) h = stop_step rest h.1
  stop_step ((x ∷ u, l) ∷ rest) h =
      elim (cases_Bool (x == 256)) [
        | inl hit ↦ rw hit ((and_parts _ _ (rw hit at h.0)).0, stop_step rest h.1)
        | inr miss ↦ rw miss (stop_step rest h.1)
      ]

  pub no_catch_all : (rs : RowsOf K) → AreWhole rs → step 257 rs ≡ []
  no_catch_all [] h = refl
  no_catch_all (([], l) ∷ rest) h = no_catch_all rest h.1
  no_catch_all ((x ∷ u, l) ∷ rest) h =
      elim (cases_Bool (x == 257)) [
        | inl hit ↦ let same = eqb-true x 257 hit in absurd (false≢true (rw same at h.0))
        | inr miss ↦ rw miss (no_catch_all rest h.1)
      ]

  -- ---- the longest suffix

  -- some row goes on with a slash
  abbrev pub goes_on : RowsOf K → Bool
  goes_on [] = false
  goes_on (([], l) ∷ rest) = goes_on rest
  goes_on ((x ∷ u, l) ∷ rest) = true

  stays : (seg : List ℕ) (rs : RowsOf K) → Stop rs → longest_from seg (47 ∷ []) rs ≡ 47 ∷ []
  stays seg [] h = refl
  stays seg (([], l) ∷ rest) h = stays seg rest h.1
  stays seg ((x ∷ u, l) ∷ rest) h = rw (eqb-true x 47 h.0) (stays seg rest h.1)

  -- the segment ends with a slash, after at least one byte
  pub longest_slash : (seg : List ℕ) (rs : RowsOf K) → Stop rs → cuts seg (47 ∷ []) ≡ true → longest_suffix seg rs ≡ cond (goes_on rs) (47 ∷ []) []
  longest_slash seg [] h cut = refl
  longest_slash seg (([], l) ∷ rest) h cut = longest_slash seg rest h.1 cut
  longest_slash seg ((x ∷ u, l) ∷ rest) h cut = rw (eqb-true x 47 h.0, cut) (stays seg rest h.1)

  pub longest_none : (seg : List ℕ) (rs : RowsOf K) → Stop rs → cuts seg (47 ∷ []) ≡ false → longest_suffix seg rs ≡ []
  longest_none seg [] h cut = refl
  longest_none seg (([], l) ∷ rest) h cut = longest_none seg rest h.1 cut
  longest_none seg ((x ∷ u, l) ∷ rest) h cut = rw (eqb-true x 47 h.0, cut) (longest_none seg rest h.1 cut)

  -- ---- the rows with a slash

  pub with_in : (rs : RowsOf K) → Stop rs → (t : List ℕ) (k : K) → InRows t k (with_suffix (47 ∷ []) rs) → InRows t k rs
  with_in [] h t k i = absurd i
  with_in (([], l) ∷ rest) h t k i = inr (with_in rest h.1 t k i)
  with_in ((x ∷ u, l) ∷ rest) h t k i =
      let same = eqb-true x 47 h.0 in
      elim (rw same at i) [
        | inl here ↦ inl (rw same here.0, here.1)
        | inr more ↦ inr (with_in rest h.1 t k more)
      ]

  pub in_with : (rs : RowsOf K) → Stop rs → (t : List ℕ) (k : K) → InRows (47 ∷ t) k rs → InRows (47 ∷ t) k (with_suffix (47 ∷ []) rs) × (goes_on rs ≡ true)
  in_with [] h t k i = absurd i
  in_with (([], l) ∷ rest) h t k (inl i) = absurd (let e = i.0 in cc)
  in_with (([], l) ∷ rest) h t k (inr i) = in_with rest h.1 t k i
  in_with ((x ∷ u, l) ∷ rest) h t k (inl i) =
      let same = eqb-true x 47 h.0 in
      (rw same (inl (rw same at i.0, i.1)), refl)
  in_with ((x ∷ u, l) ∷ rest) h t k (inr i) =
      let same = eqb-true x 47 h.0 in
      (rw same (inr (in_with rest h.1 t k i).0), refl)

  pub whole_with : (rs : RowsOf K) → Stop rs → AreWhole rs → AreWhole (with_suffix (47 ∷ []) rs)
  whole_with [] h w = tt
  whole_with (([], l) ∷ rest) h w = whole_with rest h.1 w.1
  whole_with ((x ∷ u, l) ∷ rest) h w =
      let same = eqb-true x 47 h.0 in
      rw same (rw same at w.0, whole_with rest h.1 w.1)
