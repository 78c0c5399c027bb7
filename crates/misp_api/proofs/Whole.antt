-- A router finds a route whose tokens take the path, wherever there is one.
use Rattle.std.proofs.Common.{◌≡◌, ◌∙◌, ℕ, zero, suc, ◌-◌, ◌<◌, ◌≤◌, ◌==◌, Bool, true, false, not, List, [], ◌∷◌, length, Option, Some, None, IsSome, refl, sym, arith, inl, inr}
use Rattle.std.specs.Prelude.{◌⊎◌}
use Rattle.std.proofs.lemmas.Bool.{eqb-true, cases_Bool, and_parts, false≢true}
use Rattle.std.proofs.lemmas.Bool.Decides.{nat_tests}
use Rattle.matchit.specs.Rows.{RowsOf}
use Rattle.matchit.specs.Seek.{own, step, or_else, has_slash, with_suffix, param_step, seek}
use Rattle.misp_api.proofs.Tokens.{fits, stops, InRows, AreWhole, Stop}
use Rattle.misp_api.proofs.TokenRows.{own_in, own_some, step_in, in_step, whole_step, stop_step, no_catch_all, goes_on, with_in, in_with, whole_with}
use Rattle.misp_api.proofs.Walks.{from_slash, not_slash, branch, by_param}

-- ---- a path and a pattern

fits_slash : (t p : List ℕ) → stops t ≡ true → has_slash p ≡ true → fits true t p ≡ fits false t (from_slash p)
fits_slash t [] stop h = absurd (false≢true h)
fits_slash [] (c ∷ p) stop h =
    elim (cases_Bool (c == 47)) [
      | inl hit ↦ rw hit refl
      | inr miss ↦ rw miss (fits_slash [] p stop (rw miss at h))
    ]
fits_slash (x ∷ u) (c ∷ p) stop h =
    let first : x ≡ 47 = eqb-true x 47 stop in
    elim (cases_Bool (c == 47)) [
      | inl hit ↦ let same = eqb-true c 47 hit in rw (first, same) refl
      | inr miss ↦ rw miss (fits_slash (x ∷ u) p stop (rw miss at h))
    ]

fits_end : (p : List ℕ) → has_slash p ≡ false → fits true [] p ≡ true
fits_end [] h = refl
fits_end (c ∷ p) h =
    elim (cases_Bool (c == 47)) [
      | inl hit ↦ absurd (false≢true (sym (rw hit at h)))
      | inr miss ↦ rw miss (fits_end p (rw miss at h))
    ]

fits_no_end : (p : List ℕ) → has_slash p ≡ true → fits true [] p ≡ false
fits_no_end [] h = absurd (false≢true h)
fits_no_end (c ∷ p) h =
    elim (cases_Bool (c == 47)) [
      | inl hit ↦ rw hit refl
      | inr miss ↦ rw miss (fits_no_end p (rw miss at h))
    ]

fits_needs_slash : (x : ℕ) (u p : List ℕ) → has_slash p ≡ false → fits true (x ∷ u) p ≡ false
fits_needs_slash x u [] h = refl
fits_needs_slash x u (c ∷ p) h =
    elim (cases_Bool (c == 47)) [
      | inl hit ↦ absurd (false≢true (sym (rw hit at h)))
      | inr miss ↦ rw miss (fits_needs_slash x u p (rw miss at h))
    ]

shorter : (p : List ℕ) → length (from_slash p) ≤ length p
shorter [] = omega arith
shorter (c ∷ p) =
    elim (cases_Bool (c == 47)) [
      | inl hit ↦ rw hit (omega arith)
      | inr miss ↦ rw miss (omega (arith, shorter p))
    ]

fits_param : (t : List ℕ) (b : ℕ) (p : List ℕ) → (b == 47) ≡ false → fits true t p ≡ true → fits false (256 ∷ t) (b ∷ p) ≡ true
fits_param t b p miss f = rw miss f

fits_byte : (b : ℕ) (t p : List ℕ) → b < 256 → fits false t p ≡ true → fits false (b ∷ t) (b ∷ p) ≡ true
fits_byte b t p small f =
    let no_param : (b == 256) ≡ false = grind (arith, nat_tests) in
    let same : (b == b) ≡ true = grind (arith, nat_tests) in
    rw (no_param, same) f

-- each byte of the path is one
abbrev pub AreBytes : List ℕ → Type 0
AreBytes [] = Unit {0}
AreBytes (b ∷ p) = (b < 256) × AreBytes p

bytes_from : (p : List ℕ) → AreBytes p → AreBytes (from_slash p)
bytes_from [] h = tt
bytes_from (c ∷ p) h =
    elim (cases_Bool (c == 47)) [
      | inl hit ↦ rw hit h
      | inr miss ↦ rw miss (bytes_from p h.1)
    ]

module _ {K : Type 0} where
  stop_of : (rs : RowsOf K) → Stop rs → (t : List ℕ) (k : K) → InRows t k rs → stops t ≡ true
  stop_of [] h t k i = absurd i
  stop_of ((u, l) ∷ rest) h t k (inl i) = rw (← i.0) h.0
  stop_of ((u, l) ∷ rest) h t k (inr i) = stop_of rest h.1 t k i

  or_cases : (a b : Option K) (k : K) → or_else a b ≡ Some k → (a ≡ Some k) ⊎ (b ≡ Some k)
  or_cases None b k e = inr e
  or_cases (Some x) b k e = inl e

  or_left : (a b : Option K) → IsSome a → IsSome (or_else a b)
  or_left None b h = absurd (false≢true h)
  or_left (Some x) b h = refl

  or_right : (a b : Option K) → IsSome b → IsSome (or_else a b)
  or_right None b h = h
  or_right (Some x) b h = refl

  -- the route that is found takes the path
  pub sound : (n : ℕ) (rs : RowsOf K) (path : List ℕ) → length path ≤ n → AreBytes path → AreWhole rs → (k : K) → seek 0 rs path ≡ Some k
      → (t : List ℕ) × InRows t k rs × (fits false t path ≡ true)
  unfolding seek
  sound n rs [] small bytes w k e = ([], own_in rs k e, refl)
  sound zero rs (b ∷ p) small bytes w k e = absurd (omega arith)
  sound (suc n) rs (b ∷ p) small bytes w k e =
      let within : length p ≤ n = omega arith in
      let params = step 256 rs in
      let stop = stop_step rs w in
      elim (or_cases (seek 0 (step b rs) p) _ k e) [
        | inl literal ↦
            let (t, i, f) = sound n (step b rs) p within bytes.1 (whole_step b rs w) k literal in
            (b ∷ t, step_in b rs t k i, fits_byte b t p bytes.0 f)
        | inr later ↦ elim (or_cases (seek ((param_step params (b ∷ p)).0 - 1) (param_step params (b ∷ p)).1 p) _ k later) [
          | inl param ↦
              let found = sym (by_param params b p stop) ∙ param in
              elim (cases_Bool (has_slash (b ∷ p))) [
                | inl slash ↦ elim (cases_Bool (b == 47)) [
                  | inl hit ↦ absurd (let bad = rw (slash, hit) at found in cc)
                  | inr miss ↦ elim (cases_Bool (goes_on params)) [
                    | inl on ↦
                        let more = rw (slash, miss, on) at found in
                        let has : has_slash p ≡ true = rw miss at slash in
                        let short = shorter p in
                        let (t, i, f) = sound n (with_suffix (47 ∷ []) params) (from_slash p) (omega arith) (bytes_from p bytes.1)
                        (whole_with params stop (whole_step 256 rs w)) k more in
                        let inside = with_in params stop t k i in
                        (256 ∷ t, step_in 256 rs t k inside, fits_param t b p miss (fits_slash t p (stop_of params stop t k inside) has ∙ f))
                    | inr off ↦ absurd (let bad = rw (slash, miss, off) at found in cc)
                  ]
                ]
                | inr none ↦
                    let miss = not_slash b p none in
                    let rest : has_slash p ≡ false = rw miss at none in
                    (256 ∷ [], step_in 256 rs [] k (own_in params k (rw none at found)), fits_param [] b p miss (fits_end p rest))
              ]
          | inr all ↦ absurd (let bad = rw (no_catch_all rs w) at all in cc)
        ]
      ]

  -- a parameter goes on to a row that takes the rest
  param_some : (n : ℕ) (params : RowsOf K) (b : ℕ) (p u : List ℕ) (k : K) → Stop params → (b == 47) ≡ false → InRows u k params → fits true u p ≡ true
      → ((v : List ℕ) → InRows v k (with_suffix (47 ∷ []) params) → fits false v (from_slash p) ≡ true → IsSome (seek 0 (with_suffix (47 ∷ []) params) (from_slash p)))
      → IsSome (branch params b p)
  param_some n params b p [] k stop miss i f more =
      elim (cases_Bool (has_slash p)) [
        | inl slash ↦ absurd (false≢true (sym (fits_no_end p slash) ∙ f))
        | inr none ↦ rw (miss, none) (own_some params k i)
      ]
  param_some n params b p (x ∷ u) k stop miss i f more =
      let first = eqb-true x 47 (stop_of params stop (x ∷ u) k i) in
      let at_slash = rw first at i in
      elim (cases_Bool (has_slash p)) [
        | inl slash ↦
            let inside = in_with params stop u k at_slash in
            let g : fits false (47 ∷ u) (from_slash p) ≡ true = sym (fits_slash (47 ∷ u) p refl slash) ∙ rw first at f in
            rw (miss, slash, inside.1) (more (47 ∷ u) inside.0 g)
        | inr none ↦ absurd (false≢true (sym (fits_needs_slash x u p none) ∙ f))
      ]

  -- where some route takes the path, one is found
  pub complete : (n : ℕ) (rs : RowsOf K) (path : List ℕ) → length path ≤ n → AreWhole rs → (t : List ℕ) (k : K) → InRows t k rs → fits false t path ≡ true
      → IsSome (seek 0 rs path)
  unfolding seek
  complete n rs [] small w [] k i f = own_some rs k i
  complete n rs [] small w (x ∷ u) k i f = absurd (false≢true f)
  complete zero rs (b ∷ p) small w t k i f = absurd (omega arith)
  complete (suc n) rs (b ∷ p) small w [] k i f = absurd (false≢true f)
  complete (suc n) rs (b ∷ p) small w (x ∷ u) k i f =
      let within : length p ≤ n = omega arith in
      let params = step 256 rs in
      let stop = stop_step rs w in
      elim (cases_Bool (x == 256)) [
        | inl param ↦
            let same = eqb-true x 256 param in
            let parts = and_parts (not (b == 47)) (fits true u p) (rw param at f) in
            let miss : (b == 47) ≡ false = no_slash (b == 47) parts.0 in
            let inside = in_step 256 rs u k (rw same at i) in
            let short = shorter p in
            let some = param_some n params b p u k stop miss inside parts.1
            (λ v j g. complete n (with_suffix (47 ∷ []) params) (from_slash p) (omega arith) (whole_with params stop (whole_step 256 rs w)) v k j g) in
            or_right (seek 0 (step b rs) p) _ (or_left _ (own (step 257 rs)) (rw (by_param params b p stop) some))
        | inr literal ↦
            let parts = and_parts (x == b) (fits false u p) (rw literal at f) in
            let same = eqb-true x b parts.0 in
            or_left (seek 0 (step b rs) p) _ (complete n (step b rs) p within (whole_step b rs w) u k (in_step b rs u k (rw same at i)) parts.1)
      ]
    where
      no_slash : (c : Bool) → not c ≡ true → c ≡ false
      no_slash true h = absurd (false≢true h)
      no_slash false h = refl
